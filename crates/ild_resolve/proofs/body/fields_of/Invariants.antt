use Rattle.std.proofs.Common.{◌≡◌, length}
use Rattle.std.specs.Vec.Iter.{into_iter_items, into_iter_len}
use Rattle.ild_resolve.specs.inside.Numbers.{number_in}
use Rattle.ild_resolve.proofs.FieldsLeft.{FieldsLeft}
use Rattle.ild_resolve.proofs.body.fields_of.Given as goal

abbrev pub invariant-loop-part : goal.invariant-loop-part
invariant-loop-part l =
    (goal.iterator-loop-part).can_next l.part-iterator
    × (goal.iterator-loop-part).is_finite l.part-iterator
    × FieldsLeft (number_in l.fn.numbers) l.fn.rows.items l.fn.parts l.rows.items l.made.items (into_iter_items l.part-iterator)
    × (into_iter_len l.part-iterator ≡ length (into_iter_items l.part-iterator))
