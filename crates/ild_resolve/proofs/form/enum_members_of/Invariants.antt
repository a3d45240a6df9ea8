use Rattle.std.proofs.Common.{◌≡◌, ◌++◌, length}
use Rattle.std.specs.Vec.Iter.{into_iter_items, into_iter_len}
use Rattle.ild_resolve.specs.Forms.{enum_members}
use Rattle.ild_resolve.proofs.form.enum_members_of.Given as goal

abbrev pub invariant-loop-member : goal.invariant-loop-member
invariant-loop-member l =
    (goal.iterator-loop-member).can_next l.member-iterator
    × (goal.iterator-loop-member).is_finite l.member-iterator
    × (enum_members l.fn.members ≡ l.made.items ++ enum_members (into_iter_items l.member-iterator))
    × (into_iter_len l.member-iterator ≡ length (into_iter_items l.member-iterator))
