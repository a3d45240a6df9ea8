use Rattle.std.proofs.Common.{◌≡◌, length}
use Rattle.std.specs.Vec.Iter.{into_iter_items, into_iter_len}
use Rattle.ild_resolve.specs.inside.Numbers.{number_in}
use Rattle.ild_resolve.proofs.DeclsLeft.{DeclsLeft}
use Rattle.ild_resolve.proofs.table.push_decls.Given as goal

abbrev pub invariant-loop-decl : goal.invariant-loop-decl
invariant-loop-decl l =
    (goal.iterator-loop-decl).can_next l.decl-iterator
    × (goal.iterator-loop-decl).is_finite l.decl-iterator
    × DeclsLeft (number_in l.fn.numbers) l.fn.rows.items l.fn.decls l.rows.items (into_iter_items l.decl-iterator)
    × (into_iter_len l.decl-iterator ≡ length (into_iter_items l.decl-iterator))
