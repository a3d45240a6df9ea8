use Rattle.std.proofs.Common.{◌≡◌, length, None}
use Rattle.std.specs.Vec.Iter.{into_iter_items, into_iter_len}
use Rattle.ild_resolve.specs.Forms.{renamed, implied}
use Rattle.ild_resolve.proofs.form.settings.Given as goal

abbrev pub invariant-loop-opt : goal.invariant-loop-opt
invariant-loop-opt l =
    (goal.iterator-loop-opt).can_next l.opt-iterator
    × (goal.iterator-loop-opt).is_finite l.opt-iterator
    × (renamed None l.fn.opts ≡ renamed l.rename (into_iter_items l.opt-iterator))
    × (implied None l.fn.opts ≡ implied l.implicit (into_iter_items l.opt-iterator))
    × (into_iter_len l.opt-iterator ≡ length (into_iter_items l.opt-iterator))
