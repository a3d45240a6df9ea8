use Rattle.std.proofs.Common.{◌-◌, length}
use Rattle.ild_schema.specs.Value.{Value}
use Rattle.ild_view.specs.View.{IsView, slot_of, table_of}
use Rattle.ild_inclusion.proofs.Onward.{IsOnPath}
use Rattle.ild_inclusion.proofs.following.follow.Given as goal

abbrev pub invariant-loop-k : goal.invariant-loop-k
invariant-loop-k g l =
    (f : Value) → IsView l.root.view f → IsOnPath g.H.KeyHash.hash_of (table_of l.root.view) l.root.room l.root.at (slot_of l.root.view, f) l.path l.root.left.now l.k l.stand

abbrev pub decreases-loop-k : goal.decreases-loop-k
decreases-loop-k g l = length l.path - l.k
