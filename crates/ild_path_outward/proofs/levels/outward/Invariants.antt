use Rattle.std.proofs.Common.{◌≡◌, ℕ, Bool, Some, List, length}
use Rattle.ild_data.specs.Data.{Data}
use Rattle.ild_edges.specs.Store.{Later}
use Rattle.ild_schema.specs.Value.{Value}
use Rattle.ild_view.specs.View.{slot_of, table_of}
use Rattle.ild_path_outward.specs.Outward.{IsNewEnd, with_end}
use Rattle.ild_path_hops.specs.Links.{AreLinked}
use Rattle.ild_path_hops.specs.HopLaws.{path_of_hops}
use Rattle.ild_path_outward.proofs.Carrying.{IsUnderway}
use Rattle.ild_path_outward.proofs.levels.outward.Given as goal

abbrev pub invariant-loop-hop : goal.invariant-loop-hop
invariant-loop-hop g l =
    ((g.K.Store.moment l.store).gets ≡ (g.K.Store.moment l.initial.store).gets) ×
    Later (g.K.Store.moment l.initial.store) (g.K.Store.moment l.store) ×
    ∥ AreLinked l.root l.hops.items ∥₁ ×
    ((is_key : ℕ → List ℕ → Bool) (was : List (List ℕ)) (room : ℕ) (v w : Value) (t u : Data) → (g.K.Store.moment l.initial.store).blocks ≡ Some was
    → IsNewEnd g.H.KeyHash.hash_of is_key was room v t l.root l.initial.hops.items w u l.initial.block
    → IsUnderway g.H.KeyHash.hash_of (table_of l.root) room (slot_of l.root) v t (with_end (table_of l.root) (slot_of l.root) v l.initial.hops.items w) (path_of_hops l.initial.hops.items) (g.K.Store.moment l.initial.store) l.hops.items l.block (g.K.Store.moment l.store))

abbrev pub decreases-loop-hop : goal.decreases-loop-hop
decreases-loop-hop g l = length l.hops.items
