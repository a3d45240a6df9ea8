-- From the innermost block to that of the whole.
use Rattle.std.specs.Prelude.{◌≡◌, ℕ, Bool, List, Some, Result}
use Rattle.ild_data.specs.Data.{Data}
use Rattle.ild_data.specs.Limits.{deepest}
use Rattle.ild_edges.specs.Store.{Moment}
use Rattle.ild_schema.specs.Value.{Value}
use Rattle.ild_node_slots.specs.declared.fault.HamtFault.{HamtFault}
use Rattle.ild_view.specs.View.{slot_of, table_of}
use Rattle.ild_view.specs.declared.view.View.{View}
use Rattle.ild_path_hops.specs.HopLaws.{path_of_hops}
use Rattle.ild_path_hops.specs.declared.hop.Hop.{Hop}
use Rattle.ild_path_outward.specs.Outward.{IsNewEnd, with_end}
use Rattle.ild_path_ends.specs.Ends.{EditsWhole}

-- over a store that tells its blocks, where the innermost value becomes w
abbrev pub FinishesWhole : (List ℕ → List ℕ) → View → List Hop → List ℕ → Moment → Result (List ℕ) HamtFault → Moment → Type 0
FinishesWhole h view hops new m result n =
    (is_key : ℕ → List ℕ → Bool) (was : List (List ℕ)) (v w : Value) (t u : Data) → m.blocks ≡ Some was → IsNewEnd h is_key was deepest v t view hops w u new
    → EditsWhole h (table_of view) (slot_of view) (with_end (table_of view) (slot_of view) v hops w) u (path_of_hops hops) m result n
