-- An edit at the end of a path through HAMTs, and the blocks of the changed value.
use Rattle.std.specs.Prelude.{◌≡◌, ◌⊎◌, ℕ, ◌≤◌, ◌+◌, Bool, true, Contains, IfOk, List, [], ◌∷◌, ◌++◌, length, Some, Result, Ok, Err}
use Rattle.std.specs.List.{AllByRecursion}
use Rattle.ild_edges.specs.Gained.{AreIdsGiven, Clashes}
use Rattle.ild_data.specs.Data.{Data}
use Rattle.ild_data.specs.Limits.{deepest, longest_block}
use Rattle.ild_data.specs.Spell.{spell}
use Rattle.ild_edges.specs.Count.{Rose}
use Rattle.ild_edges.specs.Store.{Moment, Later, block_at}
use Rattle.ild_edges.specs.Told.{IfTold, BothTold}
use Rattle.ild_schema.specs.declared.number.Slot.{Slot}
use Rattle.ild_schema.specs.declared.row.Row.{Row}
use Rattle.ild_schema.specs.Value.{Value}
use Rattle.ild_node_slots.specs.declared.fault.HamtFault.{HamtFault}
use Rattle.ild_node_slots.specs.declared.fault.HamtFault.TheVariants as F
use Rattle.ild_typed.specs.At.{InSlot}
use Rattle.ild_typed.specs.Blocks.{nodes}
use Rattle.ild_view.specs.View.{slot_of, table_of}
use Rattle.ild_view.specs.declared.view.View.{View}
use Rattle.ild_bulk.specs.Build.{any_long}
use Rattle.ild_edges.specs.Among.{IsIn}
use Rattle.ild_hamt.specs.declared.trail.Trail.{Trail}
use Rattle.ild_open_held.specs.Held.{IsHeld, IsHeldBlock}
use Rattle.ild_typed_fronts.specs.Front.{in_one_block}
use Rattle.ild_path_block.specs.declared.edit.PartEdit.{PartEdit}
pub use Rattle.ild_path_outward.specs.Level.{IsLevel}
use Rattle.ild_path_hops.specs.Hops.{AreHops}
use Rattle.ild_path_hops.specs.HopLaws.{path_of_hops}
use Rattle.ild_path_hops.specs.declared.hop.Hop.{Hop}
use Rattle.ild_path_sizes.specs.Long.{HasLongPart}
use Rattle.ild_path_way.specs.Way.{nodes_met}
use Rattle.ild_script_meaning.specs.Costs.{blocks_met}
use Rattle.ild_script_session.specs.Step.{IsWhole}
use Rattle.ild_typed_places.specs.Places.{children_of}
use Rattle.ild_path_ends.specs.Parts.{HasEnd, IsChange}
use Rattle.ild_path_ends.specs.Steps.{IsKeyIn}

-- the block is that of the whole, all of whose nodes are held
pub record IsRootHeld (h : List ℕ → List ℕ) (rows : List Row) (s : Slot) (c : Value) (u : Data) (held : List (List ℕ)) (b : List ℕ) : Type 0 where
  pub root : b ≡ spell u
  pub nodes_held : AllByRecursion (IsHeldBlock (block_at held)) (nodes h rows s c)

-- a block that came is one of c and no longer than a block may be; all nodes are held beneath that of the whole, and the children of a
-- node at one of the places where it stands
pub record Came (h : List ℕ → List ℕ) (rows : List Row) (s : Slot) (c : Value) (u : Data) (now : List (List ℕ)) (b : List ℕ) : Type 0 where
  pub among : Contains (spell u ∷ nodes h rows s c) b
  pub short : length b ≤ longest_block
  pub whole : IsRootHeld h rows s c u now b ⊎ IsWhole now (children_of h rows (s, c) b)

-- each block that is held now was held, or came so
pub record AddsBlocks (h : List ℕ → List ℕ) (rows : List Row) (s : Slot) (c : Value) (u : Data) (was now : List (List ℕ)) : Type 0 where
  pub came : (id b : List ℕ) → block_at now id ≡ Some b → (block_at was id ≡ Some b) ⊎ Came h rows s c u now b

-- the block of c, all of whose blocks are held; or why not
abbrev pub WholeAnswer : (List ℕ → List ℕ) → List Row → Slot → Value → Data → Moment → Result (List ℕ) HamtFault → Moment → Type 0
WholeAnswer h rows s c u m (Ok b) n = (b ≡ spell u) × IfTold n.blocks (λ now. IsHeld (block_at now) h rows deepest s u c × IsHeldBlock (block_at now) (spell u))
WholeAnswer h rows s c u m (Err F.Size) n = (any_long (nodes h rows s c) ≡ true) ⊎ HasLongPart h rows (s, c)
WholeAnswer h rows s c u m (Err F.Store) n = Rose m.faults n.faults
WholeAnswer h rows s c u m (Err (F.Clash id kept new)) n = IsIn new (spell u ∷ nodes h rows s c) × (length new ≤ longest_block) × Clashes n id.0 kept new
WholeAnswer h rows s c u m (Err F.Memory) n = Unit {0}
WholeAnswer h rows s c u m (Err e) n = ⊥

-- where the store tells its given ids, those of the root block of c and of all nodes on the way of the path in it are among them
abbrev pub GivesWhole : (List ℕ → List ℕ) → List Row → Slot → Value → Data → List (List ℕ) → Result (List ℕ) HamtFault → Moment → Type 0
GivesWhole h rows s c u path result n = IfOk result (λ b. IfTold n.given (AreIdsGiven (spell u ∷ nodes_met h rows (s, c) path)))

pub record EditsWhole (h : List ℕ → List ℕ) (rows : List Row) (s : Slot) (c : Value) (u : Data) (path : List (List ℕ)) (m : Moment) (result : Result (List ℕ) HamtFault) (n : Moment) : Type 0 where
  pub answer : WholeAnswer h rows s c u m result n
  pub later : Later m n
  pub adds : BothTold m.blocks n.blocks (AddsBlocks h rows s c u)
  pub puts : n.puts ≤ m.puts + blocks_met h rows (s, c) path
  pub given : GivesWhole h rows s c u path result n

-- ---- over a store that tells its blocks and holds the value, where the hops lead from it to q

-- an edit in the block of q
abbrev pub EditsInBlock : (List ℕ → List ℕ) → View → List Hop → List (List ℕ) → PartEdit → Moment → Result (List ℕ) HamtFault → Moment → Type 0
EditsInBlock h view hops path edit m result n =
    (is_key : ℕ → List ℕ → Bool) (was : List (List ℕ)) (v w c : Value) (t u : Data) (q : InSlot) (less : ℕ) → m.blocks ≡ Some was → IsLevel h is_key was deepest v t view
    → AreHops h (table_of view) was deepest (slot_of view, v) hops q less → in_one_block (table_of view) q path ≡ true → HasEnd edit path
    → IsChange h (table_of view) is_key was deepest (slot_of view, v) (path_of_hops hops ++ path) edit w c u
    → EditsWhole h (table_of view) (slot_of view) c u (path_of_hops hops ++ path) m result n

-- an edit at a key of a HAMT in it
abbrev pub EditsAtKey : (List ℕ → List ℕ) → View → List Hop → List (List ℕ) → Trail → PartEdit → Moment → Result (List ℕ) HamtFault → Moment → Type 0
EditsAtKey h view hops front trail edit m result n =
    (is_key : ℕ → List ℕ → Bool) (was : List (List ℕ)) (v w c : Value) (t u : Data) (q : InSlot) (less : ℕ) (k : List ℕ) → m.blocks ≡ Some was → IsLevel h is_key was deepest v t view
    → AreHops h (table_of view) was deepest (slot_of view, v) hops q less → IsKeyIn h (table_of view) was q front k trail
    → IsChange h (table_of view) is_key was deepest (slot_of view, v) (path_of_hops hops ++ (front ++ (k ∷ []))) edit w c u
    → EditsWhole h (table_of view) (slot_of view) c u (path_of_hops hops ++ (front ++ (k ∷ []))) m result n
