-- An edit beneath HAMTs: from the new block of the innermost value outward to that of the whole.
use Rattle.std.specs.Prelude.{◌≡◌, ◌⊎◌, ℕ, ◌+◌, ◌≤◌, Bool, true, IfOk, List, length, Some, Result, Ok, Err}
use Rattle.ild_edges.specs.Gained.{AreIdsGiven, Clashes}
use Rattle.ild_data.specs.Data.{Data}
use Rattle.ild_data.specs.Limits.{longest_block}
use Rattle.ild_data.specs.Spell.{spell}
use Rattle.ild_edges.specs.Count.{Rose}
use Rattle.ild_edges.specs.Store.{Moment, Later, block_at}
use Rattle.ild_edges.specs.Told.{IfTold, BothTold}
use Rattle.ild_schema.specs.declared.number.Slot.{Slot}
use Rattle.ild_schema.specs.declared.row.Row.{Row}
use Rattle.ild_schema.specs.Value.{Value}
use Rattle.ild_node_slots.specs.declared.fault.HamtFault.{HamtFault}
use Rattle.ild_node_slots.specs.declared.fault.HamtFault.TheVariants as F
use Rattle.ild_typed.specs.At.{InSlot}
use Rattle.ild_typed.specs.Blocks.{nodes}
use Rattle.ild_typed.specs.Fits.{Fits}
use Rattle.ild_typed.specs.Hamt.{whole}
use Rattle.ild_typed.specs.Represented.{represented}
use Rattle.ild_view.specs.View.{slot_of, table_of}
use Rattle.ild_view.specs.declared.view.View.{View}
use Rattle.ild_bulk.specs.Build.{any_long}
use Rattle.ild_edges.specs.Among.{IsIn}
use Rattle.ild_open_held.specs.Held.{IsHeld}
use Rattle.ild_path_way.specs.Way.{nodes_met}
use Rattle.ild_path_within.specs.Within.{with_part}
use Rattle.ild_script_meaning.specs.Costs.{blocks_met}
use Rattle.ild_path_reroot.specs.Reroots.{AddsNodes}
use Rattle.ild_path_hop.specs.Levels.{IsLevel}
use Rattle.ild_path_sizes.specs.Long.{HasLongPart}
use Rattle.ild_path_hops.specs.Hops.{AreHops}
use Rattle.ild_path_hops.specs.HopLaws.{path_of_hops}
use Rattle.ild_path_hops.specs.declared.hop.Hop.{Hop}

-- v with w in the place to which the hops lead
abbrev pub with_end : List Row → Slot → Value → List Hop → Value → Value
with_end rows s v hops w = with_part rows (s, v) (path_of_hops hops) w

-- The hops lead from the value v of the view's block to one in the place of which w comes: w is held but for its block, which is the new
-- one. The whole has the data u then, and fits in the room in which v does.
pub record IsNewEnd (h : List ℕ → List ℕ) (is_key : ℕ → List ℕ → Bool) (was : List (List ℕ)) (room : ℕ)
    (v : Value) (t : Data) (view : View) (hops : List Hop) (w : Value) (u : Data) (new : List ℕ) : Type 0 where
  pub level : IsLevel h is_key was room v t view
  pub q : InSlot
  pub less : ℕ
  pub leads : AreHops h (table_of view) was room (slot_of view, v) hops q less
  pub around : ℕ
  pub d : Data
  pub comes : IsHeld (block_at was) h (table_of view) around q.0 d w
  pub spelled : new ≡ spell d
  pub short : length new ≤ longest_block
  pub fits : Fits (table_of view) room (slot_of view) (with_end (table_of view) (slot_of view) v hops w)
  pub tree : represented (whole h) (table_of view) (slot_of view) (with_end (table_of view) (slot_of view) v hops w) ≡ Some u

-- the block of the new value c, which is held but for this block; or why not
abbrev pub EndAnswer : (List ℕ → List ℕ) → List Row → ℕ → Slot → Value → Data → Moment → Result (List ℕ) HamtFault → Moment → Type 0
EndAnswer h rows room s c u m (Ok b) n = (b ≡ spell u) × (length b ≤ longest_block) × IfTold n.blocks (λ now. IsHeld (block_at now) h rows room s u c)
EndAnswer h rows room s c u m (Err F.Size) n = (any_long (nodes h rows s c) ≡ true) ⊎ HasLongPart h rows (s, c)
EndAnswer h rows room s c u m (Err F.Store) n = Rose m.faults n.faults
EndAnswer h rows room s c u m (Err (F.Clash id kept new)) n = IsIn new (nodes h rows s c) × (length new ≤ longest_block) × Clashes n id.0 kept new
EndAnswer h rows room s c u m (Err F.Memory) n = Unit {0}
EndAnswer h rows room s c u m (Err e) n = ⊥

-- where the store tells its given ids, those of all nodes on the way of the path in the new value are among them
abbrev pub GivesMet : (List ℕ → List ℕ) → List Row → InSlot → List (List ℕ) → Result (List ℕ) HamtFault → Moment → Type 0
GivesMet h rows p path result n = IfOk result (λ b. IfTold n.given (AreIdsGiven (nodes_met h rows p path)))

-- each put is of a node on the way of the path in the new value, of which the root's block is yet to be put
pub record SetsEnd (h : List ℕ → List ℕ) (rows : List Row) (room : ℕ) (s : Slot) (c : Value) (u : Data)
    (path : List (List ℕ)) (m : Moment) (result : Result (List ℕ) HamtFault) (n : Moment) : Type 0 where
  pub answer : EndAnswer h rows room s c u m result n
  pub later : Later m n
  pub adds : BothTold m.blocks n.blocks (AddsNodes h rows s c)
  pub puts : n.puts + 1 ≤ m.puts + blocks_met h rows (s, c) path
  pub given : GivesMet h rows (s, c) path result n

-- over a store that tells its blocks
abbrev pub CarriesOutward : (List ℕ → List ℕ) → View → List Hop → List ℕ → Moment → Result (List ℕ) HamtFault → Moment → Type 0
CarriesOutward h view hops new m result n =
    (is_key : ℕ → List ℕ → Bool) (was : List (List ℕ)) (room : ℕ) (v w : Value) (t u : Data) → m.blocks ≡ Some was → IsNewEnd h is_key was room v t view hops w u new
    → SetsEnd h (table_of view) room (slot_of view) (with_end (table_of view) (slot_of view) v hops w) u (path_of_hops hops) m result n
