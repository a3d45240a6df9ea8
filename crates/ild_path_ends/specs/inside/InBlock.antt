-- The block of the innermost value that an edit in it makes.
use Rattle.std.specs.Prelude.{◌≡◌, ℕ, Bool, true, List, ◌++◌, Result}
use Rattle.ild_data.specs.Data.{Data}
use Rattle.ild_data.specs.Limits.{deepest}
use Rattle.ild_data.specs.Spell.{spell}
use Rattle.ild_edges.specs.Store.{block_at}
use Rattle.ild_schema.specs.declared.number.Slot.{Slot}
use Rattle.ild_schema.specs.declared.row.Row.{Row}
use Rattle.ild_schema.specs.Value.{Value}
use Rattle.ild_node_slots.specs.declared.fault.HamtFault.{HamtFault}
use Rattle.ild_typed.specs.At.{InSlot}
use Rattle.ild_view.specs.View.{slot_of, table_of}
use Rattle.ild_view.specs.declared.view.View.{View}
use Rattle.ild_open_held.specs.Held.{IsHeld}
use Rattle.ild_typed_fronts.specs.Front.{in_one_block}
use Rattle.ild_path_block.specs.declared.edit.PartEdit.{PartEdit}
use Rattle.ild_path_outward.specs.Level.{IsLevel}
use Rattle.ild_path_hops.specs.Hops.{AreHops}
use Rattle.ild_path_hops.specs.HopLaws.{path_of_hops}
use Rattle.ild_path_hops.specs.declared.hop.Hop.{Hop}
use Rattle.ild_path_outward.specs.Outward.{with_end}
use Rattle.ild_path_reroot.specs.Reroots.{MakesRoot}
use Rattle.ild_path_ends.specs.Parts.{HasEnd, IsChange}

-- the innermost value becomes this one, with the data d, so that the whole is c; the path of the edit is one in its block still
pub record IsInnerChange (h : List ℕ → List ℕ) (rows : List Row) (was : List (List ℕ)) (s : Slot) (v : Value)
    (hops : List Hop) (q : InSlot) (less : ℕ) (path : List (List ℕ)) (c : Value) (d : Data) : Type 0 where
  pub new : Value
  pub held : IsHeld (block_at was) h rows less q.0 d new
  pub made : with_end rows s v hops new ≡ c
  pub inside : in_one_block rows (q.0, new) path ≡ true

-- its block
pub record MakesInner (h : List ℕ → List ℕ) (rows : List Row) (was : List (List ℕ)) (s : Slot) (v : Value) (hops : List Hop)
    (q : InSlot) (less : ℕ) (path : List (List ℕ)) (c : Value) (result : Result (List ℕ) HamtFault) : Type 0 where
  pub tree : Data
  pub change : IsInnerChange h rows was s v hops q less path c tree
  pub made : MakesRoot (spell tree) result

abbrev pub ChangesBlock : View → List Hop → List (List ℕ) → PartEdit → Result (List ℕ) HamtFault → Type 0
ChangesBlock view hops path edit result =
    (h : List ℕ → List ℕ) (is_key : ℕ → List ℕ → Bool) (was : List (List ℕ)) (v w c : Value) (t u : Data) (q : InSlot) (less : ℕ) → IsLevel h is_key was deepest v t view
    → AreHops h (table_of view) was deepest (slot_of view, v) hops q less → in_one_block (table_of view) q path ≡ true → HasEnd edit path
    → IsChange h (table_of view) is_key was deepest (slot_of view, v) (path_of_hops hops ++ path) edit w c u
    → MakesInner h (table_of view) was (slot_of view) v hops q less path c result
