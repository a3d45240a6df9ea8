-- The end of a path at the holder of its last segment.
use Rattle.std.specs.Prelude.{◌≡◌, ℕ, ◌+◌, ◌≤◌, List, [], ◌∷◌, ◌++◌, Result, Ok, Err}
use Rattle.ild_data.specs.Data.{Data}
use Rattle.ild_data.specs.Limits.{deepest}
use Rattle.ild_edges.specs.Count.{Rose}
use Rattle.ild_edges.specs.Store.{Moment, block_at}
use Rattle.ild_open_held.specs.Held.{IsHeld}
use Rattle.ild_path_entered.specs.Entered.{IsEntered}
use Rattle.ild_path_held.specs.HeldEdits.{room_at}
use Rattle.ild_path_inward.specs.Levels.{counts}
use Rattle.ild_path_place.specs.Places.{IsAtKey}
use Rattle.ild_path_place.specs.inside.Slots.{FitsKey, SlotAnswer}
use Rattle.ild_path_place.specs.declared.ending.Found.{Found}
use Rattle.ild_path_place.specs.declared.fault.PathFault.{PathFault}
use Rattle.ild_path_place.specs.declared.fault.PathFault.TheVariants as F
use Rattle.ild_path_place.specs.declared.place.End.TheVariants as D
use Rattle.ild_path_rules.specs.declared.delete.Refusal.{Refusal}
use Rattle.ild_path_rules.specs.declared.delete.Refusal.TheVariants as R
use Rattle.ild_path_place.specs.declared.verb.Verb.{Verb}
use Rattle.ild_schema.specs.declared.number.Slot.{Slot}
use Rattle.ild_schema.specs.declared.row.Row.{Row}
use Rattle.ild_schema.specs.Value.{Pairs, hamt, map}
use Rattle.ild_typed.specs.At.{InSlot}
use Rattle.ild_typed.specs.Schema.{IsSchema}
use Rattle.ild_view.specs.View.{IsView, slot_of}
use Rattle.ild_view.specs.declared.view.View.{View}

abbrev pub fault_at : ℕ → Refusal → PathFault
fault_at k R.Path = F.Path k
fault_at k R.Mismatch = F.Mismatch

-- in a block, at a holder that is no HAMT
abbrev pub EndsIn : List Row → InSlot → List (List ℕ) → List ℕ → ℕ → Verb → Result Found PathFault → Type 0
EndsIn rows q front s k verb (Ok found) = SlotAnswer rows q s verb (Ok found.slot) × (found.end ≡ D.InBlock (front ++ s ∷ [])) × FitsKey rows q s found.key_fits
EndsIn rows q front s k verb (Err (F.Path n)) = (n ≡ k) × SlotAnswer rows q s verb (Err R.Path)
EndsIn rows q front s k verb (Err F.Mismatch) = SlotAnswer rows q s verb (Err R.Mismatch)
EndsIn rows q front s k verb (Err (F.Block id why)) = ⊥
EndsIn rows q front s k verb (Err F.Store) = ⊥
EndsIn rows q front s k verb (Err F.Memory) = Unit {0}

-- the path leads to a HAMT, whose view this is, and whose value is held
pub record CanEndAt (h : List ℕ → List ℕ) (rows : List Row) (was : List (List ℕ)) (limit : ℕ) (q : InSlot) (front : List (List ℕ)) (room : ℕ) (view : View) : Type 0 where
  pub elem : Slot
  pub ps : Pairs
  pub tree : Data
  pub schema : IsSchema rows
  pub low : room ≤ deepest
  pub stands : IsView view (hamt tree)
  pub entered : IsEntered rows q front (slot_of view) elem ps
  pub held : IsHeld (block_at was) h rows room (slot_of view) tree (map ps)
  pub room_is : room ≡ room_at rows limit q front

abbrev pub KeyAnswer : (List ℕ → List ℕ) → List Row → List (List ℕ) → ℕ → InSlot → List (List ℕ) → List ℕ → ℕ → Verb → InSlot → Moment → Result Found PathFault → Moment → Type 0
KeyAnswer h rows was limit q front s k verb holder m (Ok found) n =
    SlotAnswer rows holder s verb (Ok found.slot) × ((trail : _) × (entry : _) × (found.end ≡ D.AtKey front trail entry) × (trail.key ≡ s) × IsAtKey h rows was limit q front trail entry)
    × FitsKey rows holder s found.key_fits
KeyAnswer h rows was limit q front s k verb holder m (Err (F.Path i)) n = (i ≡ k) × SlotAnswer rows holder s verb (Err R.Path)
KeyAnswer h rows was limit q front s k verb holder m (Err F.Mismatch) n = SlotAnswer rows holder s verb (Err R.Mismatch)
KeyAnswer h rows was limit q front s k verb holder m (Err (F.Block id why)) n = ⊥
KeyAnswer h rows was limit q front s k verb holder m (Err F.Store) n = Rose m.faults n.faults
KeyAnswer h rows was limit q front s k verb holder m (Err F.Memory) n = Unit {0}

-- of the HAMT with this slot
abbrev pub EndsKey : (h : List ℕ → List ℕ) (rows : List Row) (was : List (List ℕ)) (limit : ℕ) (q : InSlot) (front : List (List ℕ)) (room : ℕ) (view : View)
    → CanEndAt h rows was limit q front room view → List ℕ → ℕ → Verb → Moment → Result Found PathFault → Moment → Type 0
EndsKey h rows was limit q front room view x s k verb m result n =
    KeyAnswer h rows was limit q front s k verb (slot_of view, map x.ps) m result n × (n.gets ≤ m.gets + counts h rows (slot_of view, map x.ps) s)
