-- The end of a path in the innermost block, whose value is held.
use Rattle.std.specs.Prelude.{◌≡◌, ℕ, ◌+◌, ◌≤◌, true, List, [], ◌∷◌, ◌++◌, Some, Result, Ok, Err}
use Rattle.ild_data.specs.Data.{Data}
use Rattle.ild_edges.specs.Count.{Rose}
use Rattle.ild_edges.specs.Store.{Moment}
use Rattle.ild_path_held.specs.HeldEdits.{room_at}
use Rattle.ild_path_inward.specs.Levels.{CanGo, counts}
use Rattle.ild_path_place.specs.Places.{EndsAt}
use Rattle.ild_path_place.specs.inside.Slots.{FitsKey, SlotAnswer}
use Rattle.ild_path_place.specs.declared.ending.Found.{Found}
use Rattle.ild_path_place.specs.declared.fault.PathFault.{PathFault}
use Rattle.ild_path_place.specs.declared.fault.PathFault.TheVariants as F
use Rattle.ild_path_rules.specs.declared.delete.Refusal.TheVariants as R
use Rattle.ild_path_place.specs.declared.verb.Verb.{Verb}
use Rattle.ild_schema.specs.declared.row.Row.{Row}
use Rattle.ild_typed.specs.At.{InSlot, at}
use Rattle.ild_typed_fronts.specs.Front.{in_one_block}
use Rattle.ild_view.specs.declared.view.View.{View}

-- q, of these data, is held, and this is the view of its front
abbrev pub CanEnd : (List ℕ → List ℕ) → List Row → List (List ℕ) → ℕ → InSlot → Data → View → Type 0
CanEnd h rows was limit q d view = CanGo h rows was limit q d view

-- the segments lead in the block of q to the holder
pub record LeadsTo (rows : List Row) (limit : ℕ) (q : InSlot) (front : List (List ℕ)) (room : ℕ) (holder : InSlot) : Type 0 where
  pub there : at rows q front ≡ Some holder
  pub inside : in_one_block rows q front ≡ true
  pub room_is : room ≡ room_at rows limit q front

abbrev pub EndAnswer : (List ℕ → List ℕ) → List Row → List (List ℕ) → ℕ → InSlot → List (List ℕ) → InSlot → List ℕ → ℕ → Verb → Moment → Result Found PathFault → Moment → Type 0
EndAnswer h rows was limit q front holder s k verb m (Ok found) n =
    SlotAnswer rows holder s verb (Ok found.slot) × EndsAt h rows was limit q (front ++ s ∷ []) found.end × FitsKey rows holder s found.key_fits
EndAnswer h rows was limit q front holder s k verb m (Err (F.Path i)) n = (i ≡ k) × SlotAnswer rows holder s verb (Err R.Path)
EndAnswer h rows was limit q front holder s k verb m (Err F.Mismatch) n = SlotAnswer rows holder s verb (Err R.Mismatch)
EndAnswer h rows was limit q front holder s k verb m (Err (F.Block id why)) n = ⊥
EndAnswer h rows was limit q front holder s k verb m (Err F.Store) n = Rose m.faults n.faults
EndAnswer h rows was limit q front holder s k verb m (Err F.Memory) n = Unit {0}

pub record EndsThere (h : List ℕ → List ℕ) (rows : List Row) (was : List (List ℕ)) (limit : ℕ) (q : InSlot) (front : List (List ℕ))
    (holder : InSlot) (s : List ℕ) (k : ℕ) (verb : Verb) (m : Moment) (result : Result Found PathFault) (n : Moment) : Type 0 where
  pub answer : EndAnswer h rows was limit q front holder s k verb m result n
  pub gets : n.gets ≤ m.gets + counts h rows holder s
