-- Where a path stops: the last part that it reaches, and the segments that are left. From it follow the part to which a path leads,
-- the HAMT that has to be entered, and the segment at which an edit has no place.
use Rattle.std.specs.Prelude.{◌≡◌, ◌↔◌, ℕ, ◌+◌, ◌-◌, Bool, true, false, is_some, List, [], ◌∷◌, length, Option, Some, None, Err}
use Rattle.std.specs.Option.{option_map_or}
use Rattle.ild_schema.specs.declared.row.Row.{Row}
use Rattle.ild_schema.specs.Value.{Value}
use Rattle.ild_script.specs.declared.reply.No.{No}
use Rattle.ild_script.specs.declared.reply.No.TheVariants as N
use Rattle.ild_typed.specs.At.{InSlot, seen, at, Reach, here, or_enter, reached, last_holder}
use Rattle.ild_typed.specs.Holder.{Holder}
use Rattle.ild_typed.specs.Segment.{part}
use Rattle.ild_path_edits.specs.Edit.{Edit, set_at, ins_at, del_at, change}
use Rattle.ild_path_edits.specs.Table.{slot_to_set, slot_to_insert, refusal_to_delete}

pub record Stop : Type 0 where
  pub part : InSlot
  pub left : List (List ℕ)

abbrev pub stopped : List Row → InSlot → List (List ℕ) → Stop
stopped rows p [] = record { part = p; left = [] }
stopped rows p (s ∷ ss) = option_map_or (λ q. stopped rows q ss) (part (seen rows p) s) (record { part = p; left = s ∷ ss })

abbrev pub part_along : InSlot → List (List ℕ) → Option InSlot
part_along p [] = Some p
part_along p (s ∷ ss) = None

-- of so many segments in all, this part was reached with these left
abbrev pub reach_at : ℕ → InSlot → List (List ℕ) → Reach
reach_at count p [] = here p
reach_at count p (s ∷ ss) = or_enter (count - length (s ∷ ss)) p.0 p.1

abbrev pub StopsTell : Type 0
StopsTell = (rows : List Row) (k : ℕ) (p : InSlot) (path : List (List ℕ))
    → (at rows p path ≡ part_along (stopped rows p path).part (stopped rows p path).left)
    × (reached rows k p path ≡ reach_at (k + length path) (stopped rows p path).part (stopped rows p path).left)

-- ---- an edit without a place

abbrev pub may_delete : Option No → Bool
may_delete (Some N.Path) = false
may_delete o = true

-- the segment where the path stops, or the last one where the table allows nothing there
abbrev pub fault_by : ℕ → ℕ → (Holder → List ℕ → Bool) → Option (Holder × List ℕ) → Option ℕ
fault_by stop last allows None = Some stop
fault_by stop last allows (Some l) = fault_unless (allows l.0 l.1) where
  fault_unless : Bool → Option ℕ
  fault_unless true = None
  fault_unless false = Some last

abbrev pub fault_in : List Row → InSlot → (Holder → List ℕ → Bool) → List ℕ → List (List ℕ) → Option ℕ
fault_in rows p allows s ss = fault_by (length (s ∷ ss) - length (stopped rows p (s ∷ ss)).left) (length ss) allows (last_holder rows p s ss)

-- the segment at which an edit is refused as one without a place; for what can't be inserted at the top, 0
abbrev pub place_fault : {X : Type 0} → List Row → InSlot → Edit X → Option ℕ
place_fault rows p (set_at [] x) = None
place_fault rows p (set_at (s ∷ ss) x) = fault_in rows p (λ h t. is_some (slot_to_set h t)) s ss
place_fault rows p (ins_at [] x) = Some 0
place_fault rows p (ins_at (s ∷ ss) x) = fault_in rows p (λ h t. is_some (slot_to_insert h t)) s ss
place_fault rows p (del_at []) = None
place_fault rows p (del_at (s ∷ ss)) = fault_in rows p (λ h t. may_delete (refusal_to_delete h t)) s ss

abbrev pub PathFaults : Type 0
PathFaults = (rows : List Row) (is_key : ℕ → List ℕ → Bool) (p : InSlot) (e : Edit Value) → (change rows is_key p e ≡ Err N.Path) ↔ ((k : ℕ) × (place_fault rows p e ≡ Some k))
