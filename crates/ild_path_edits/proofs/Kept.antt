-- What is used of values being typed: a property that goes to parts, and is kept where a part with it is set, inserted or deleted.
use Rattle.std.specs.Prelude.{◌≡◌, ℕ, List, Bool, Some, None}
use Rattle.ild_schema.specs.declared.number.Slot.{Slot}
use Rattle.ild_schema.specs.declared.row.Row.{Row}
use Rattle.ild_schema.specs.Prelude.{anything}
use Rattle.ild_schema.specs.Value.{Value}
use Rattle.ild_typed.specs.Holder.{value_of, of_any, data_in}
use Rattle.ild_typed.specs.Segment.{part, set_part}
use Rattle.ild_typed.specs.At.{InSlot, seen}
use Rattle.ild_path_edits.specs.Table.{slot_to_set, slot_to_insert, MayStand, insert_part, refusal_to_delete, delete_part}

-- It holds of values whose fields and members can be told apart, and in the slot of what stands inside an Any, of that alone.
pub record IsKept (rows : List Row) (is_key : ℕ → List ℕ → Bool) (P : Slot → Value → Type 0) : Type 0 where
  pub parts : (p q : InSlot) (s : List ℕ) → P p.0 p.1 → part (seen rows p) s ≡ Some q → P q.0 q.1
  pub slots : (p q : InSlot) (s : List ℕ) → P p.0 p.1 → part (seen rows p) s ≡ Some q → slot_to_set (seen rows p) s ≡ Some q.0
  pub there : (p q : InSlot) (s : List ℕ) → P p.0 p.1 → part (seen rows p) s ≡ Some q → MayStand is_key (seen rows p) s
  pub set : (p : InSlot) (s : List ℕ) (slot : Slot) (w : Value) → P p.0 p.1 → slot_to_set (seen rows p) s ≡ Some slot
      → MayStand is_key (seen rows p) s → P slot w → P p.0 (value_of (set_part (seen rows p) s w))
  pub inserted : (p : InSlot) (s : List ℕ) (slot : Slot) (w : Value) → P p.0 p.1 → slot_to_insert (seen rows p) s ≡ Some slot
      → MayStand is_key (seen rows p) s → P slot w → P p.0 (value_of (insert_part (seen rows p) s w))
  pub deleted : (p : InSlot) (s : List ℕ) → P p.0 p.1 → refusal_to_delete (seen rows p) s ≡ None → P p.0 (value_of (delete_part (seen rows p) s))
  pub inside : (v : Value) → P anything v → of_any (data_in v) ≡ v
