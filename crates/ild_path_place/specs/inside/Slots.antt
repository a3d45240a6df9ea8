-- What may be done at a segment of a holder: the slot of the part that comes, or of the one that goes.
use Rattle.std.specs.Prelude.{◌≡◌, ◌<◌, ℕ, Bool, true, false, List, length, Option, Some, None, Result, Ok, Err, option_map}
use Rattle.ild_path_edits.specs.Table.{key_fits, refusal_to_delete, slot_to_insert, slot_to_set}
use Rattle.ild_path_rules.specs.Refusal.{refusal_of}
use Rattle.ild_path_rules.specs.declared.delete.Refusal.{Refusal}
use Rattle.ild_path_rules.specs.declared.delete.Refusal.TheVariants as R
use Rattle.ild_path_place.specs.declared.verb.Verb.{Verb}
use Rattle.ild_path_place.specs.declared.verb.Verb.TheVariants as V
use Rattle.ild_schema.specs.declared.number.Slot.{Slot}
use Rattle.ild_schema.specs.declared.row.Row.{Row}
use Rattle.ild_typed.specs.At.{InSlot, seen}
use Rattle.ild_typed.specs.OfType.{TestsKeys}
use Rattle.ild_typed.specs.Segment.{part}
use Rattle.ild_view.specs.Safe.{is_safe}

abbrev pub part_slot : List Row → InSlot → List ℕ → Option Slot
part_slot rows q s = option_map (λ r. r.0) (part (seen rows q) s)

abbrev pub SlotAnswer : List Row → InSlot → List ℕ → Verb → Result Slot Refusal → Type 0
SlotAnswer rows q s V.Set (Ok slot) = slot_to_set (seen rows q) s ≡ Some slot
SlotAnswer rows q s V.Set (Err R.Path) = slot_to_set (seen rows q) s ≡ None
SlotAnswer rows q s V.Set (Err R.Mismatch) = ⊥
SlotAnswer rows q s V.Ins (Ok slot) = slot_to_insert (seen rows q) s ≡ Some slot
SlotAnswer rows q s V.Ins (Err R.Path) = slot_to_insert (seen rows q) s ≡ None
SlotAnswer rows q s V.Ins (Err R.Mismatch) = ⊥
SlotAnswer rows q s V.Del (Ok slot) = (refusal_to_delete (seen rows q) s ≡ None) × (part_slot rows q s ≡ Some slot)
SlotAnswer rows q s V.Del (Err refusal) = refusal_to_delete (seen rows q) s ≡ Some (refusal_of refusal)

-- whether the segment may be a key
abbrev pub FitsKey : List Row → InSlot → List ℕ → Bool → Type 0
FitsKey rows q s b = (is_key : ℕ → List ℕ → Bool) → TestsKeys rows is_key → b ≡ key_fits is_key (seen rows q) s

abbrev pub IsSlotOr : Option Slot → Result Slot Refusal → Type 0
IsSlotOr o (Ok slot) = o ≡ Some slot
IsSlotOr o (Err R.Path) = o ≡ None
IsSlotOr o (Err R.Mismatch) = ⊥

-- at a key, by whether it is there
abbrev pub KeySlot : Slot → Bool → Verb → Result Slot Refusal → Type 0
KeySlot slot there V.Set r = r ≡ Ok slot
KeySlot slot true V.Ins r = r ≡ Err R.Path
KeySlot slot false V.Ins r = r ≡ Ok slot
KeySlot slot true V.Del r = r ≡ Ok slot
KeySlot slot false V.Del r = r ≡ Err R.Path

-- a slot of the table, in which null, where it may stand, stands for null alone
abbrev pub IsPartSlot : List Row → Slot → Type 0
IsPartSlot rows slot = (slot.ty.0 < length rows) × (is_safe rows slot ≡ true)
