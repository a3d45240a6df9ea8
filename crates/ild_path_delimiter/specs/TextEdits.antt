-- Edits of parts that are told by their texts.
use Rattle.std.specs.Prelude.{◌≡◌, ℕ, Bool, List, Option, Some, None}
use Rattle.ild_data.specs.Data.{text}
use Rattle.ild_path_delimiter.specs.declared.delimiter.TextEdit.{TextEdit}
use Rattle.ild_path_delimiter.specs.declared.delimiter.TextEdit.TheVariants as E
use Rattle.ild_path_edits.specs.Edit.{Edit, del_at, ins_at, new_slot, set_at}
use Rattle.ild_path_edits.specs.Table.{MayStand, delete_part, insert_part, refusal_to_delete, slot_to_insert, slot_to_set}
use Rattle.ild_schema.specs.Value.{Value}
use Rattle.ild_schema.specs.declared.number.Slot.{Slot}
use Rattle.ild_schema.specs.declared.row.Row.{Row}
use Rattle.ild_typed.specs.At.{InSlot}
use Rattle.ild_typed.specs.Hamt.{alone}
use Rattle.ild_typed.specs.Holder.{Holder}
use Rattle.ild_typed.specs.OfType.{OfType}
use Rattle.ild_typed.specs.Represented.{represented}
use Rattle.ild_typed.specs.Segment.{set_part}

-- with w as the new part
abbrev pub edit_of : TextEdit → Value → List (List ℕ) → Edit Value
edit_of (E.Set t) w path = set_at path w
edit_of (E.Insert t) w path = ins_at path w
edit_of E.Delete w path = del_at path

-- the text represents w in the slot to which it goes
abbrev pub TextIs : List Row → InSlot → List (List ℕ) → TextEdit → Value → Type 0
TextIs rows p path (E.Set t) w = (slot : Slot) → new_slot rows p (set_at path w) ≡ Some slot → OfType rows slot w × (represented alone rows slot w ≡ Some (text t.now))
TextIs rows p path (E.Insert t) w = (slot : Slot) → new_slot rows p (ins_at path w) ≡ Some slot → OfType rows slot w × (represented alone rows slot w ≡ Some (text t.now))
TextIs rows p path E.Delete w = Unit {0}

-- the text that it brings, if it does
abbrev pub brought : TextEdit → Option (List ℕ)
brought (E.Set t) = Some t.now
brought (E.Insert t) = Some t.now
brought E.Delete = None

-- what it does to the last holder
abbrev pub in_last : TextEdit → Value → Holder → List ℕ → Holder
in_last (E.Set t) w = λ h s. set_part h s w
in_last (E.Insert t) w = λ h s. insert_part h s w
in_last E.Delete w = delete_part

-- the table lets it change the part at a segment of a holder, by a value that stands as this text
abbrev pub CanEdit : List Row → (ℕ → List ℕ → Bool) → TextEdit → Holder → List ℕ → Value → Type 0
CanEdit rows is_key (E.Set t) h s w = (slot : Slot) × (slot_to_set h s ≡ Some slot) × MayStand is_key h s × OfType rows slot w × (represented alone rows slot w ≡ Some (text t.now))
CanEdit rows is_key (E.Insert t) h s w = (slot : Slot) × (slot_to_insert h s ≡ Some slot) × MayStand is_key h s × OfType rows slot w × (represented alone rows slot w ≡ Some (text t.now))
CanEdit rows is_key E.Delete h s w = refusal_to_delete h s ≡ None
