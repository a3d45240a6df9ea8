-- The table of edits: by the holder of the last segment, the slot of the new part, or none where there is no such place, and what
-- becomes of the holder.
use Rattle.std.specs.Prelude.{◌≡◌, ℕ, IsUtf8, List, [], ◌∷◌, length, codes, Bool, true, ◌||◌, is_some, nat_le, Option, Some, None, slice_get, option_map, option_and_then, insert, remove, if◌then◌else◌}
use Rattle.ild_data.specs.Key.{same_text, value_at, without}
use Rattle.ild_schema.specs.declared.def.Field.{Field}
use Rattle.ild_schema.specs.declared.def.Member.{Member}
use Rattle.ild_schema.specs.declared.number.Slot.{Slot}
use Rattle.ild_schema.specs.Prelude.{anything}
use Rattle.ild_schema.specs.Value.{Value}
use Rattle.ild_script.specs.declared.reply.No.{No}
use Rattle.ild_script.specs.declared.reply.No.TheVariants as N
use Rattle.ild_schema.specs.Slots.{plainly}
use Rattle.ild_typed.specs.Holder.{Holder, fields, member, entries, elements, any_entries, any_elements, nothing, data_in}
use Rattle.ild_typed.specs.Segment.{index_of, set_field, member_named, held_as, at_index, set_part}

-- set: any declared field, present or not; any member, any key, an element that is there
abbrev pub declared_slot : List ℕ → List Field → List (Option Value) → Option Slot
declared_slot name [] os = None
declared_slot name (f ∷ fs) [] = None
declared_slot name (f ∷ fs) (o ∷ os) = if same_text name f.name then Some f.slot else declared_slot name fs os

abbrev pub slot_to_set : Holder → List ℕ → Option Slot
slot_to_set (fields fs os) s = declared_slot s fs os
slot_to_set (member ms n v) s = option_map (λ (p : ℕ × Member). plainly (p.1).ty) (member_named s ms)
slot_to_set (entries key slot paired ps) s = Some slot
slot_to_set (elements slot vs) s = option_map (λ v. slot) (option_and_then (λ i. slice_get vs i) (index_of s))
slot_to_set (any_entries ms) s = Some anything
slot_to_set (any_elements ds) s = option_map (λ d. anything) (option_and_then (λ i. slice_get ds i) (index_of s))
slot_to_set (nothing v) s = None

-- whether a key that is not there is a text of the key type
abbrev pub key_fits : (ℕ → List ℕ → Bool) → Holder → List ℕ → Bool
key_fits is_key (fields fs os) s = true
key_fits is_key (member ms n v) s = true
key_fits is_key (entries key slot paired ps) s = is_some (value_at s ps) || is_key key s
key_fits is_key (elements slot vs) s = true
key_fits is_key (any_entries ms) s = true
key_fits is_key (any_elements ds) s = true
key_fits is_key (nothing v) s = true

-- what may stand at a segment of a holder: a key of the key type, and inside an Any each text
abbrev pub MayStand : (ℕ → List ℕ → Bool) → Holder → List ℕ → Type 0
MayStand is_key (any_entries ms) s = IsUtf8 s
MayStand is_key h s = key_fits is_key h s ≡ true

-- ins: an optional field that is absent, a key that is not there, an index up to the length, or `-` for the end
abbrev pub if_absent : Slot → Bool → Option Value → Option Slot
if_absent slot optional (Some v) = None
if_absent slot optional None = if optional then Some slot else None

abbrev pub slot_left_out : List ℕ → List Field → List (Option Value) → Option Slot
slot_left_out name [] os = None
slot_left_out name (f ∷ fs) [] = None
slot_left_out name (f ∷ fs) (o ∷ os) = if same_text name f.name then if_absent f.slot f.optional o else slot_left_out name fs os

abbrev pub up_to : ℕ → Option ℕ → Option ℕ
up_to n None = None
up_to n (Some i) = if nat_le i n then Some i else None

unfoldable pub new_index : ℕ → List ℕ → Option ℕ
new_index n s = if same_text s (codes "-") then Some n else up_to n (index_of s)

abbrev pub slot_to_insert : Holder → List ℕ → Option Slot
slot_to_insert (fields fs os) s = slot_left_out s fs os
slot_to_insert (member ms n v) s = None
slot_to_insert (entries key slot paired ps) s = if is_some (value_at s ps) then None else Some slot
slot_to_insert (elements slot vs) s = option_map (λ i. slot) (new_index (length vs) s)
slot_to_insert (any_entries ms) s = if is_some (value_at s ms) then None else Some anything
slot_to_insert (any_elements ds) s = option_map (λ i. anything) (new_index (length ds) s)
slot_to_insert (nothing v) s = None

abbrev pub insert_part : Holder → List ℕ → Value → Holder
insert_part (fields fs os) s w = set_part (fields fs os) s w
insert_part (member ms n v) s w = set_part (member ms n v) s w
insert_part (entries key slot paired ps) s w = set_part (entries key slot paired ps) s w
insert_part (elements slot vs) s w = elements slot (at_index (λ i xs. insert xs i w) (new_index (length vs) s) vs)
insert_part (any_entries ms) s w = set_part (any_entries ms) s w
insert_part (any_elements ds) s w = any_elements (at_index (λ i xs. insert xs i (data_in w)) (new_index (length ds) s) ds)
insert_part (nothing v) s w = nothing v

-- del: a present optional field, a key or an element that is there; another field or a member that is there is a mismatch
abbrev pub if_present : Bool → Option Value → Option No
if_present optional None = Some N.Path
if_present optional (Some v) = if optional then None else Some N.Mismatch

abbrev pub field_kept : List ℕ → List Field → List (Option Value) → Option No
field_kept name [] os = Some N.Path
field_kept name (f ∷ fs) [] = Some N.Path
field_kept name (f ∷ fs) (o ∷ os) = if same_text name f.name then if_present f.optional o else field_kept name fs os

abbrev pub unless_there : {X : Type 0} → Option X → Option No
unless_there None = Some N.Path
unless_there (Some x) = None

abbrev pub never : {X : Type 0} → Option X → Option No
never None = Some N.Path
never (Some x) = Some N.Mismatch

-- why a part cannot be deleted
abbrev pub refusal_to_delete : Holder → List ℕ → Option No
refusal_to_delete (fields fs os) s = field_kept s fs os
refusal_to_delete (member ms n v) s = never (held_as s v (slice_get ms n))
refusal_to_delete (entries key slot paired ps) s = unless_there (value_at s ps)
refusal_to_delete (elements slot vs) s = unless_there (option_and_then (λ i. slice_get vs i) (index_of s))
refusal_to_delete (any_entries ms) s = unless_there (value_at s ms)
refusal_to_delete (any_elements ds) s = unless_there (option_and_then (λ i. slice_get ds i) (index_of s))
refusal_to_delete (nothing v) s = Some N.Path

abbrev pub delete_part : Holder → List ℕ → Holder
delete_part (fields fs os) s = fields fs (set_field s None fs os)
delete_part (member ms n v) s = member ms n v
delete_part (entries key slot paired ps) s = entries key slot paired (without s ps)
delete_part (elements slot vs) s = elements slot (at_index (λ i xs. remove xs i) (index_of s) vs)
delete_part (any_entries ms) s = any_entries (without s ms)
delete_part (any_elements ds) s = any_elements (at_index (λ i xs. remove xs i) (index_of s) ds)
delete_part (nothing v) s = nothing v
