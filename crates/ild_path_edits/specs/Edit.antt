-- Edits: the changed value, or the first refusal. For a part that is given, and above it for the JSON text of a line.
use Rattle.std.specs.Prelude.{ℕ, IsUtf8, List, [], ◌∷◌, Bool, Option, Some, None, Result, Ok, Err, option_and_then, if◌then◌else◌}
use Rattle.std.specs.List.{AllByRecursion}
use Rattle.ild_data.specs.Data.{Data}
use Rattle.ild_schema.specs.declared.number.Slot.{Slot}
use Rattle.ild_schema.specs.declared.row.Row.{Row}
use Rattle.ild_schema.specs.Value.{Value}
use Rattle.ild_script.specs.declared.reply.No.{No}
use Rattle.ild_script.specs.declared.reply.No.TheVariants as N
use Rattle.ild_typed.specs.Holder.{Holder}
use Rattle.ild_typed.specs.Segment.{set_part}
use Rattle.ild_typed.specs.At.{InSlot, last_holder, changed_in}
use Rattle.ild_value_meaning.specs.MeantRead.{meant}
use Rattle.ild_path_edits.specs.Table.{slot_to_set, slot_to_insert, key_fits, insert_part, refusal_to_delete, delete_part}

-- an edit: something is set or inserted at a path, or what a path leads to is deleted
pub data Edit (X : Type 0) : Type 0 where
  set_at : List (List ℕ) → X → Edit X
  ins_at : List (List ℕ) → X → Edit X
  del_at : List (List ℕ) → Edit X

abbrev pub path_of : {X : Type 0} → Edit X → List (List ℕ)
path_of (set_at path x) = path
path_of (ins_at path x) = path
path_of (del_at path) = path

-- each segment is a text, as those of a line are
abbrev pub HasTextPath : {X : Type 0} → Edit X → Type 0
HasTextPath e = AllByRecursion IsUtf8 (path_of e)

-- the slot of the part that an edit brings, or none where there is no such place
abbrev pub new_slot : {X : Type 0} → List Row → InSlot → Edit X → Option Slot
new_slot rows p (set_at [] x) = Some p.0
new_slot rows p (set_at (s ∷ ss) x) = option_and_then (λ (l : Holder × List ℕ). slot_to_set l.0 l.1) (last_holder rows p s ss)
new_slot rows p (ins_at [] x) = None
new_slot rows p (ins_at (s ∷ ss) x) = option_and_then (λ (l : Holder × List ℕ). slot_to_insert l.0 l.1) (last_holder rows p s ss)
new_slot rows p (del_at path) = None

-- ---- a part that is given

-- path where there is no slot, mismatch where the key is none of the type
abbrev pub placed : Bool → Value → Option Slot → Result Value No
placed fits c None = Err N.Path
placed fits c (Some slot) = if fits then Ok c else Err N.Mismatch

abbrev pub set_in : (ℕ → List ℕ → Bool) → Value → Option (Holder × List ℕ) → Result Value No
set_in is_key c None = Err N.Path
set_in is_key c (Some l) = placed (key_fits is_key l.0 l.1) c (slot_to_set l.0 l.1)

abbrev pub ins_in : (ℕ → List ℕ → Bool) → Value → Option (Holder × List ℕ) → Result Value No
ins_in is_key c None = Err N.Path
ins_in is_key c (Some l) = placed (key_fits is_key l.0 l.1) c (slot_to_insert l.0 l.1)

abbrev pub unless_kept : Value → Option No → Result Value No
unless_kept c None = Ok c
unless_kept c (Some refusal) = Err refusal

abbrev pub del_in : Value → Option (Holder × List ℕ) → Result Value No
del_in c None = Err N.Path
del_in c (Some l) = unless_kept c (refusal_to_delete l.0 l.1)

-- The changed value, or path or mismatch. `is_key` tests whether a text is one of a key type.
abbrev pub change : List Row → (ℕ → List ℕ → Bool) → InSlot → Edit Value → Result Value No
change rows is_key p (set_at [] w) = Ok w
change rows is_key p (set_at (s ∷ ss) w) = set_in is_key (changed_in rows (λ h t. set_part h t w) p s ss) (last_holder rows p s ss)
change rows is_key p (ins_at [] w) = Err N.Path
change rows is_key p (ins_at (s ∷ ss) w) = ins_in is_key (changed_in rows (λ h t. insert_part h t w) p s ss) (last_holder rows p s ss)
change rows is_key p (del_at []) = Err N.Mismatch
change rows is_key p (del_at (s ∷ ss)) = del_in (changed_in rows delete_part p s ss) (last_holder rows p s ss)

-- ---- the JSON text of a line

abbrev pub meant_or : Option Value → Result Value No
meant_or None = Err N.Mismatch
meant_or (Some w) = Ok w

abbrev pub read_or : (Data → Option Value) → Option Data → Result Value No
read_or by None = Err N.Json
read_or by (Some d) = meant_or (by d)

-- the part that a json text means in a slot: path where there is no slot, then json, then mismatch
abbrev pub new_part : List Row → (ℕ → List ℕ → Bool) → (List ℕ → Option Data) → Option Slot → List ℕ → Result Value No
new_part rows is_key read None json = Err N.Path
new_part rows is_key read (Some slot) json = read_or (meant rows is_key slot) (read json)

-- the edit that a line's edit means for a value; `read` gives the data of a JSON text
abbrev pub with_part : (Value → Edit Value) → Result Value No → Result (Edit Value) No
with_part of (Ok w) = Ok (of w)
with_part of (Err refusal) = Err refusal

abbrev pub meant_edit : List Row → (ℕ → List ℕ → Bool) → (List ℕ → Option Data) → InSlot → Edit (List ℕ) → Result (Edit Value) No
meant_edit rows is_key read p (set_at path json) = with_part (set_at path) (new_part rows is_key read (new_slot rows p (set_at path json)) json)
meant_edit rows is_key read p (ins_at path json) = with_part (ins_at path) (new_part rows is_key read (new_slot rows p (ins_at path json)) json)
meant_edit rows is_key read p (del_at path) = Ok (del_at path)

-- the changed value, or the first of path, json and mismatch
abbrev pub changed_by : List Row → (ℕ → List ℕ → Bool) → InSlot → Result (Edit Value) No → Result Value No
changed_by rows is_key p (Ok e) = change rows is_key p e
changed_by rows is_key p (Err refusal) = Err refusal

abbrev pub line_change : List Row → (ℕ → List ℕ → Bool) → (List ℕ → Option Data) → InSlot → Edit (List ℕ) → Result Value No
line_change rows is_key read p e = changed_by rows is_key p (meant_edit rows is_key read p e)
