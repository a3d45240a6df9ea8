-- What an edit of a last holder changes in the data of the holder.
use Rattle.std.specs.Prelude.{◌≡◌, ℕ, Bool, true, false, is_some, List, [], Option, Some, None}
use Rattle.ild_cbor.specs.Nodes.{HasData}
use Rattle.ild_cbor.specs.declared.node.Node.{Node}
use Rattle.ild_splice_changes.specs.TreeChange.{insert_item, insert_entry, remove_item, remove_entry, Located, unchanged, one}
use Rattle.ild_data.specs.Data.{Data}
use Rattle.ild_data.specs.Key.{value_at}
use Rattle.ild_path_edits.specs.Table.{delete_part, insert_part, refusal_to_delete, slot_to_insert, slot_to_set}
use Rattle.ild_path_changes.specs.LastLift.{deleting, inserting, last_seen, map_last, named_last, setting, struct_last, with_data}
use Rattle.ild_path_changes.specs.Lift.{whole}
use Rattle.ild_path_changes.specs.Places.{field_data, field_named, field_place, place_of}
use Rattle.ild_schema.specs.Clear.{ClearStruct}
use Rattle.ild_schema.specs.Prelude.{anything}
use Rattle.ild_schema.specs.Slots.{form_of}
use Rattle.ild_schema.specs.Value.{Value}
use Rattle.ild_schema.specs.declared.def.Field.{Field}
use Rattle.ild_schema.specs.declared.def.MapForm.{MapForm}
use Rattle.ild_schema.specs.declared.def.StructDef.{StructDef}
use Rattle.ild_schema.specs.declared.number.Slot.{Slot}
use Rattle.ild_schema.specs.declared.row.Row.{Row}
use Rattle.ild_path_steps.specs.Steps.{carried}
use Rattle.ild_typed.specs.At.{seen}
use Rattle.ild_typed.specs.Composed.{map_form, struct_form}
use Rattle.ild_typed.specs.Hamt.{alone}
use Rattle.ild_typed.specs.Holder.{Holder, any_elements, any_entries, elements, entries, fields, member, nothing, value_of}
use Rattle.ild_typed.specs.Layer as L
use Rattle.ild_typed.specs.Represented.{represented}
use Rattle.ild_typed.specs.Segment.{set_part}
use Rattle.ild_typed.specs.Strings.{pair_data}
use Rattle.ild_path_last.specs.declared.change.LastChange.{LastChange}
use Rattle.ild_path_last.specs.declared.change.LastChange.TheVariants as C

-- the change of the holder's data, where the new part has the data x, and the whole becomes u
abbrev pub located : LastChange → Option Data → Option Data → Located
located C.Nothing x u = unchanged
located C.Whole x u = whole u
located (C.Replace steps) x u = carried steps u (whole x)
located (C.InsertItem i) x u = with_data (λ d. one [] (insert_item i d)) x
located (C.InsertPair i k) x u = with_data (λ d. one [] (insert_item i (pair_data (k.now, d)))) x
located (C.InsertEntry k) x u = with_data (λ d. one [] (insert_entry k.now d)) x
located (C.RemoveItem i) x u = one [] (remove_item i)
located (C.RemoveEntry k) x u = one [] (remove_entry k.now)

-- ---- the three verbs

-- what the last holder becomes, in a value of a slot
abbrev pub becomes : List Row → Slot → Holder → Option Data
becomes rows slot h = represented alone rows slot (value_of h)

-- where the part at s is set to w, with the data x, in a value whose data hold
abbrev pub SetIs : List Row → (Data → Type 0) → (Data → Type 0) → Slot → List ℕ → LastChange → Type 0
SetIs rows Holds New slot s result =
    (f w : Value) (t x : Data) (part : Slot) → represented alone rows slot f ≡ Some t → Holds t → slot_to_set (seen rows (slot, f)) s ≡ Some part → represented alone rows part w ≡ Some x → New x
    → last_seen alone rows (setting w) s (slot, f) ≡ located result (Some x) (becomes rows slot (set_part (seen rows (slot, f)) s w))

-- where w comes at s
abbrev pub InsertIs : List Row → (Data → Type 0) → (Data → Type 0) → Slot → List ℕ → LastChange → Type 0
InsertIs rows Holds New slot s result =
    (f w : Value) (t x : Data) (part : Slot) → represented alone rows slot f ≡ Some t → Holds t → slot_to_insert (seen rows (slot, f)) s ≡ Some part → represented alone rows part w ≡ Some x → New x
    → last_seen alone rows (inserting w) s (slot, f) ≡ located result (Some x) (becomes rows slot (insert_part (seen rows (slot, f)) s w))

-- where the part at s goes
abbrev pub DeleteIs : List Row → (Data → Type 0) → Slot → List ℕ → LastChange → Type 0
DeleteIs rows Holds slot s result =
    (f : Value) (t : Data) (x : Option Data) → represented alone rows slot f ≡ Some t → Holds t → refusal_to_delete (seen rows (slot, f)) s ≡ None
    → last_seen alone rows deleting s (slot, f) ≡ located result x (becomes rows slot (delete_part (seen rows (slot, f)) s))

-- ---- row by row

-- the item of the new part, where there is one
abbrev pub NewIs : Option Node → Option Data → Type 0
NewIs None None = Unit {0}
NewIs None (Some x) = ⊥
NewIs (Some n) None = ⊥
NewIs (Some n) (Some x) = HasData n x

-- what is written of the new part is the part
abbrev pub IsShown : Option Data → Option Data → Type 0
IsShown None x = Unit {0}
IsShown (Some d) x = x ≡ Some d

-- a holder whose parts have places
abbrev pub Tells : Bool → Holder → Type 0
Tells b (fields fs os) = b ≡ false
Tells b (member ms n v) = b ≡ false
Tells b (entries k slot paired ps) = b ≡ false
Tells b (elements slot vs) = b ≡ true
Tells b (any_entries ms) = b ≡ false
Tells b (any_elements ds) = b ≡ true
Tells b (nothing v) = Unit {0}

abbrev pub TellsListed : List Row → (Data → Type 0) → Slot → Bool → Type 0
TellsListed rows Holds slot result = (f : Value) (t : Data) → represented alone rows slot f ≡ Some t → Holds t → Tells result (seen rows (slot, f))

-- one whose parts have names
abbrev pub is_named : Holder → Bool
is_named (fields fs os) = true
is_named (member ms n v) = true
is_named (entries k slot paired ps) = true
is_named (elements slot vs) = false
is_named (any_entries ms) = true
is_named (any_elements ds) = false
is_named (nothing v) = false

-- in the slot of the part at s, what comes has these data
abbrev pub PartBecomes : Holder → List ℕ → (Slot → Option Data) → Option Data → Type 0
PartBecomes (fields fs os) s new d = (g : Field) → field_named s fs ≡ Some g → new g.slot ≡ d
PartBecomes (member ms n v) s new d = Unit {0}
PartBecomes (entries k slot paired ps) s new d = new slot ≡ d
PartBecomes (elements slot vs) s new d = Unit {0}
PartBecomes (any_entries ms) s new d = new anything ≡ d
PartBecomes (any_elements ds) s new d = Unit {0}
PartBecomes (nothing v) s new d = Unit {0}

abbrev pub ChangesNamed : List Row → (Data → Type 0) → (Option Data → Type 0) → Slot → List ℕ → LastChange → Type 0
ChangesNamed rows Holds New slot s result =
    (f : Value) (t : Data) (new : Slot → Option Data) (d x u : Option Data) → represented alone rows slot f ≡ Some t
    → Holds t → is_named (seen rows (slot, f)) ≡ true → PartBecomes (seen rows (slot, f)) s new d → New d → IsShown d x
    → named_last (form_of rows slot) (represented alone rows) (seen rows (slot, f)) s new u ≡ located result x u

-- in a map of a form with these entries
abbrev pub ChangesEntry : (Data → Type 0) → MapForm → List ℕ → Bool → LastChange → Type 0
ChangesEntry Holds form s after result =
    (es : List (List ℕ × Data)) (t : Data) (d x u : Option Data) → Holds t → map_form alone form (L.map es) ≡ Some t
    → after ≡ is_some d → IsShown d x → map_last form s (place_of s es) (value_at s es) d u ≡ located result x u

-- in a struct with these fields, of the one with a number
abbrev pub ChangesField : (Data → Type 0) → (Option Data → Type 0) → StructDef → ℕ → LastChange → Type 0
ChangesField Holds New def number result =
    (ds : List (Option Data)) (t : Data) (s : List ℕ) (g : Field) (d x u : Option Data) → Holds t → struct_form def.form def.fields ds ≡ Some t → ClearStruct def.form def.fields
    → field_named s def.fields ≡ Some g → number ≡ field_place s def.fields → New d → IsShown d x
    → struct_last def.form s def.fields ds g (field_data s def.fields ds) d u ≡ located result x u
