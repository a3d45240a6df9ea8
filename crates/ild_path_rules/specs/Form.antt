-- What a view holds parts as: the form of its holder, with what the schema says of the parts.
use Rattle.std.specs.Prelude.{◌≡◌, ◌&&◌, ◌<◌, ℕ, IfSome, Bool, true, false, not, cond, List, length, Option, Some, None}
use Rattle.std.specs.List.{find}
use Rattle.std.specs.Option.{option_map_or}
use Rattle.ild_path_rules.specs.declared.form.Form.{Form}
use Rattle.ild_path_rules.specs.declared.form.Form.TheVariants as F
use Rattle.ild_data.specs.Data.{Data}
use Rattle.ild_data.specs.Key.{same_text}
use Rattle.ild_schema.specs.Prelude.{anything}
use Rattle.ild_schema.specs.Slots.{form_of}
use Rattle.ild_schema.specs.Value.{Value}
use Rattle.ild_schema.specs.declared.def.Field.{Field}
use Rattle.ild_schema.specs.declared.def.MapForm.{MapForm}
use Rattle.ild_schema.specs.declared.def.MapForm.TheVariants as MF
use Rattle.ild_schema.specs.declared.def.Member.{Member}
use Rattle.ild_schema.specs.declared.def.StructDef.{StructDef}
use Rattle.ild_schema.specs.declared.def.TypeDef.TheVariants as D
use Rattle.ild_schema.specs.declared.def.UnionDef.{UnionDef}
use Rattle.ild_schema.specs.declared.number.Slot.{Slot}
use Rattle.ild_schema.specs.declared.number.TypeNo.{TypeNo}
use Rattle.ild_schema.specs.declared.row.Row.{Row}
use Rattle.ild_typed.specs.Holder.{Holder, any_elements, any_entries, elements, entries, fields, member, nothing}
use Rattle.ild_path_edits.specs.Table.{key_fits}
use Rattle.ild_typed.specs.At.{seen}
use Rattle.ild_typed.specs.OfType.{TestsKeys}
use Rattle.ild_view.specs.View.{IsView, slot_of, table_of}
use Rattle.ild_view.specs.declared.view.View.{View}

-- the fields of a struct, each with its value or none
pub record HoldsFields (rows : List Row) (s : Slot) (def : StructDef) (h : Holder) : Type 0 where
  pub values : List (Option Value)
  pub is : h ≡ fields def.fields values
  pub each : length def.fields ≡ length values
  pub known : form_of rows s ≡ Some (D.Struct def)

-- a member of a union
pub record HoldsMember (rows : List Row) (s : Slot) (def : UnionDef) (h : Holder) : Type 0 where
  pub number : ℕ
  pub value : Value
  pub is : h ≡ member def.members number value
  pub known : form_of rows s ≡ Some (D.Union def)

-- entries with values of a slot, and keys of a type or, inside an Any, of none
pub data HoldsEntries (key : Option TypeNo) (slot : Slot) (h : Holder) : Type 0 where
  entries_of : (k : TypeNo) (paired : Bool) (ps : List (List ℕ × Value)) → key ≡ Some k → h ≡ entries k.0 slot paired ps → HoldsEntries key slot h
  entries_inside : (ms : List (List ℕ × Data)) → key ≡ None → slot ≡ anything → h ≡ any_entries ms → HoldsEntries key slot h

-- elements of a slot
pub data HoldsElements (slot : Slot) (h : Holder) : Type 0 where
  elements_of : (vs : List Value) → h ≡ elements slot vs → HoldsElements slot h
  elements_inside : (ds : List Data) → slot ≡ anything → h ≡ any_elements ds → HoldsElements slot h

abbrev pub IsForm : List Row → Slot → Form → Holder → Type 0
IsForm rows s (F.Fields def) h = HoldsFields rows s def.now h
IsForm rows s (F.Member def) h = HoldsMember rows s def.now h
IsForm rows s (F.Entries key slot) h = HoldsEntries key slot h
IsForm rows s (F.Elements slot) h = HoldsElements slot h
IsForm rows s F.Nothing h = (v : Value) × (h ≡ nothing v)

-- the type of the keys is one of so many
abbrev pub KeyWithin : ℕ → Form → Type 0
KeyWithin n (F.Entries key slot) = IfSome key (λ k. k.0 < n)
KeyWithin n (F.Fields def) = Unit {0}
KeyWithin n (F.Member def) = Unit {0}
KeyWithin n (F.Elements slot) = Unit {0}
KeyWithin n F.Nothing = Unit {0}

-- of a map; the root of a HAMT shows no entries
abbrev pub map_form : TypeNo → Slot → MapForm → Form
map_form key value (MF.Hamt shape) = F.Nothing
map_form key value MF.Map = F.Entries (Some key) value
map_form key value MF.ListPairs = F.Entries (Some key) value
map_form key value (MF.StringPairs inner entry) = F.Entries (Some key) value

-- ---- fields and members by their names

abbrev pub field_named : List ℕ → List Field → Option Field
field_named name fs = find (λ f. same_text name f.name) fs

abbrev pub member_called : List ℕ → List Member → Option Member
member_called name ms = find (λ m. same_text name m.name) ms

-- the slot of a field that is optional and not there
abbrev pub left_out : Bool → Field → Option Slot
left_out there f = cond (not there && f.optional) (Some f.slot) None

-- what is there may be deleted, but for a field that isn't optional, and for the member of a union
abbrev pub may_go : Holder → List ℕ → Bool
may_go (fields fs os) s = option_map_or (λ f. f.optional) (field_named s fs) false
may_go (member ms n v) s = false
may_go (entries key slot paired ps) s = true
may_go (elements slot vs) s = true
may_go (any_entries ms) s = true
may_go (any_elements ds) s = true
may_go (nothing v) s = true

-- the type of the keys of a map that is not inside an Any
abbrev pub key_in : Holder → Option ℕ
key_in (entries key slot paired ps) = Some key
key_in (fields fs os) = None
key_in (member ms n v) = None
key_in (elements slot vs) = None
key_in (any_entries ms) = None
key_in (any_elements ds) = None
key_in (nothing v) = None

-- ---- in a view

-- the view's item is a map, and its keys have this type
abbrev pub HasKeys : View → ℕ → Type 0
HasKeys v key = (f : Value) → IsView v f → Some key ≡ key_in (seen (table_of v) (slot_of v, f))

-- what is answered is whether a segment may be a key in the view's item
abbrev pub JudgesKey : View → List ℕ → Bool → Type 0
JudgesKey v s fits = (f : Value) (is_key : ℕ → List ℕ → Bool) → IsView v f → TestsKeys (table_of v) is_key → fits ≡ key_fits is_key (seen (table_of v) (slot_of v, f)) s
