-- The parts of a tree, as they are read one after the other.
use Rattle.std.specs.Prelude.{◌≡◌, ◌⊎◌, ℕ, Bool, true, List, Option, Some, None, slice_get}
use Rattle.ild_data.specs.Data.{Data, Members, no_members, member, members_list}
use Rattle.ild_data.specs.Key.{value_at}
use Rattle.ild_schema.specs.declared.def.Field.{Field}
use Rattle.ild_schema.specs.declared.def.Member.{Member}
use Rattle.ild_schema.specs.declared.number.Slot.{Slot}
use Rattle.ild_schema.specs.declared.number.TypeNo.{TypeNo}
use Rattle.ild_schema.specs.declared.row.Row.{Row}
use Rattle.ild_schema.specs.Value.{Value}
use Rattle.ild_typed.specs.OfType.{TestsKeys}
use Rattle.ild_typed.specs.Segment.{member_named}
use Rattle.ild_value_meaning.specs.MeantRead.{meant, readings, field_of}
use Rattle.ild_value_meaning.specs.Mismatch.{lacks}
use Rattle.ild_value.specs.declared.fault.ShownErr.{ShownErr}
use Rattle.ild_value.specs.declared.fault.ShownErr.TheVariants as E
use Rattle.ild_value.specs.declared.fault.ShownRule.TheVariants as R
use Rattle.ild_value.specs.Readings.{IsRefused}

-- the data are read as this value
pub record IsReadAs (rows : List Row) (slot : Slot) (t : Data) (v : Value) : Type 0 where
  pub read : (is_key : ℕ → List ℕ → Bool) → TestsKeys rows is_key → meant rows is_key slot t ≡ Some v

-- the entry of a map that has no other
abbrev pub only_member : Members → Option (List ℕ × Data)
only_member no_members = None
only_member (member k d no_members) = Some (k, d)
only_member (member k d (member l e ms)) = None

-- the entries mean this for a field: a value, or that it is absent
pub record FieldMeans (rows : List Row) (f : Field) (ms : Members) (o : Option Value) : Type 0 where
  pub read : (is_key : ℕ → List ℕ → Bool) → TestsKeys rows is_key → field_of f (value_at f.name (readings rows is_key ms)) ≡ Some o

-- a part of the field's value breaks a rule, or the struct's type, with this number, wants the field, which isn't there
pub record IsPartRefused (rows : List Row) (f : Field) (ms : Members) (e : ShownErr) : Type 0 where
  pub value : Data
  pub there : value_at f.name (members_list ms) ≡ Some value
  pub refused : IsRefused rows f.slot value e

pub record IsMissing (f : Field) (ms : Members) (ty : TypeNo) (e : ShownErr) : Type 0 where
  pub told : e ≡ E.Mismatch ty R.Missing
  pub lacked : lacks ms f ≡ true

abbrev pub IsFieldRefused : List Row → TypeNo → Field → Members → ShownErr → Type 0
IsFieldRefused rows ty f ms e = (e ≡ E.Memory) ⊎ (IsPartRefused rows f ms e ⊎ IsMissing f ms ty e)

-- the member of a name, which has this number
pub record IsMemberNamed (name : List ℕ) (members : List Member) (n : ℕ) : Type 0 where
  pub member : Member
  pub there : slice_get members n ≡ Some member
  pub named : member_named name members ≡ Some (n, member)
