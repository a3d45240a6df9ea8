-- The value that data show (IPLD Schemas, "type-level representation"), as a relation between finished values: by the names of the
-- schema, whatever the strategy. A field whose value is its implicit one may be left out. Keys of maps are tested by `is_key`.
use Rattle.std.specs.Prelude.{◌≡◌, ◌⊎◌, ℕ, List, [], ◌∷◌, Bool, true, false, Some, None, slice_get}
use Rattle.ild_data.specs.Data as D
use Rattle.ild_data.specs.Data.{Data, Items, no_items, item, Members, no_members, member, members_list}
use Rattle.ild_data.specs.Key.{value_at}
use Rattle.ild_schema.specs.declared.def.TypeDef.TheVariants as T
use Rattle.ild_schema.specs.declared.def.MapForm.{MapForm}
use Rattle.ild_schema.specs.declared.def.UnitForm.{UnitForm}
use Rattle.ild_schema.specs.declared.def.Scalar.{Scalar}
use Rattle.ild_schema.specs.declared.def.Scalar.TheVariants as S
use Rattle.ild_schema.specs.declared.def.Field.{Field}
use Rattle.ild_schema.specs.declared.def.Member.{Member}
use Rattle.ild_schema.specs.declared.def.StructDef.{StructDef}
use Rattle.ild_schema.specs.declared.def.UnionDef.{UnionDef}
use Rattle.ild_schema.specs.declared.def.EnumDef.{EnumDef}
use Rattle.ild_schema.specs.declared.def.EnumMember.{EnumMember}
use Rattle.ild_schema.specs.declared.number.Slot.{Slot}
use Rattle.ild_schema.specs.declared.number.TypeNo.{TypeNo}
use Rattle.ild_schema.specs.declared.row.Row.{Row}
use Rattle.ild_schema.specs.Value.{Value, null, boolean, integer, text, bytes, link, list, map, struct, union, enum, unit, any, hamt, Values, no_values, value, Pairs, no_pairs, pair, Optionals, no_optionals, absent, present}
use Rattle.ild_schema.specs.Slots.{form_of, plainly}
use Rattle.ild_value_meaning.specs.Names.{are_named}

abbrev pub of_scalar : Scalar → Value
of_scalar (S.Bool b) = boolean b
of_scalar (S.Int n) = integer n
of_scalar (S.Text s) = text s

-- the field is left out of a map, and has its implicit value
pub record IsLeftOut (f : Field) (v : Value) (ms : Members) : Type 0 where
  pub missing : value_at f.name (members_list ms) ≡ None
  pub scalar : Scalar
  pub implicit : f.implicit ≡ Some scalar
  pub same : v ≡ of_scalar scalar

-- the optional field is left out of a map
pub record IsAbsent (f : Field) (ms : Members) : Type 0 where
  pub missing : value_at f.name (members_list ms) ≡ None
  pub optional : f.optional ≡ true
  pub plain : f.implicit ≡ None

-- whether data are null
abbrev pub is_null : Data → Bool
is_null D.null = true
is_null (D.boolean b) = false
is_null (D.integer n) = false
is_null (D.text s) = false
is_null (D.bytes s) = false
is_null (D.list ds) = false
is_null (D.map ms) = false
is_null (D.link s) = false

abbrev mutual
  pub Meant : List Row → (ℕ → List ℕ → Bool) → Slot → Data → Value → Type 0
  Meant rows is_key slot t null = (slot.nullable ≡ true) × (t ≡ D.null)
  Meant rows is_key slot t (boolean b) = (form_of rows slot ≡ Some T.Bool) × (t ≡ D.boolean b)
  Meant rows is_key slot t (integer n) = (form_of rows slot ≡ Some T.Int) × (t ≡ D.integer n)
  Meant rows is_key slot t (text s) = (form_of rows slot ≡ Some T.Text) × (t ≡ D.text s)
  Meant rows is_key slot t (bytes s) = (form_of rows slot ≡ Some T.Bytes) × (t ≡ D.bytes s)
  Meant rows is_key slot t (link s) = (target : TypeNo) × (form_of rows slot ≡ Some (T.Link target)) × (t ≡ D.link s)
  Meant rows is_key slot t (list vs) =
      (elem : Slot) × (place : ℕ) × (ds : Items) × (form_of rows slot ≡ Some (T.List elem place)) × (t ≡ D.list ds) × AreMeant rows is_key elem ds vs
  Meant rows is_key slot t (map ps) =
      (key : TypeNo) × (key_at : ℕ) × (elem : Slot) × (place : ℕ) × (f : MapForm) × (ms : Members)
      × (form_of rows slot ≡ Some (T.Map key key_at elem place f)) × (t ≡ D.map ms) × EntriesMeant rows is_key key.0 elem ms ps
  Meant rows is_key slot t (struct os) =
      (s : StructDef) × (ms : Members) × (form_of rows slot ≡ Some (T.Struct s)) × (t ≡ D.map ms) × (are_named s.fields ms ≡ true) × FieldsMeant rows is_key s.fields ms os
  Meant rows is_key slot t (union n v) =
      (u : UnionDef) × (m : Member) × (d : Data) × (form_of rows slot ≡ Some (T.Union u)) × (slice_get u.members n ≡ Some m)
      × (t ≡ D.map (member m.name d no_members)) × Meant rows is_key (plainly m.ty) d v
  Meant rows is_key slot t (enum n) =
      (e : EnumDef) × (m : EnumMember) × (form_of rows slot ≡ Some (T.Enum e)) × (slice_get e.members n ≡ Some m) × (t ≡ D.text m.name)
  Meant rows is_key slot t unit = (f : UnitForm) × (form_of rows slot ≡ Some (T.Unit f)) × (t ≡ D.map no_members)
  Meant rows is_key slot t (any d) = (form_of rows slot ≡ Some T.Any) × (t ≡ d) × (is_null d ≡ false)
  Meant rows is_key slot t (hamt d) = ⊥

  pub AreMeant : List Row → (ℕ → List ℕ → Bool) → Slot → Items → Values → Type 0
  AreMeant rows is_key slot ds no_values = ds ≡ no_items
  AreMeant rows is_key slot ds (value v vs) = (e : Data) × (es : Items) × (ds ≡ item e es) × Meant rows is_key slot e v × AreMeant rows is_key slot es vs

  -- the entries in the order of the data, whose keys rise
  pub EntriesMeant : List Row → (ℕ → List ℕ → Bool) → ℕ → Slot → Members → Pairs → Type 0
  EntriesMeant rows is_key key slot ms no_pairs = ms ≡ no_members
  EntriesMeant rows is_key key slot ms (pair k v ps) =
      (e : Data) × (ns : Members) × (ms ≡ member k e ns) × (is_key key k ≡ true) × Meant rows is_key slot e v × EntriesMeant rows is_key key slot ns ps

  -- each field by its name, or left out
  pub FieldsMeant : List Row → (ℕ → List ℕ → Bool) → List Field → Members → Optionals → Type 0
  FieldsMeant rows is_key [] ms no_optionals = Unit {0}
  FieldsMeant rows is_key (f ∷ fs) ms no_optionals = ⊥
  FieldsMeant rows is_key [] ms (absent os) = ⊥
  FieldsMeant rows is_key (f ∷ fs) ms (absent os) = IsAbsent f ms × FieldsMeant rows is_key fs ms os
  FieldsMeant rows is_key [] ms (present v os) = ⊥
  FieldsMeant rows is_key (f ∷ fs) ms (present v os) =
      (((e : Data) × (value_at f.name (members_list ms) ≡ Some e) × Meant rows is_key f.slot e v) ⊎ IsLeftOut f v ms) × FieldsMeant rows is_key fs ms os
