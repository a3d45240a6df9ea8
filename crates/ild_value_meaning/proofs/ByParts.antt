-- The values of a slot's type by their parts, with no room: what is one layer, and that its parts are of their types.
use Rattle.std.specs.Prelude.{◌≡◌, ℕ, IsUtf8, Bool, true, false, List, [], ◌∷◌, Some, None, slice_get}
use Rattle.ild_data.specs.Key.{value_at, Rises}
use Rattle.ild_data.specs.Bytes.{AreBytes}
use Rattle.ild_data.specs.Cid.{IsCid}
use Rattle.ild_data.specs.Integer.{IsInt}
use Rattle.ild_data.specs.Tree.{IsTree}
use Rattle.ild_data.specs.declared.hamt_shape.HamtShape.{HamtShape}
use Rattle.ild_schema.specs.declared.def.TypeDef.TheVariants as T
use Rattle.ild_schema.specs.declared.def.MapForm.{MapForm}
use Rattle.ild_schema.specs.declared.def.MapForm.TheVariants as M
use Rattle.ild_schema.specs.declared.def.UnitForm.{UnitForm}
use Rattle.ild_schema.specs.declared.def.Field.{Field}
use Rattle.ild_schema.specs.declared.def.Member.{Member}
use Rattle.ild_schema.specs.declared.def.StructDef.{StructDef}
use Rattle.ild_schema.specs.declared.def.UnionDef.{UnionDef}
use Rattle.ild_schema.specs.declared.def.EnumDef.{EnumDef}
use Rattle.ild_schema.specs.declared.def.EnumMember.{EnumMember}
use Rattle.ild_schema.specs.declared.number.Slot.{Slot}
use Rattle.ild_schema.specs.declared.number.TypeNo.{TypeNo}
use Rattle.ild_schema.specs.declared.row.Row.{Row}
use Rattle.ild_schema.specs.Value.{Value, null, boolean, integer, text, bytes, link, list, map, struct, union, enum, unit, any, hamt, Values, no_values, value, Pairs, no_pairs, pair, Optionals, no_optionals, absent, present, pairs_list}
use Rattle.ild_schema.specs.Slots.{form_of, plainly}
use Rattle.ild_typed.specs.Holder.{is_paired}
use Rattle.ild_typed.specs.Layers.{RootFits}
use Rattle.ild_value_meaning.specs.Meant.{is_null}
use Rattle.ild_typed.specs.OfType.{OfType}

-- no key stands twice
abbrev pub AreDistinct : {V : Type 0} → List (List ℕ × V) → Type 0
AreDistinct [] = Unit {0}
AreDistinct (m ∷ ms) = (value_at m.0 ms ≡ None) × AreDistinct ms

-- the entries rise in the key order, or, where they keep an order of their own, no key stands twice
abbrev pub AreInOrder : {V : Type 0} → Bool → List (List ℕ × V) → Type 0
AreInOrder true ps = AreDistinct ps
AreInOrder false ps = Rises ps

abbrev mutual
  pub ByParts : List Row → (ℕ → List ℕ → Bool) → Slot → Value → Type 0
  ByParts rows is_key slot null = slot.nullable ≡ true
  ByParts rows is_key slot (boolean b) = form_of rows slot ≡ Some T.Bool
  ByParts rows is_key slot (integer n) = (form_of rows slot ≡ Some T.Int) × IsInt n
  ByParts rows is_key slot (text s) = (form_of rows slot ≡ Some T.Text) × IsUtf8 s
  ByParts rows is_key slot (bytes s) = (form_of rows slot ≡ Some T.Bytes) × AreBytes s
  ByParts rows is_key slot (link s) = (target : TypeNo) × (form_of rows slot ≡ Some (T.Link target)) × IsCid s × AreBytes s
  ByParts rows is_key slot (list vs) = (elem : Slot) × (place : ℕ) × (form_of rows slot ≡ Some (T.List elem place)) × AreByParts rows is_key elem vs
  ByParts rows is_key slot (map ps) =
      (key : TypeNo) × (key_at : ℕ) × (elem : Slot) × (place : ℕ) × (f : MapForm) × (form_of rows slot ≡ Some (T.Map key key_at elem place f))
      × EntriesByParts rows is_key key.0 elem ps × AreInOrder (is_paired f) (pairs_list ps)
  ByParts rows is_key slot (struct os) = (s : StructDef) × (form_of rows slot ≡ Some (T.Struct s)) × FieldsByParts rows is_key s.fields os
  ByParts rows is_key slot (union n v) =
      (u : UnionDef) × (m : Member) × (form_of rows slot ≡ Some (T.Union u)) × (slice_get u.members n ≡ Some m) × ByParts rows is_key (plainly m.ty) v
  ByParts rows is_key slot (enum n) = (e : EnumDef) × (m : EnumMember) × (form_of rows slot ≡ Some (T.Enum e)) × (slice_get e.members n ≡ Some m)
  ByParts rows is_key slot unit = (f : UnitForm) × (form_of rows slot ≡ Some (T.Unit f))
  ByParts rows is_key slot (any d) = (form_of rows slot ≡ Some T.Any) × (is_null d ≡ false) × IsTree d
  ByParts rows is_key slot (hamt d) =
      (key : TypeNo) × (key_at : ℕ) × (elem : Slot) × (place : ℕ) × (p : HamtShape) × (form_of rows slot ≡ Some (T.Map key key_at elem place (M.Hamt p))) × RootFits (OfType rows) rows p key elem d

  pub AreByParts : List Row → (ℕ → List ℕ → Bool) → Slot → Values → Type 0
  AreByParts rows is_key slot no_values = Unit {0}
  AreByParts rows is_key slot (value v vs) = ByParts rows is_key slot v × AreByParts rows is_key slot vs

  pub EntriesByParts : List Row → (ℕ → List ℕ → Bool) → ℕ → Slot → Pairs → Type 0
  EntriesByParts rows is_key key slot no_pairs = Unit {0}
  EntriesByParts rows is_key key slot (pair k v ps) = (is_key key k ≡ true) × ByParts rows is_key slot v × EntriesByParts rows is_key key slot ps

  pub FieldsByParts : List Row → (ℕ → List ℕ → Bool) → List Field → Optionals → Type 0
  FieldsByParts rows is_key [] no_optionals = Unit {0}
  FieldsByParts rows is_key (f ∷ fs) no_optionals = ⊥
  FieldsByParts rows is_key [] (absent os) = ⊥
  FieldsByParts rows is_key (f ∷ fs) (absent os) = (f.optional ≡ true) × FieldsByParts rows is_key fs os
  FieldsByParts rows is_key [] (present v os) = ⊥
  FieldsByParts rows is_key (f ∷ fs) (present v os) = ByParts rows is_key f.slot v × FieldsByParts rows is_key fs os
