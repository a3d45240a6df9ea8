-- What a table that was accepted says of a struct's fields and of a union's members.
use Rattle.std.proofs.Common.{◌≡◌, ℕ, List, [], ◌∷◌, length, true, Some, None, slice_get, refl, sym, ap, ◌∙◌, subst}
use Rattle.std.specs.Option.{IfSome}
use Rattle.ild_schema.proofs.Legibly.{map_form}
use Rattle.ild_data.proofs.AllOf.{all_at}
use Rattle.ild_schema.specs.declared.number.Slot.{Slot}
use Rattle.ild_schema.specs.declared.def.TypeDef.TheVariants as D
use Rattle.ild_schema.specs.declared.def.StructDef.{StructDef}
use Rattle.ild_schema.specs.declared.def.StructForm.TheVariants as S
use Rattle.ild_schema.specs.declared.def.UnionDef.{UnionDef}
use Rattle.ild_schema.specs.declared.def.Member.{Member}
use Rattle.ild_schema.specs.declared.row.Row.{Row}
use Rattle.ild_schema.specs.Clear.{AreClearFields, AreNamesApart, ClearStruct, KeysApart}
use Rattle.ild_schema.specs.Copies.{base}
use Rattle.ild_schema.specs.Indexed.{InKeyOrder}
use Rattle.ild_schema.specs.Legible.{IsLegible}
use Rattle.ild_schema.specs.Made.{MadeMember}
use Rattle.ild_schema.specs.Parts.{part_texts}
use Rattle.ild_schema.specs.Rows.{def_at}
use Rattle.ild_schema.specs.Rules.{is_map_struct}
use Rattle.ild_schema.specs.Slots.{form_of}
use Rattle.ild_build_pass.specs.inside.Places.{texts_of}

pub past : {A : Type 0} (xs : List A) (n : ℕ) → n ≡ length xs → slice_get xs n ≡ None
past xs n e = ap (slice_get xs) e ∙ by xs
  where
    by : {A : Type 0} (ys : List A) → slice_get ys (length ys) ≡ None
    by [] = refl
    by (y ∷ ys) = by ys

pub map_struct_is : (rows : List Row) (s : Slot) (sd : StructDef) → form_of rows s ≡ Some (D.Struct sd) → is_map_struct (form_of rows s) ≡ true → sd.form ≡ S.Map
map_struct_is rows s sd is map = map_form sd.form (sym (ap is_map_struct is) ∙ map)

-- what acceptance says of a union's member
pub member_ready : (rows : List Row) → IsLegible rows → (s : Slot) (u : UnionDef) (n : ℕ) (m : Member) → form_of rows s ≡ Some (D.Union u) → slice_get u.members n ≡ Some m → MadeMember rows u.form m
member_ready rows legible s u n m is at = all_at (MadeMember rows u.form) u.members n m (legible.made (base rows s.ty.0) (D.Union u) is) at

pub keys_ready : (rows : List Row) → IsLegible rows → (s : Slot) (u : UnionDef) → form_of rows s ≡ Some (D.Union u) → KeysApart u.form
keys_ready rows legible s u is = (legible.clear.types (base rows s.ty.0) (D.Union u) is).keys

-- the names of a struct's fields, where it stands as a map
pub names_apart : (rows : List Row) → IsLegible rows → (s : Slot) (sd : StructDef) → form_of rows s ≡ Some (D.Struct sd) → sd.form ≡ S.Map → AreNamesApart sd.fields
names_apart rows legible s sd is form =
    let clear : AreClearFields sd.fields = subst (λ g. ClearStruct g sd.fields) form (legible.clear.types (base rows s.ty.0) (D.Struct sd) is) in
    clear.apart

-- the fields in the key order, as the table keeps it
pub table_order : (rows : List Row) (s : Slot) (sd : StructDef) (n : ℕ) (ps : List ℕ) → form_of rows s ≡ Some (D.Struct sd) → n ≡ base rows s.ty.0 → IfSome (def_at rows n) (λ d. InKeyOrder (part_texts d) ps) → InKeyOrder (texts_of sd.fields) ps
table_order rows s sd n ps known same order = subst (λ o. IfSome o (λ d. InKeyOrder (part_texts d) ps)) (ap (def_at rows) same ∙ known) order
