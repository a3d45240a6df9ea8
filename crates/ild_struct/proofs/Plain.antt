-- A field of which no name stands in the data has no implicit value.
use Rattle.std.proofs.Common.{◌≡◌, ℕ, List, ◌||◌, false, Option, Some, None, refl, subst}
use Rattle.std.specs.Prelude.{is_some, if◌then◌else◌, slice_get}
use Rattle.ild_schema.specs.Accept.{IsAccepted}
use Rattle.ild_schema.specs.Copies.{base}
use Rattle.ild_schema.specs.Places.{first_place}
use Rattle.ild_schema.specs.Rules.{is_bare_join, is_field_wrong}
use Rattle.ild_schema.specs.declared.def.Field.{Field}
use Rattle.ild_schema.specs.declared.def.StructDef.{StructDef}
use Rattle.ild_schema.specs.declared.def.StructForm.{StructForm}
use Rattle.ild_schema.specs.declared.def.StructForm.TheVariants as S
use Rattle.ild_schema.specs.declared.def.TypeDef.TheVariants as D
use Rattle.ild_schema.specs.declared.row.Row.{Row}
use Rattle.ild_schema.proofs.Passing.{all_pass, not_next, right}
use Rattle.ild_schema.proofs.Ruling.{def_passes}
use Rattle.ild_struct.specs.Parts.{IsStruct}

no_value : {A : Type 0} (o : Option A) → is_some o ≡ false → o ≡ None
no_value None e = refl
no_value (Some a) e = absurd cc

plainly : (f : Field) → is_some f.rename || is_some f.implicit ≡ false → f.implicit ≡ None
plainly f fine = no_value f.implicit (right (is_some f.rename) (is_some f.implicit) fine)

passes : (form : StructForm) (at : ℕ) (fs : List Field) → (if is_bare_join form fs then Some at else first_place (is_field_wrong form) (λ f. f.at) fs) ≡ None
    → (i : ℕ) (f : Field) → slice_get fs i ≡ Some f → is_field_wrong form f ≡ false
passes form at fs h = all_pass (is_field_wrong form) (λ f. f.at) fs (not_next (is_bare_join form fs) at (first_place (is_field_wrong form) (λ f. f.at) fs) h)

module _ (rows : List Row) (ty : ℕ) (s : StructDef) (accepted : IsAccepted rows) (is : IsStruct rows ty s) (i : ℕ) (f : Field) (there : slice_get s.fields i ≡ Some f) where
  fine : is_field_wrong s.form f ≡ false
  fine = let x = def_passes rows accepted.none_fails (base rows ty) (D.Struct s) is in passes s.form x.0 s.fields x.1.strategy i f there

  pub tuple_plain : s.form ≡ S.Tuple → f.implicit ≡ None
  tuple_plain form = plainly f (subst (λ u. is_field_wrong u f ≡ false) form fine)

  pub join_plain : (delim : List ℕ) → s.form ≡ S.StringJoin delim → f.implicit ≡ None
  join_plain delim form = plainly f (subst (λ u. is_field_wrong u f ≡ false) form fine)
