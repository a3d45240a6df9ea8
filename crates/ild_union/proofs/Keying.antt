-- Keyed unions: one entry, whose key tells the member.
use Rattle.std.proofs.Common.{◌≡◌, ℕ, Bool, true, false, not, ◌||◌, List, [], ◌∷◌, length, Some, refl, sym, ◌∙◌, ap}
use Rattle.std.specs.Prelude.{nat_eq}
use Rattle.std.specs.List.{list_any}
use Rattle.std.proofs.lemmas.Bool.{eqb-true}
use Rattle.ild_data.specs.Data.{Data}
use Rattle.ild_schema.specs.declared.def.TypeDef.TheVariants as D
use Rattle.ild_schema.specs.declared.def.UnionDef.{UnionDef}
use Rattle.ild_schema.specs.declared.def.UnionForm.{UnionForm}
use Rattle.ild_schema.specs.declared.def.UnionForm.TheVariants as UF
use Rattle.ild_schema.specs.DataKinds.{union_has}
use Rattle.ild_typed.specs.Causes.{why_of}
use Rattle.ild_typed.specs.Kinds.{kind_word_of}
use Rattle.ild_typed.specs.Named.{where_some}
use Rattle.ild_typed.specs.Strings.{members_in}
use Rattle.ild_typed.specs.UnionWhy.{is_discriminant, union_name, union_missing, union_count}
use Rattle.ild_typed.specs.Why as W
use Rattle.ild_typed.proofs.Unions.{only_map_data}
use Rattle.ild_layer_piece.proofs.Walking.{map_kind}
use Rattle.ild_union.proofs.Marking.{IsTold}
use Rattle.ild_union.proofs.Order.{count_why}

pub keyed_told : (t : Data) (k : List ℕ) (d : Data) → members_in t ≡ Some ((k, d) ∷ []) → IsTold UF.Keyed t k d
keyed_told t k d is = record {
  made = ap Some (sym (only_map_data t ((k, d) ∷ []) is));
  marked = λ m. refl;
  kind = λ ms. map_kind t ((k, d) ∷ []) is;
  name = refl;
  missing = refl;
  count = ap (where_some (λ (es : List (List ℕ × Data)). not (nat_eq (length es) 1))) is;
  prefix = λ ms. refl;
  member = λ ms none. ap (where_some (list_any (λ (e : List ℕ × Data). not (is_discriminant ms e.0)))) is ∙ ap (λ b. not b || false) none;
}

other_count : (n : ℕ) → (n ≡ 1 → ⊥) → nat_eq n 1 ≡ false
other_count n apart = by (nat_eq n 1) refl where
  by : (b : Bool) → nat_eq n 1 ≡ b → nat_eq n 1 ≡ false
  by true is = absurd (apart (eqb-true n 1 is))
  by false is = is

-- another number of entries
pub keyed_count : (u : UnionDef) (t : Data) (es : List (List ℕ × Data)) → u.form ≡ UF.Keyed → members_in t ≡ Some es → (length es ≡ 1 → ⊥) → why_of (D.Union u) t ≡ Some W.Count
keyed_count u t es form is apart =
    count_why u t (ap (λ (f : UnionForm). union_has f u.members (kind_word_of t)) form ∙ map_kind t es is)
    (ap (λ (f : UnionForm). union_name f t) form) (ap (λ (f : UnionForm). union_missing f t) form)
    (ap (λ (f : UnionForm). union_count f t) form ∙ ap (where_some (λ (xs : List (List ℕ × Data)). not (nat_eq (length xs) 1))) is ∙ ap not (other_count (length es) apart))
