-- The first type for which a rule fails, from one on.
use Rattle.std.proofs.Common.{◌≡◌, ℕ, zero, suc, ◌+◌, List, [], ◌∷◌, Option, Some, None, drop, add-one, refl, sym, ap, ◌∙◌}
use Rattle.std.specs.List.{slice_get}
use Rattle.std.specs.Option.{option_map, option_or}
use Rattle.ild_schema.specs.declared.def.TypeDef.{TypeDef}
use Rattle.ild_schema.specs.declared.rule.Rule.{Rule}
use Rattle.ild_schema.specs.declared.row.Row.{Row}
use Rattle.ild_schema.specs.Accept.{Fault, first_failing, type_fault}
use Rattle.ild_schema.specs.Table.{def_at, place_at}

drop_some : {A : Type 0} (xs : List A) (n : ℕ) (x : A) → slice_get xs n ≡ Some x → drop n xs ≡ x ∷ drop (suc n) xs
drop_some [] n x h = absurd cc
drop_some (y ∷ ys) zero x h = let e : y ≡ x = cc in ap (λ z. z ∷ ys) e
drop_some (y ∷ ys) (suc n) x h = drop_some ys n x h

-- what is found from a type on
from_here : (rows : List Row) (n at : ℕ) (def : TypeDef) → def_at rows n ≡ Some def → place_at rows n ≡ Some at
    → first_failing rows n (drop n rows) ≡ option_or (option_map (λ f. record { rule = f.0; ty = n; at = f.1 }) (type_fault rows at def)) (first_failing rows (suc n) (drop (suc n) rows))
from_here rows n at def d p = by (slice_get rows n) refl d p
  where
    by : (o : Option Row) → slice_get rows n ≡ o → option_map (λ r. r.def) o ≡ Some def → option_map (λ r. r.at) o ≡ Some at
        → first_failing rows n (drop n rows) ≡ option_or (option_map (λ f. record { rule = f.0; ty = n; at = f.1 }) (type_fault rows at def)) (first_failing rows (suc n) (drop (suc n) rows))
    by None e d p = absurd cc
    by (Some r) e d p =
        let same_def : r.def ≡ def = cc in
        let same_at : r.at ≡ at = cc in
        ap (first_failing rows n) (drop_some rows n r e)
        ∙ ap (λ x. option_or (option_map (λ f. record { rule = f.0; ty = n; at = f.1 }) (type_fault rows x r.def)) (first_failing rows (suc n) (drop (suc n) rows))) same_at
        ∙ ap (λ x. option_or (option_map (λ f. record { rule = f.0; ty = n; at = f.1 }) (type_fault rows at x)) (first_failing rows (suc n) (drop (suc n) rows))) same_def

pub failing_next : (rows : List Row) (n at : ℕ) (def : TypeDef) (r : Option Fault) (f : Option (Rule × ℕ)) → def_at rows n ≡ Some def → place_at rows n ≡ Some at → f ≡ type_fault rows at def → f ≡ None
    → r ≡ first_failing rows n (drop n rows) → r ≡ first_failing rows (n + 1) (drop (n + 1) rows)
failing_next rows n at def r f d p is fine so_far =
    let one : type_fault rows at def ≡ None = sym is ∙ fine in
    so_far ∙ from_here rows n at def d p
    ∙ ap (λ o. option_or (option_map (λ f. record { rule = f.0; ty = n; at = f.1 }) o) (first_failing rows (suc n) (drop (suc n) rows))) one
    ∙ ap (λ k. first_failing rows k (drop k rows)) (sym (add-one n))

pub failing_found : (rows : List Row) (n at place : ℕ) (def : TypeDef) (rule : Rule) (r : Option Fault) (f : Option (Rule × ℕ)) → def_at rows n ≡ Some def → place_at rows n ≡ Some at → f ≡ type_fault rows at def
    → f ≡ Some (rule, place) → r ≡ first_failing rows n (drop n rows) → r ≡ Some (record { rule = rule; ty = n; at = place })
failing_found rows n at place def rule r f d p is found so_far =
    let one : type_fault rows at def ≡ Some (rule, place) = sym is ∙ found in
    so_far ∙ from_here rows n at def d p
    ∙ ap (λ o. option_or (option_map (λ f. record { rule = f.0; ty = n; at = f.1 }) o) (first_failing rows (suc n) (drop (suc n) rows))) one
