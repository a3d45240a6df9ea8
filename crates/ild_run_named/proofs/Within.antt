-- The type that has a name is one of the table.
use Rattle.std.specs.List.{position_from}
use Rattle.std.specs.Prelude.{IfSome, option_map, cond}
use Rattle.std.proofs.Common.{◌≡◌, ℕ, ◌+◌, ◌<◌, List, [], ◌∷◌, length, Bool, true, false, Option, Some, None, sym, subst, arith}
use Rattle.ild_schema.specs.Names.{number_named, is_named}
use Rattle.ild_schema.specs.declared.number.TypeNo.{TypeNo}
use Rattle.ild_schema.specs.declared.row.Row.{Row}

found_within : {A : Type 0} (p : A → Bool) (xs : List A) (k : ℕ) → IfSome (position_from p k xs) (λ i. i < k + length xs)
found_within p [] k = tt
found_within p (x ∷ xs) k = by (p x) (found_within p xs (k + 1))
  where
    by : (b : Bool) → IfSome (position_from p (k + 1) xs) (λ i. i < k + 1 + length xs) → IfSome (cond b (Some k) (position_from p (k + 1) xs)) (λ i. i < k + length (x ∷ xs))
    by true found = omega arith
    by false found = grow (position_from p (k + 1) xs) found
      where
        grow : (o : Option ℕ) → IfSome o (λ i. i < k + 1 + length xs) → IfSome o (λ i. i < k + length (x ∷ xs))
        grow None found = tt
        grow (Some i) found = omega (arith, found)

pub named_within : (rows : List Row) (ty : List ℕ) (found : Option TypeNo) → option_map (λ (n : TypeNo). n.0) found ≡ number_named ty rows → IfSome found (λ n. n.0 < length rows)
named_within rows ty None is = tt
named_within rows ty (Some n) is =
    let same : 0 + length rows ≡ length rows = omega arith in
    let found = subst (λ (k : ℕ). IfSome (position_from (is_named ty) 0 rows) (λ i. i < k)) same (found_within (is_named ty) rows 0) in
    subst (λ (o : Option ℕ). IfSome o (λ i. i < length rows)) (sym is) found
