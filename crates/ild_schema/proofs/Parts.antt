-- The elements, entries and fields of values, as plain lists.
use Rattle.std.proofs.Common.{◌≡◌, ℕ, List, [], ◌∷◌, Option, Some, None, refl, ap}
use Rattle.std.proofs.lemmas.List.{length-map, map-append}
use Rattle.ild_schema.specs.Value.{Value, values_of, values_list, pairs_of, pairs_list, optionals_of, optionals_list}

pub values_list-values_of : (vs : List Value) → values_list (values_of vs) ≡ vs
values_list-values_of [] = refl
values_list-values_of (v ∷ vs) = ap (λ ws. v ∷ ws) (values_list-values_of vs)

pub pairs_list-pairs_of : (ps : List (List ℕ × Value)) → pairs_list (pairs_of ps) ≡ ps
pairs_list-pairs_of [] = refl
pairs_list-pairs_of (p ∷ ps) = ap (λ qs. p ∷ qs) (pairs_list-pairs_of ps)

pub optionals_list-optionals_of : (os : List (Option Value)) → optionals_list (optionals_of os) ≡ os
optionals_list-optionals_of [] = refl
optionals_list-optionals_of (None ∷ os) = ap (λ ps. None ∷ ps) (optionals_list-optionals_of os)
optionals_list-optionals_of (Some v ∷ os) = ap (λ ps. Some v ∷ ps) (optionals_list-optionals_of os)

pub ruleset value_lists = (values_list-values_of, pairs_list-pairs_of, optionals_list-optionals_of, length-map, map-append)
