-- A loop over parts, each beside those before it.
use Rattle.std.proofs.Common.{◌≡◌, ℕ, suc, ◌+◌, ◌<◌, Bool, true, false, List, [], ◌∷◌, ◌++◌, Option, Some, length, take, drop, get_or, refl, sym, ap, ◌∙◌, add-one}
use Rattle.std.proofs.Math.Seq.{drop-cons, take-suc}
use Rattle.ild_schema.specs.Places.{first_beside}

-- the parts from one on
drop_here : {A : Type 0} (xs : List A) (i : ℕ) (x : A) → i < length xs → x ≡ get_or xs i x → drop i xs ≡ x ∷ drop (i + 1) xs
drop_here xs i x within here = drop-cons xs i x within ∙ ap (λ y. y ∷ drop (suc i) xs) (sym here) ∙ ap (λ n. x ∷ drop n xs) (sym (add-one i))

-- the parts up to one
pub take_here : {A : Type 0} (xs : List A) (i : ℕ) (x : A) → i < length xs → x ≡ get_or xs i x → take (i + 1) xs ≡ take i xs ++ x ∷ []
take_here xs i x within here = ap (λ n. take n xs) (add-one i) ∙ take-suc xs i x within ∙ ap (λ y. take i xs ++ y ∷ []) (sym here)

-- a part that doesn't fail
pub beside_next : {A : Type 0} (fails : List A → A → Bool) (at : A → ℕ) (xs : List A) (i : ℕ) (x : A) (r : Option ℕ) → i < length xs → x ≡ get_or xs i x → fails (take i xs) x ≡ false
    → first_beside fails at (take i xs) (drop i xs) ≡ r → first_beside fails at (take (i + 1) xs) (drop (i + 1) xs) ≡ r
beside_next fails at xs i x r within here fine so_far =
    let one : first_beside fails at (take i xs) (x ∷ drop (i + 1) xs) ≡ first_beside fails at (take i xs ++ x ∷ []) (drop (i + 1) xs) = rw fine refl in
    ap (λ ys. first_beside fails at ys (drop (i + 1) xs)) (take_here xs i x within here) ∙ sym one ∙ ap (first_beside fails at (take i xs)) (sym (drop_here xs i x within here)) ∙ so_far

-- the first part that fails
pub beside_found : {A : Type 0} (fails : List A → A → Bool) (at : A → ℕ) (xs : List A) (i : ℕ) (x : A) (r : Option ℕ) → i < length xs → x ≡ get_or xs i x → fails (take i xs) x ≡ true
    → first_beside fails at (take i xs) (drop i xs) ≡ r → Some (at x) ≡ r
beside_found fails at xs i x r within here found so_far =
    let one : first_beside fails at (take i xs) (x ∷ drop (i + 1) xs) ≡ Some (at x) = rw found refl in
    sym one ∙ ap (first_beside fails at (take i xs)) (sym (drop_here xs i x within here)) ∙ so_far
