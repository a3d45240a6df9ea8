-- The part at a place of a type, and its number.
use Rattle.std.proofs.Common.{◌≡◌, ℕ, zero, suc, ◌<◌, List, [], ◌∷◌, get_or, map, slice_get, Some, Result, Ok, Err, ap, ◌∙◌, subst}
use Rattle.std.specs.Prelude.{IfOk}
use Rattle.std.specs.List.{All}
use Rattle.std.proofs.lemmas.List.Elements.{All-head, All-tail}
use Rattle.std.proofs.lemmas.Option.{same_Some, none-some, get_or_from_slice_get}

pub number_low : {A : Type 0} (f : A → ℕ) (count : ℕ) (xs : List A) → All (λ n. n < count) (map f xs) → (i : ℕ) (x : A) → slice_get xs i ≡ Some x → f x < count
number_low f count [] all i x e = absurd (none-some x e)
number_low f count (y ∷ xs) all zero x e = subst (λ z. f z < count) (same_Some y x e) (All-head (λ n. n < count) (f y) (map f xs) all)
number_low f count (y ∷ xs) all (suc i) x e = number_low f count xs (All-tail (λ n. n < count) (f y) (map f xs) all) i x e

pub picked : {A : Type 0} (xs ys : List A) (i : ℕ) (x d : A) → ys ≡ xs → slice_get xs i ≡ Some x → get_or ys i d ≡ x
picked xs ys i x d same e = ap (λ zs. get_or zs i d) same ∙ get_or_from_slice_get xs i x d e

pub if_ok : {A E : Type 0} (P Q : A → Type 0) → ((a : A) → P a → Q a) → (r : Result A E) → IfOk r P → IfOk r Q
if_ok P Q more (Ok a) h = more a h
if_ok P Q more (Err e) h = tt
