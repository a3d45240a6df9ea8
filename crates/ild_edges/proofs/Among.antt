-- Elements of a list, taken apart and put together.
use Rattle.std.proofs.Common.{◌≡◌, ◌⊎◌, inl, inr, ⊎_elim, ℕ, zero, suc, ◌<◌, List, [], ◌∷◌, ◌++◌, length, get_or, slice_index_or, refl, sym, arith}
use Rattle.std.specs.Prelude.{Contains}
use Rattle.ild_edges.specs.Among.{IsIn}

pub IsIn-left : {A : Type 0} (x : A) (xs ys : List A) → IsIn x xs → IsIn x (xs ++ ys)
IsIn-left x [] ys is = absurd is
IsIn-left x (y ∷ xs) ys (inl e) = inl e
IsIn-left x (y ∷ xs) ys (inr more) = inr (IsIn-left x xs ys more)

pub IsIn-right : {A : Type 0} (x : A) (xs ys : List A) → IsIn x ys → IsIn x (xs ++ ys)
IsIn-right x [] ys is = is
IsIn-right x (y ∷ xs) ys is = inr (IsIn-right x xs ys is)

pub IsIn-append : {A : Type 0} (x : A) (xs ys : List A) → IsIn x (xs ++ ys) → IsIn x xs ⊎ IsIn x ys
IsIn-append x [] ys is = inr is
IsIn-append x (y ∷ xs) ys (inl e) = inl (inl e)
IsIn-append x (y ∷ xs) ys (inr more) = ⊎_elim (λ here. inl (inr here)) (λ there. inr there) (IsIn-append x xs ys more)

pub IsIn-one : {A : Type 0} (x y : A) → IsIn x (y ∷ []) → x ≡ y
IsIn-one x y (inl e) = e
IsIn-one x y (inr none) = absurd none

pub IsIn-at : {A : Type 0} (xs : List A) (i : ℕ) (x d : A) → i < length xs → x ≡ get_or xs i d → IsIn x xs
IsIn-at [] i x d lt is = absurd (omega (arith, lt))
IsIn-at (y ∷ ys) zero x d lt is = inl is
IsIn-at (y ∷ ys) (suc i) x d lt is = inr (IsIn-at ys i x d (omega (arith, lt)) is)

-- ---- the same by a place

pub IsIn-contains : {A : Type 0} (x : A) (xs : List A) → IsIn x xs → Contains xs x
IsIn-contains x [] is = absurd is
IsIn-contains x (y ∷ ys) (inl same) = (0, omega arith, sym same)
IsIn-contains x (y ∷ ys) (inr more) = let m = IsIn-contains x ys more in (suc m.0, omega (arith, m.1), m.2)

at_place : {A : Type 0} (k : ℕ) (xs : List A) (x : A) → k < length xs → slice_index_or xs k x ≡ x → IsIn x xs
at_place k [] x less is = absurd (omega (arith, less))
at_place zero (y ∷ ys) x less is = inl (sym is)
at_place (suc k) (y ∷ ys) x less is = inr (at_place k ys x (omega (arith, less)) is)

pub IsIn-of : {A : Type 0} (x : A) (xs : List A) → Contains xs x → IsIn x xs
IsIn-of x xs has = at_place has.0 xs x has.1 has.2
