-- A row behind those of a table: what stands at a place of the longer list.
use Rattle.std.proofs.Common.{◌≡◌, ℕ, zero, suc, ◌<◌, ◌≤◌, ◌⊎◌, inl, inr, List, [], ◌∷◌, ◌++◌, Some, None, length, refl, arith}
use Rattle.std.specs.Prelude.{slice_get}

-- what stands at a place stays, with more behind
pub got_before : {X : Type 0} (xs ys : List X) (i : ℕ) → i < length xs → slice_get (xs ++ ys) i ≡ slice_get xs i
got_before [] ys i low = absurd (omega (arith, low))
got_before (x ∷ xs) ys zero low = refl
got_before (x ∷ xs) ys (suc i) low = got_before xs ys i (omega (arith, low))

-- and from the end on stands the one element more, or nothing
pub got_behind : {X : Type 0} (xs : List X) (x : X) (i : ℕ) → length xs ≤ i → (slice_get (xs ++ x ∷ []) i ≡ Some x) ⊎ (slice_get (xs ++ x ∷ []) i ≡ None)
got_behind [] x zero high = inl refl
got_behind [] x (suc i) high = inr refl
got_behind (y ∷ xs) x zero high = absurd (omega (arith, high))
got_behind (y ∷ xs) x (suc i) high = got_behind xs x i (omega (arith, high))
