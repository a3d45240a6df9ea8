-- The element of a list at a place, and what stands from there on.
use Rattle.std.proofs.Common.{◌≡◌, ℕ, zero, suc, ◌+◌, ◌≤◌, ◌<◌, List, [], ◌∷◌, length, drop, slice_get, get_or, Some, None, refl, sym, ap, ◌∙◌, arith}
use Rattle.std.proofs.lemmas.Option.{none-some, same_Some}

pub next_is : (k : ℕ) → suc k ≡ k + 1
next_is k = omega arith

module _ {X : Type 0} where
  pub got_below : (xs : List X) (i : ℕ) (x : X) → slice_get xs i ≡ Some x → i < length xs
  got_below [] i x is = absurd (none-some x is)
  got_below (y ∷ ys) zero x is = omega arith
  got_below (y ∷ ys) (suc i) x is = let h = got_below ys i x is in omega (arith, h)

  pub got_at : (xs : List X) (i : ℕ) (x : X) → i < length xs → x ≡ get_or xs i x → slice_get xs i ≡ Some x
  got_at [] i x less is = absurd (omega (arith, less))
  got_at (y ∷ ys) zero x less is = ap Some (sym is)
  got_at (y ∷ ys) (suc i) x less is = got_at ys i x (omega (arith, less)) is

  pub there_at : (xs : List X) (i : ℕ) → i < length xs → (x : X) × (slice_get xs i ≡ Some x)
  there_at [] i less = absurd (omega (arith, less))
  there_at (y ∷ xs) zero less = (y, refl)
  there_at (y ∷ xs) (suc i) less = there_at xs i (omega (arith, less))

  pub past_end : (xs : List X) (i : ℕ) → length xs ≤ i → slice_get xs i ≡ None
  past_end [] i h = refl
  past_end (x ∷ xs) zero h = absurd (omega (arith, h))
  past_end (x ∷ xs) (suc i) h = past_end xs i (omega (arith, h))

  pub drop_past : (xs : List X) (i : ℕ) → length xs ≤ i → drop i xs ≡ []
  drop_past [] zero h = refl
  drop_past [] (suc i) h = refl
  drop_past (x ∷ xs) zero h = absurd (omega (arith, h))
  drop_past (x ∷ xs) (suc i) h = drop_past xs i (omega (arith, h))

  pub drop_next : (xs : List X) (i : ℕ) (x : X) → slice_get xs i ≡ Some x → drop i xs ≡ x ∷ drop (suc i) xs
  drop_next [] zero x is = absurd (none-some x is)
  drop_next [] (suc i) x is = absurd (none-some x is)
  drop_next (y ∷ xs) zero x is = ap (λ z. z ∷ xs) (same_Some y x is)
  drop_next (y ∷ xs) (suc i) x is = drop_next xs i x is

  pub drop_at : (xs : List X) (i : ℕ) (x : X) → slice_get xs i ≡ Some x → drop i xs ≡ x ∷ drop (i + 1) xs
  drop_at xs i x is = drop_next xs i x is ∙ ap (λ k. x ∷ drop k xs) (next_is i)
