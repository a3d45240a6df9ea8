-- What holds of each of a list, and how many gets all of them ask for.
use Rattle.std.specs.Prelude.{◌≡◌, ℕ, ◌+◌, ◌≤◌, List, [], ◌∷◌, Some, slice_get}

-- each of a list, which has a number, asks for no more gets than this, and in all they ask for so many at most
abbrev pub SumsTo : {A : Type 0} → (ℕ → A → ℕ → Type 0) → ℕ → List A → ℕ → Type 0
SumsTo Asks i [] cost = Unit {0}
SumsTo Asks i (x ∷ xs) cost = (a : ℕ) × (b : ℕ) × (a + b ≤ cost) × Asks i x a × SumsTo Asks (i + 1) xs b

-- it holds of each of a list at its number
pub record EachOwned {A : Type 0} (Owned : ℕ → A → Type 0) (xs : List A) : Type 0 where
  pub at : (i : ℕ) (x : A) → slice_get xs i ≡ Some x → Owned i x
