-- The places of parts at which a rule fails.
use Rattle.std.specs.Prelude.{ℕ, List, [], ◌∷◌, ◌++◌, Bool, Option, Some, None, find, option_map, if◌then◌else◌}

-- the place of the first part that fails
abbrev pub first_place : {A : Type 0} → (A → Bool) → (A → ℕ) → List A → Option ℕ
first_place fails at parts = option_map at (find fails parts)

-- the place of the first part that fails beside those before it
abbrev pub first_beside : {A : Type 0} → (List A → A → Bool) → (A → ℕ) → List A → List A → Option ℕ
first_beside fails at before [] = None
first_beside fails at before (a ∷ more) = if fails before a then Some (at a) else first_beside fails at (before ++ a ∷ []) more

abbrev pub place_if : Bool → ℕ → Option ℕ
place_if fails at = if fails then Some at else None
