-- What a writer leaves in its buffer.
use Rattle.std.specs.Prelude.{◌≡◌, ℕ, List, ◌++◌, Option, Some}
use Rattle.ild_emit.specs.Grown.{IsGrown}

-- what stood there stands there still; and where there are bytes to be written, these alone stand behind it
pub record Wrote (made : Option (List ℕ)) (old new : List ℕ) : Type 0 where
  pub grown : IsGrown old new
  pub spelled : (s : List ℕ) → made ≡ Some s → new ≡ old ++ s
