-- Laws of the lines of scripts over named heads.
use Rattle.std.specs.Prelude.{◌≡◌, ℕ, ◌<◌, List, Some}
use Rattle.std.specs.Fmt.{decimal}
use Rattle.ild_heads_lines.specs.Number.{number_of}

-- each number below 1000 is written by its decimal, and by nothing else
pub record NumbersAreDecimals : Type 0 where
  pub back : (n : ℕ) → n < 1000 → number_of (decimal n) ≡ Some n
  pub one : (text : List ℕ) (n : ℕ) → number_of text ≡ Some n → (n < 1000) × (text ≡ decimal n)
