-- A text of parts with a delimiter between them, which occurs at their joints and nowhere else, and the test of it by cutting from the
-- left (IPLD Schemas, "stringjoin", "stringpairs").
use Rattle.std.specs.Prelude.{◌≡◌, ◌↔◌, ℕ, ◌≤◌, true, List, length, Some}
use Rattle.ild_schema.specs.Clear.{IsGiven}
use Rattle.ild_typed.specs.Cuts.{is_split, is_split_pairs}
use Rattle.ild_typed.specs.Texts.{join, join_pairs}

-- parts are joined to this text
pub record HasParts (delim text : List ℕ) : Type 0 where
  pub parts : List (List ℕ)
  pub some : 1 ≤ length parts
  pub joined : join delim parts ≡ Some text

pub record HasPairs (inner entry text : List ℕ) : Type 0 where
  pub pairs : List (List ℕ × List ℕ)
  pub joined : join_pairs inner entry pairs ≡ Some text

abbrev pub CutsAreSplits : Type 0
CutsAreSplits = (delim text : List ℕ) → IsGiven delim → (is_split delim text ≡ true) ↔ HasParts delim text

abbrev pub CutsArePairs : Type 0
CutsArePairs = (inner entry text : List ℕ) → IsGiven inner → IsGiven entry → (is_split_pairs inner entry text ≡ true) ↔ HasPairs inner entry text
