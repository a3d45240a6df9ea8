-- The parts, or the pairs, of a text that was split.
use Rattle.std.specs.Prelude.{ℕ, List, [], Option, Some, None}
use Rattle.ild_text.specs.Cut.{cut}
use Rattle.ild_text.specs.Pairs.{pairs_of}
use Rattle.ild_text.specs.declared.parts.JoinParts.{JoinParts}
use Rattle.ild_text.specs.declared.parts.PairParts.{PairParts}

abbrev pub parts : JoinParts → List (List ℕ)
parts split = cut split.delim.now split.text.now

abbrev pub pairs_in : PairParts → List (List ℕ × List ℕ)
pairs_in split = pairs_of split.inner.now split.entry.now split.text.now

-- where no part is left, none
abbrev pub parts_left : Option JoinParts → List (List ℕ)
parts_left None = []
parts_left (Some split) = parts split
