-- Laws of the line grammar.
use Rattle.std.specs.Prelude.{◌≡◌, ℕ, List, [], ◌∷◌, Bool, ◌==◌, ◌&&◌, not, true, Some, if◌then◌else◌, IsUtf8}
use Rattle.std.specs.List.{flat_map, list_all, AllByRecursion}
use Rattle.ild_script.specs.Escape.{unescaped}
use Rattle.ild_script.specs.Line.{Command, command, reads}

-- how a segment writes a byte of a text
abbrev pub escape : ℕ → List ℕ
escape b =
    if b == 126 then 126 ∷ 48 ∷ []
    else if b == 47 then 126 ∷ 49 ∷ []
    else if b == 32 then 126 ∷ 50 ∷ []
    else if b == 10 then 126 ∷ 51 ∷ []
    else b ∷ []

abbrev pub segment_text : List ℕ → List ℕ
segment_text = flat_map escape

-- every text is written by a segment, and read back from it
abbrev pub TextsAreReadBack : Type 0
TextsAreReadBack = (t : List ℕ) → unescaped (segment_text t) ≡ Some t

-- neither a slash nor a space nor a line feed
abbrev pub is_segment_byte : ℕ → Bool
is_segment_byte b = not (b == 47) && (not (b == 32) && not (b == 10))

-- what a segment writes, no other segment writes
abbrev pub SegmentsAreOne : Type 0
SegmentsAreOne = (s t : List ℕ) → list_all is_segment_byte s ≡ true → unescaped s ≡ Some t → s ≡ segment_text t

-- the segments of a command's path are texts, and so is its json
pub record IsOfTexts (c : Command) : Type 0 where
  pub path : AllByRecursion IsUtf8 c.path
  pub json : IsUtf8 c.json

abbrev pub CommandsAreOfTexts : Type 0
CommandsAreOfTexts = (line : List ℕ) (c : Command) → reads line ≡ command c → IsOfTexts c
