-- The words of the generator: `gen COUNT SEED`, two numbers in decimal without leading zeros.
use Rattle.std.specs.Prelude.{ℕ, ◌-◌, ◌^◌, List, [], ◌∷◌, map, Option, Some, None, nat_le, option_and_then, if◌then◌else◌, codes, String, string_bytes}
use Rattle.std.specs.declared.alloc.Global.{Global}
use Rattle.ild_data.specs.Key.{same_text}
use Rattle.ild_typed.specs.Segment.{index_of}

abbrev pub at_most : ℕ → ℕ → Option ℕ
at_most most n = if nat_le n most then Some n else None

abbrev pub number_up_to : ℕ → List ℕ → Option ℕ
number_up_to most text = option_and_then (at_most most) (index_of text)

abbrev pub both : Option ℕ → Option ℕ → Option (ℕ × ℕ)
both None seed = None
both (Some count) None = None
both (Some count) (Some seed) = Some (count, seed)

-- of at most 20,000 steps, and from a seed of 64 bits
abbrev pub numbers_in : List ℕ → List ℕ → Option (ℕ × ℕ)
numbers_in count seed = both (number_up_to 20000 count) (number_up_to (2 ^ 64 - 1) seed)

abbrev pub generation_in : List (List ℕ) → Option (ℕ × ℕ)
generation_in (verb ∷ count ∷ seed ∷ []) = if same_text verb (codes "gen") then numbers_in count seed else None
generation_in words = None

abbrev pub generation_of : List (String Global) → Option (ℕ × ℕ)
generation_of words = generation_in (map string_bytes words)
