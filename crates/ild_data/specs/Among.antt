-- Blocks among others, and blocks that stand under their ids.
use Rattle.std.specs.Prelude.{◌≡◌, ℕ, List, Option, Some, Contains}
use Rattle.std.specs.List.{AllByRecursion}
use Rattle.ild_data.specs.Spell.{id_of}

-- each of the first is one of the others
abbrev pub AreAmong : List (List ℕ) → List (List ℕ) → Type 0
AreAmong bs others = AllByRecursion (Contains others) bs

-- each of the blocks is what is answered for its id
abbrev pub AreUnderIds : (List ℕ → Option (List ℕ)) → List (List ℕ) → Type 0
AreUnderIds block bs = AllByRecursion (λ b. block (id_of b) ≡ Some b) bs
