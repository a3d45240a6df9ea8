-- Laws of spellings.
use Rattle.std.specs.Prelude.{ℕ, ◌≡◌, ◌<◌, ◌^◌, List, length, ◌++◌}
use Rattle.ild_data.specs.Data.{Data}
use Rattle.ild_data.specs.Spell.{spell}
use Rattle.ild_data.specs.Tree.{IsTree}

-- no spelling begins another, and two trees have two spellings
abbrev pub OneSpelling : Type 0
OneSpelling = (d e : Data) (x y : List ℕ) → IsTree d → IsTree e → length (spell d) < 2 ^ 64 → length (spell e) < 2 ^ 64 → spell d ++ x ≡ spell e ++ y → (d ≡ e) × (x ≡ y)

-- trees of one spelling are one tree
abbrev pub OneMeaning : Type 0
OneMeaning = (d e : Data) → IsTree d → IsTree e → length (spell d) < 2 ^ 64 → spell d ≡ spell e → d ≡ e
