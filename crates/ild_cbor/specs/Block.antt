-- Blocks: the spellings of trees within the limits.
use Rattle.std.specs.Prelude.{ℕ, ◌≡◌, List}
use Rattle.ild_data.specs.Data.{Data}
use Rattle.ild_data.specs.Spell.{spell}
use Rattle.ild_data.specs.Limits.{IsWithin}

-- the bytes are the spelling of a tree within the limits
pub record IsBlockOf (b : List ℕ) (d : Data) : Type 0 where
  pub within : IsWithin d
  pub spelled : b ≡ spell d
