-- Parts of a value that are longer than a block may be.
use Rattle.std.specs.Prelude.{◌≡◌, ◌<◌, ℕ, List, length, Some}
use Rattle.ild_data.specs.Data.{Data}
use Rattle.ild_data.specs.Limits.{longest_block}
use Rattle.ild_data.specs.Spell.{spell}
use Rattle.ild_schema.specs.declared.row.Row.{Row}
use Rattle.ild_typed.specs.At.{InSlot, at}
use Rattle.ild_typed.specs.Hamt.{whole}
use Rattle.ild_typed.specs.Represented.{represented}

-- some part, at any path, has these data
pub record IsDataOfPart (h : List ℕ → List ℕ) (rows : List Row) (p : InSlot) (x : Data) : Type 0 where
  pub path : List (List ℕ)
  pub part : InSlot
  pub at : at rows p path ≡ Some part
  pub tree : represented (whole h) rows part.0 part.1 ≡ Some x

-- some part has data that no block can hold
pub record HasLongPart (h : List ℕ → List ℕ) (rows : List Row) (p : InSlot) : Type 0 where
  pub tree : Data
  pub part : IsDataOfPart h rows p tree
  pub long : longest_block < length (spell tree)
