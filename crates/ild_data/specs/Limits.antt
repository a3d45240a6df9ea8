-- The limits of a block: 96 containers nested, and 4 MiB.
use Rattle.std.specs.Prelude.{ℕ, ◌≤◌, length}
use Rattle.ild_data.specs.Data.{Data, depth}
use Rattle.ild_data.specs.Tree.{IsTree}
use Rattle.ild_data.specs.Spell.{spell}
use Rattle.ild_data.specs.declared.limit.TheConstants.{LONGEST_BLOCK}

abbrev pub deepest : ℕ
deepest = 96

abbrev pub longest_block : ℕ
longest_block = LONGEST_BLOCK

-- a tree that a block can hold
pub record IsWithin (d : Data) : Type 0 where
  pub tree : IsTree d
  pub nested : depth d ≤ deepest
  pub sized : length (spell d) ≤ longest_block
