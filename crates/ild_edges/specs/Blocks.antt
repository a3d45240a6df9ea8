-- The blocks of a store in memory.
use Rattle.std.specs.Prelude.{ℕ, List}
use Rattle.ild_edges.specs.Own.{row_blocks}
use Rattle.ild_edges.specs.declared.blocks.Blocks.{Blocks}

-- the blocks, by rising id
abbrev pub blocks_of : Blocks → List (List ℕ)
blocks_of b = row_blocks b.rows.entries
