-- The block in which data stand, as it is handed in.
use Rattle.std.specs.Prelude.{ℕ, List}
use Rattle.ild_open.specs.declared.block_at.BlockAt.{BlockAt}

abbrev pub bytes_in : BlockAt → List ℕ
bytes_in a = a.bytes.now
