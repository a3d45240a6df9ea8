-- The id of a block, as it is told beside the bytes.
use Rattle.std.specs.Prelude.{ℕ, List, Option, Some, None}
use Rattle.ild_data.specs.Spell.{id_of}
use Rattle.ild_data.specs.declared.id.BlockId.{BlockId}

-- the id that is told of these bytes; where none is, it is worked out
abbrev pub told_id : Option BlockId → List ℕ → List ℕ
told_id (Some id) bytes = id.0
told_id None bytes = id_of bytes
