-- What a call answers that is to make the item of a union's value.
use Rattle.std.specs.Prelude.{◌≡◌, ◌<◌, ◌≤◌, ℕ, List, length, Option, Some, None, Result, Ok, Err}
use Rattle.ild_data.specs.Data.{Data}
use Rattle.ild_data.specs.Limits.{longest_block}
use Rattle.ild_data.specs.Spell.{spell}
use Rattle.ild_splice.specs.declared.error.SpliceErr.{SpliceErr}
use Rattle.ild_splice.specs.declared.error.SpliceErr.TheVariants.{Size, Memory}

-- these bytes, or that they are more than a block may have; else only memory may be wanting
abbrev pub Writes : List ℕ → Result (Option (List ℕ)) SpliceErr → Type 0
Writes bytes (Ok (Some b)) = (b ≡ bytes) × (length bytes ≤ longest_block)
Writes bytes (Ok None) = ⊥
Writes bytes (Err Size) = longest_block < length bytes
Writes bytes (Err Memory) = length bytes ≤ longest_block

-- the spelling of the data, or that there are none
abbrev pub Tells : Option Data → Result (Option (List ℕ)) SpliceErr → Type 0
Tells (Some u) r = Writes (spell u) r
Tells None r = r ≡ Ok None
