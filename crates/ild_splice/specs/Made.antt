-- The bytes of a changed block, and what a call answers that is to make them.
use Rattle.std.specs.Prelude.{◌≡◌, ◌<◌, ◌≤◌, ℕ, List, [], ◌++◌, length, Result, Ok, Err}
use Rattle.ild_data.specs.Limits.{longest_block}
use Rattle.ild_data.specs.Spell.{head, spell_text}
use Rattle.ild_splice.specs.declared.error.SpliceErr.{SpliceErr}
use Rattle.ild_splice.specs.declared.error.SpliceErr.TheVariants.{Size, Memory}
use Rattle.ild_splice.specs.declared.piece.Lead.{Lead}
use Rattle.ild_splice.specs.declared.piece.Lead.TheVariants as L
use Rattle.ild_splice.specs.declared.piece.NewHead.{NewHead}
use Rattle.ild_splice.specs.declared.piece.NewHead.TheVariants as H
use Rattle.ild_splice.specs.declared.piece.Pieces.{Pieces}

abbrev pub head_bytes : NewHead → List ℕ
head_bytes H.Same = []
head_bytes (H.List n) = head 4 n
head_bytes (H.Map n) = head 5 n

-- a pair is a list of two, the first of which is its key
abbrev pub lead_bytes : Lead → List ℕ
lead_bytes L.Nothing = []
lead_bytes (L.Key k) = spell_text k.now
lead_bytes (L.Pair k) = head 4 2 ++ spell_text k.now

-- what stands in place of the item that is changed
abbrev pub inner_of : Pieces → List ℕ
inner_of p = head_bytes p.head ++ (p.before.now ++ (lead_bytes p.lead ++ (p.new.now ++ p.after.now)))

abbrev pub bytes_of : Pieces → List ℕ
bytes_of p = p.front.now ++ (inner_of p ++ p.behind.now)

-- the block is these bytes, and they are refused exactly where they are more than a block may have; else only memory may be wanting
abbrev pub MakesBytes : List ℕ → Result (List ℕ) SpliceErr → Type 0
MakesBytes bytes (Ok b) = (b ≡ bytes) × (length bytes ≤ longest_block)
MakesBytes bytes (Err Size) = longest_block < length bytes
MakesBytes bytes (Err Memory) = length bytes ≤ longest_block
