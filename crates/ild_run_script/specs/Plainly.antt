-- Scripts on plain values: where nothing outside stands in the way.
use Rattle.std.specs.Prelude.{◌⊎◌, ℕ, List, None, Contains}
use Rattle.ild_data.specs.Spell.{id_of}
use Rattle.ild_edges.specs.Store.{block_at}
use Rattle.ild_path_edits.specs.Judged.{Tests}
use Rattle.ild_schema.specs.Value.{Value}
use Rattle.ild_schema.specs.declared.number.TypeNo.{TypeNo}
use Rattle.ild_schema.specs.declared.row.Row.{Row}
use Rattle.ild_script.specs.Line.{lines_of}
use Rattle.ild_script_session.specs.Plain.{MayBegin, MayPut}
use Rattle.ild_script_session.specs.Session.{Due, State, idle}
use Rattle.ild_typed.specs.Stands.{bare, Stands}
use Rattle.ild_run_open.specs.Empty.{IsEmpty, empty_blocks}
use Rattle.ild_run_open.specs.declared.start.Start.{Start}
use Rattle.ild_run_open.specs.declared.start.Start.TheVariants as S
use Rattle.ild_run_script.specs.Scripts.{lines_on}

-- what a line is due on a plain value; it doesn't matter what is held
abbrev pub plain_due : List Row → TypeNo → Tests → State Value → List ℕ → Due Value
plain_due rows ty tests s line = (lines_on rows ty tests).due None s line

-- the value from which a script starts: the one that stands under the root in a store, or the empty one
abbrev pub StartsAt : List Row → TypeNo → Start → List (List ℕ) → Value → Type 0
StartsAt rows ty (S.Root root) held v = Stands bare (block_at held) id_of rows ty root.0 v
StartsAt rows ty S.Empty held v = IsEmpty rows ty v

-- the blocks that the opening may put
abbrev pub MayStart : List Row → TypeNo → Start → List ℕ → Type 0
MayStart rows ty (S.Root root) b = ⊥
MayStart rows ty S.Empty b = Contains (empty_blocks id_of rows ty) b

-- a block that a run of the script may put: the empty value's, or one of its lines
abbrev pub MayCome : List Row → TypeNo → Tests → Start → Value → List ℕ → List ℕ → Type 0
MayCome rows ty tests start v script b = MayStart rows ty start b ⊎ MayPut (plain_due rows ty tests) (idle v) (lines_of script) b

-- a batch may be begun by a line of the script
abbrev pub MayBatch : List Row → TypeNo → Tests → Value → List ℕ → Type 0
MayBatch rows ty tests v script = MayBegin (plain_due rows ty tests) (idle v) (lines_of script)
