-- The id of a clash.
use Rattle.std.specs.Prelude.{◌≡◌, ℕ, List, [], ◌∷◌, Option, Some, None}
use Rattle.ild_build_blocks.specs.declared.fault.BuildFault.{BuildFault}
use Rattle.ild_build_blocks.specs.declared.fault.BuildFault.TheVariants as B
use Rattle.ild_data.specs.Bytes.{AreBytes}
use Rattle.ild_data.specs.declared.id.BlockId.{BlockId}
use Rattle.ild_data.specs.Spell.{id_of}
use Rattle.ild_edges.specs.Gained.{Collides}
use Rattle.ild_edges.specs.Store.{Moment}
use Rattle.ild_path.specs.declared.fault.EditFault.{EditFault}
use Rattle.ild_path.specs.declared.fault.EditFault.TheVariants as F

-- a block has the id, and collides with one that is held
pub record IsTaken (n : Moment) (id : List ℕ) : Type 0 where
  pub new : List ℕ
  pub named : id_of new ≡ id
  pub hit : Collides n (new ∷ [])

-- the id of a clash, where one is named
abbrev pub NamesClash : Option BlockId → Moment → Type 0
NamesClash None n = ⊥
NamesClash (Some id) n = IsTaken n id.0

-- ---- as faults have it

-- the id is noted, and both of its strings are bytes
abbrev pub NotesDone : EditFault → Option BlockId → Type 0
NotesDone (F.Clash id kept new) clash = (clash ≡ Some id) × AreBytes kept × AreBytes new
NotesDone fault clash = Unit {0}

abbrev pub NotesBuilt : BuildFault → Option BlockId → Type 0
NotesBuilt (B.Clash id kept new) clash = clash ≡ Some id
NotesBuilt fault clash = Unit {0}
