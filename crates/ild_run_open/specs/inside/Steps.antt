-- What each step on the way to an opened document answers.
use Rattle.std.specs.Prelude.{◌≡◌, ℕ, List, [], ◌∷◌, Result, Ok, Err}
use Rattle.ild_data.specs.Data.{Data}
use Rattle.ild_data.specs.Spell.{spell}
use Rattle.ild_build_blocks.specs.declared.fault.BuildFault.{BuildFault}
use Rattle.ild_build_blocks.specs.declared.fault.BuildFault.TheVariants as B
use Rattle.ild_edges.specs.Count.{Rose}
use Rattle.ild_edges.specs.Store.{Moment, Later}
use Rattle.ild_schema.specs.Value.{Value}
use Rattle.ild_schema.specs.declared.number.TypeNo.{TypeNo}
use Rattle.ild_schema.specs.declared.row.Row.{Row}
use Rattle.ild_script_session.specs.declared.putting.PutFault.{PutFault}
use Rattle.ild_script_session.specs.declared.putting.PutFault.TheVariants as P
use Rattle.ild_open_parts.specs.declared.fault.OpenFault.{OpenFault}
use Rattle.ild_open_parts.specs.declared.fault.OpenFault.TheVariants as O
use Rattle.ild_script_session.specs.Step.{AddsOnly, Holds}
use Rattle.ild_typed.specs.Stands.{bare, Storable}
use Rattle.ild_run_open.specs.Empty.{IsEmpty}
use Rattle.ild_run_open.specs.Starts.{EmptyStops, KeepsEmpty}
use Rattle.ild_run_open.specs.declared.start.StartFault.{StartFault}
use Rattle.ild_run_open.specs.declared.start.StartFault.TheVariants as F

abbrev pub open_fault : OpenFault → StartFault
open_fault (O.Block id why) = F.Block id why
open_fault O.Store = F.Store
open_fault O.Memory = F.Memory

-- why building the empty value stops: of no entry there is a trie, its block is short, and no other one is put
abbrev pub IsOfEmpty : BuildFault → Type 0
IsOfEmpty B.Store = Unit {0}
IsOfEmpty B.Memory = Unit {0}
IsOfEmpty fault = ⊥

-- and as what it is told
abbrev pub TellsBuilt : BuildFault → StartFault → Type 0
TellsBuilt B.Store f = f ≡ F.Store
TellsBuilt B.Memory f = f ≡ F.Memory
TellsBuilt fault f = ⊥

abbrev pub put_fault : PutFault → StartFault
put_fault P.Failed = F.Store
put_fault (P.Clash id) = F.Clash id
put_fault P.Memory = F.Memory

-- ---- the block of an empty value

-- the spelling of its data, which is all its blocks
pub record IsEmptyBlock (h : List ℕ → List ℕ) (rows : List Row) (ty : TypeNo) (v : Value) (block : List ℕ) : Type 0 where
  pub tree : Data
  pub storable : Storable bare h rows ty v tree
  pub spelled : block ≡ spell tree

abbrev pub BuildEmptyAnswer : (List ℕ → List ℕ) → List Row → TypeNo → Value → Moment → Result (List ℕ) StartFault → Moment → Type 0
BuildEmptyAnswer h rows ty v m (Ok block) n = IsEmptyBlock h rows ty v block
BuildEmptyAnswer h rows ty v m (Err F.Store) n = Rose m.faults n.faults
BuildEmptyAnswer h rows ty v m (Err F.Memory) n = Unit {0}
BuildEmptyAnswer h rows ty v m (Err f) n = ⊥

-- nothing is put
pub record BuildsEmpty (h : List ℕ → List ℕ) (rows : List Row) (ty : TypeNo) (v : Value) (m : Moment) (result : Result (List ℕ) StartFault) (n : Moment) : Type 0 where
  pub answer : BuildEmptyAnswer h rows ty v m result n
  pub later : Later m n
  pub adds : AddsOnly m n []
  pub gets : n.gets ≡ m.gets
  pub puts : n.puts ≡ m.puts

-- ---- and that it is put

-- the block of the empty value is held
pub record HasEmpty (h : List ℕ → List ℕ) (rows : List Row) (ty : TypeNo) (block : List ℕ) (n : Moment) : Type 0 where
  pub value : Value
  pub empty : IsEmpty rows ty value
  pub is : IsEmptyBlock h rows ty value block
  pub held : Holds n (block ∷ [])

abbrev pub PutEmptyAnswer : (List ℕ → List ℕ) → List Row → TypeNo → Moment → Result (List ℕ) StartFault → Moment → Type 0
PutEmptyAnswer h rows ty m (Ok block) n = HasEmpty h rows ty block n
PutEmptyAnswer h rows ty m (Err f) n = EmptyStops h rows ty m f n

pub record PutsEmpty (h : List ℕ → List ℕ) (rows : List Row) (ty : TypeNo) (m : Moment) (result : Result (List ℕ) StartFault) (n : Moment) : Type 0 where
  pub answer : PutEmptyAnswer h rows ty m result n
  pub asks : KeepsEmpty h rows ty m n
