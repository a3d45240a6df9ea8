-- What putting one block leaves.
use Rattle.std.specs.Prelude.{◌≡◌, ℕ, ◌+◌, ◌≤◌, List, [], ◌∷◌, Result, Ok, Err}
use Rattle.ild_data.specs.Spell.{id_of}
use Rattle.ild_data.specs.declared.id.BlockId.{BlockId}
use Rattle.ild_edges.specs.Count.{Rose}
use Rattle.ild_edges.specs.Store.{Moment, Later}
use Rattle.ild_script_session.specs.Step.{Holds, AddsOnly, Collides}
use Rattle.ild_script_session.specs.declared.putting.PutFault.{PutFault}
use Rattle.ild_script_session.specs.declared.putting.PutFault.TheVariants as F

-- the answer, by cases
abbrev pub PutAnswer : Moment → List ℕ → Result BlockId PutFault → Moment → Type 0
PutAnswer m block (Ok id) n = (id.0 ≡ id_of block) × Holds n (block ∷ [])
PutAnswer m block (Err F.Failed) n = Rose m.faults n.faults
PutAnswer m block (Err (F.Clash id)) n = (id.0 ≡ id_of block) × Collides n (block ∷ [])
PutAnswer m block (Err F.Memory) n = Unit {0}

-- one block was put, or not: nothing else came
pub record PutsBlock (m : Moment) (block : List ℕ) (result : Result BlockId PutFault) (n : Moment) : Type 0 where
  pub answer : PutAnswer m block result n
  pub later : Later m n
  pub adds : AddsOnly m n (block ∷ [])
  pub gets : n.gets ≤ m.gets
  pub puts : n.puts ≤ m.puts + 1
