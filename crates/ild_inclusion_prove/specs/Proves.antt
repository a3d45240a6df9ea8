-- What a proof that is made holds, and of what it is one.
use Rattle.std.specs.Prelude.{◌≡◌, ℕ, ◌+◌, ◌≤◌, List, ◌∷◌, length, Some, Result, Ok, Err}
use Rattle.ild_data.specs.Spell.{id_of}
use Rattle.ild_edges.specs.Count.{Rose}
use Rattle.ild_edges.specs.Gained.{AreHeld}
use Rattle.ild_edges.specs.Store.{Moment}
use Rattle.ild_edges.specs.Told.{IfTold}
use Rattle.ild_inclusion.specs.Says.{BlocksSay}
use Rattle.ild_inclusion.specs.declared.answer.Answer.{Answer}
use Rattle.ild_inclusion_held.specs.Answered.{answered}
use Rattle.ild_node_slots.specs.declared.fault.HamtFault.{HamtFault}
use Rattle.ild_node_slots.specs.declared.fault.HamtFault.TheVariants as F
use Rattle.ild_path_inward.specs.Levels.{met_on}
use Rattle.ild_schema.specs.Slots.{plainly}
use Rattle.ild_schema.specs.Value.{Value}
use Rattle.ild_schema.specs.declared.number.TypeNo.{TypeNo}
use Rattle.ild_schema.specs.declared.row.Row.{Row}

-- Over every store: the block of the root and nodes that were read, each once, say something of the path. A store that tells what it holds
-- has these nodes.
pub record Proves (h : List ℕ → List ℕ) (rows : List Row) (n : TypeNo) (block : List ℕ) (path : List (List ℕ)) (before : Moment) (proof : List (List ℕ)) (after : Moment) : Type 0 where
  pub nodes : List (List ℕ)
  pub is : proof ≡ block ∷ nodes
  pub held : IfTold before.blocks (AreHeld nodes)
  pub gets : after.gets ≤ before.gets + length nodes
  pub answer : Answer
  pub says : BlocksSay h rows n (id_of block) path proof answer

-- what the value answers at the path is what the blocks say
pub record ProvesOf (h : List ℕ → List ℕ) (rows : List Row) (n : TypeNo) (id : List ℕ) (v : Value) (path proof : List (List ℕ)) : Type 0 where
  pub answer : Answer
  pub is : answered h rows 0 (plainly n, v) path ≡ Some answer
  pub says : BlocksSay h rows n id path proof answer

-- no block is refused
abbrev pub HeldAnswer : (List ℕ → List ℕ) → List Row → TypeNo → List ℕ → Value → List (List ℕ) → Moment → Result (List (List ℕ)) HamtFault → Moment → Type 0
HeldAnswer h rows n id v path before (Ok proof) after = ProvesOf h rows n id v path proof
HeldAnswer h rows n id v path before (Err F.Store) after = Rose before.faults after.faults
HeldAnswer h rows n id v path before (Err F.Memory) after = Unit {0}
HeldAnswer h rows n id v path before (Err e) after = ⊥

-- on a store that tells and holds the value
pub record ProvesHeld (h : List ℕ → List ℕ) (rows : List Row) (n : TypeNo) (id : List ℕ) (v : Value) (path : List (List ℕ)) (before : Moment) (result : Result (List (List ℕ)) HamtFault) (after : Moment) : Type 0 where
  pub answer : HeldAnswer h rows n id v path before result after
  pub gets : after.gets ≤ before.gets + met_on h rows (plainly n, v) path
