-- Reading one node from a store, as its steps.
use Rattle.std.specs.Prelude.{◌≡◌, ◌≤◌, ◌+◌, ℕ, List, Some, None, Result, Ok, Err}
use Rattle.std.specs.Global.{Vec}
use Rattle.ild_data.specs.Bytes.{AreBytes}
use Rattle.ild_data.specs.declared.hamt_shape.HamtShape.{HamtShape}
use Rattle.ild_data.specs.Trie.{TrieSlot}
use Rattle.ild_cbor.specs.Reading.{fault_of}
use Rattle.ild_cbor.specs.declared.why.BlockWhy.{BlockWhy}
use Rattle.ild_cbor.specs.declared.why.BlockWhy.TheVariants.{Missing, Cbor, Shape as NoNode}
use Rattle.ild_cbor.specs.declared.why.Why.TheVariants.{Trie}
use Rattle.ild_edges.specs.Count.{Rose}
use Rattle.ild_edges.specs.Gained.{IsGot, IsUnder}
use Rattle.ild_edges.specs.Store.{Moment, Later, block_at}
use Rattle.ild_edges.specs.Told.{IfTold}
use Rattle.ild_node_slots.specs.declared.fault.HamtFault.{HamtFault}
use Rattle.ild_node_slots.specs.declared.fault.HamtFault.TheVariants.{Block, Store, Memory}
use Rattle.ild_bulk_walker.specs.Gives.{IsNodeOf}
use Rattle.ild_bulk_walker.specs.Todo.{node_todo}
use Rattle.ild_bulk_walker.specs.Steps.{steps_todo}
use Rattle.ild_bulk_walker.specs.declared.step.Step.{Step}

-- the block is a node, and these are its steps
pub record HasSteps (p : HamtShape) (b : List ℕ) (steps : List Step) : Type 0 where
  pub bytes : AreBytes b
  pub slots : List TrieSlot
  pub node : IsNodeOf p b slots
  pub todo : steps_todo steps ≡ node_todo 0 slots

-- what is wrong with a block
abbrev pub IsFaulty : HamtShape → List ℕ → BlockWhy → Type 0
IsFaulty p b Missing = ⊥
IsFaulty p b (Cbor fault) = fault_of b ≡ Some fault
IsFaulty p b (NoNode why) = (why ≡ Trie) × ((slots : List TrieSlot) → IsNodeOf p b slots → ⊥)

-- a block is read as steps, or why not
abbrev pub ReadsBlock : HamtShape → List ℕ → List ℕ → Result (Vec Step) HamtFault → Type 0
ReadsBlock p id b (Ok steps) = HasSteps p b steps.items
ReadsBlock p id b (Err (Block i why)) = (i.0 ≡ id) × IsFaulty p b why
ReadsBlock p id b (Err Memory) = Unit {0}
ReadsBlock p id b (Err e) = ⊥

-- a get gave the block under an id, and something is wrong with it
pub record GotFaulty (p : HamtShape) (m : Moment) (id : List ℕ) (why : BlockWhy) (n : Moment) : Type 0 where
  pub block : List ℕ
  pub at : IsUnder m.blocks id block
  pub got : IsGot n block
  pub wrong : IsFaulty p block why

-- why the block under an id is refused: it isn't there, or isn't a node
abbrev pub IsRefused : HamtShape → Moment → List ℕ → BlockWhy → Moment → Type 0
IsRefused p m id Missing n = IfTold m.blocks (λ blocks. block_at blocks id ≡ None) × Rose m.lacks n.lacks
IsRefused p m id (Cbor fault) n = GotFaulty p m id (Cbor fault) n
IsRefused p m id (NoNode why) n = GotFaulty p m id (NoNode why) n

-- a get gave the block under an id, which is read as these steps
pub record GotSteps (p : HamtShape) (m : Moment) (id : List ℕ) (steps : List Step) (n : Moment) : Type 0 where
  pub block : List ℕ
  pub at : IsUnder m.blocks id block
  pub got : IsGot n block
  pub has : HasSteps p block steps

abbrev pub FetchAnswer : HamtShape → Moment → List ℕ → Result (Vec Step) HamtFault → Moment → Type 0
FetchAnswer p m id (Ok steps) n = GotSteps p m id steps.items n
FetchAnswer p m id (Err (Block i why)) n = (i.0 ≡ id) × IsRefused p m id why n
FetchAnswer p m id (Err Store) n = Rose m.faults n.faults
FetchAnswer p m id (Err Memory) n = Unit {0}
FetchAnswer p m id (Err e) n = ⊥

-- gets alone, at most so many
pub record OnlyGets (most : ℕ) (m n : Moment) : Type 0 where
  pub later : Later m n
  pub blocks : n.blocks ≡ m.blocks
  pub given : n.given ≡ m.given
  pub puts : n.puts ≡ m.puts
  pub gets : n.gets ≤ m.gets + most

-- one get of a node
pub record Fetches (p : HamtShape) (m : Moment) (id : List ℕ) (result : Result (Vec Step) HamtFault) (n : Moment) : Type 0 where
  pub answer : FetchAnswer p m id result n
  pub only : OnlyGets 1 m n
