-- Reading one node from a store.
use Rattle.std.specs.Prelude.{◌≡◌, ℕ, List, Option, Some, None, Result, Ok, Err}
use Rattle.ild_data.specs.Data.{Data}
use Rattle.ild_cbor.specs.Block.{IsBlockOf}
use Rattle.ild_cbor.specs.Reading.{fault_of}
use Rattle.ild_edges.specs.Count.{Rose, bumped}
use Rattle.ild_edges.specs.Gained.{IsUnder}
use Rattle.ild_edges.specs.Store.{Moment, Later, block_at}
use Rattle.ild_edges.specs.Told.{IfTold}
use Rattle.ild_data.specs.declared.hamt_shape.HamtShape.{HamtShape}
use Rattle.ild_data.specs.Trie.{TrieSlot, node_data}
use Rattle.ild_node_slots.specs.Form.{IsNode}
use Rattle.ild_cbor.specs.declared.why.BlockWhy.{BlockWhy}
use Rattle.ild_cbor.specs.declared.why.BlockWhy.TheVariants.{Missing, Cbor, Shape as NoNode}
use Rattle.ild_cbor.specs.declared.why.Why.TheVariants.{Trie}
use Rattle.ild_node_slots.specs.declared.fault.HamtFault.{HamtFault}
use Rattle.ild_node_slots.specs.declared.fault.HamtFault.TheVariants.{Block, Store, Memory}
use Rattle.ild_hamt_climb.specs.NodeBytes.{IsNodeBlock}

-- the block is the spelling of other data
pub record IsOtherBlock (p : HamtShape) (b : List ℕ) : Type 0 where
  pub data_in : Data
  pub is : IsBlockOf b data_in
  pub other : (slots : List TrieSlot) → IsNode p slots → data_in ≡ node_data slots → ⊥

-- a block is a node, or what is wrong with it
abbrev pub Judges : HamtShape → List ℕ → Option BlockWhy → Type 0
Judges p b None = IsNodeBlock p b
Judges p b (Some Missing) = ⊥
Judges p b (Some (Cbor fault)) = fault_of b ≡ Some fault
Judges p b (Some (NoNode why)) = (why ≡ Trie) × IsOtherBlock p b

-- a block under the id, with this wrong in it
pub record IsWrong (p : HamtShape) (m : Moment) (id : List ℕ) (why : BlockWhy) : Type 0 where
  pub block : List ℕ
  pub at : IsUnder m.blocks id block
  pub wrong : Judges p block (Some why)

abbrev pub BlockCause : HamtShape → Moment → List ℕ → BlockWhy → Moment → Type 0
BlockCause p m id Missing n = IfTold m.blocks (λ blocks. block_at blocks id ≡ None) × Rose m.lacks n.lacks
BlockCause p m id (Cbor fault) n = IsWrong p m id (Cbor fault)
BlockCause p m id (NoNode why) n = IsWrong p m id (NoNode why)

abbrev pub FetchAnswer : HamtShape → Moment → List ℕ → Result (List ℕ) HamtFault → Moment → Type 0
FetchAnswer p m id (Ok b) n = IsUnder m.blocks id b × IsNodeBlock p b
FetchAnswer p m id (Err (Block i why)) n = (i.0 ≡ id) × BlockCause p m id why n
FetchAnswer p m id (Err Store) n = Rose m.faults n.faults
FetchAnswer p m id (Err Memory) n = Unit {0}
FetchAnswer p m id (Err e) n = ⊥

-- one get of a node
pub record Fetches (p : HamtShape) (m : Moment) (id : List ℕ) (result : Result (List ℕ) HamtFault) (n : Moment) : Type 0 where
  pub answer : FetchAnswer p m id result n
  pub later : Later m n
  pub blocks : n.blocks ≡ m.blocks
  pub given : n.given ≡ m.given
  pub gets : n.gets ≡ bumped m.gets
  pub puts : n.puts ≡ m.puts
