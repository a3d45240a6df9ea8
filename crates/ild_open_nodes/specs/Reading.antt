-- Reading a node beneath the root of a HAMT, and judging an entry in it.
use Rattle.std.specs.Prelude.{◌≡◌, ◌⊎◌, ◌<◌, ◌≤◌, ℕ, List, Some, None, Result, Ok, Err}
use Rattle.ild_data.specs.Bytes.{AreBytes}
use Rattle.ild_data.specs.Data.{Data, text}
use Rattle.ild_data.specs.Trie.{TrieSlot}
use Rattle.ild_data.specs.declared.hamt_shape.HamtShape.{HamtShape}
use Rattle.ild_data.specs.declared.id.BlockId.{BlockId}
use Rattle.ild_cbor.specs.Reading.{fault_of}
use Rattle.ild_cbor.specs.declared.why.BlockWhy.{BlockWhy}
use Rattle.ild_cbor.specs.declared.why.BlockWhy.TheVariants as B
use Rattle.ild_cbor.specs.declared.why.Why.{Why}
use Rattle.ild_cbor.specs.declared.why.Why.TheVariants as W
use Rattle.ild_edges.specs.Store.{Gets, Moment}
use Rattle.ild_edges.specs.declared.error.EdgeErr.TheVariants as E
use Rattle.ild_node_slots.specs.Views.{HasSlots}
use Rattle.ild_node_slots.specs.declared.view.NodeView.{NodeView}
use Rattle.ild_schema.specs.Slots.{plainly}
use Rattle.ild_schema.specs.declared.number.Slot.{Slot}
use Rattle.ild_schema.specs.declared.number.TypeNo.{TypeNo}
use Rattle.ild_schema.specs.declared.row.Row.{Row}
use Rattle.ild_typed.specs.Fits.{Fits}
use Rattle.ild_typed.specs.Layers.{RepresentsSome}
use Rattle.ild_bulk_walker.specs.Gives.{IsNodeOf}
use Rattle.ild_open_parts.specs.Broken.{IsWrongPart}
use Rattle.ild_open_parts.specs.declared.fault.OpenFault.{OpenFault}
use Rattle.ild_open_parts.specs.declared.fault.OpenFault.TheVariants as F
use Rattle.ild_open_nodes.specs.Weights.{weights}

-- one get of a block, as a reader tells it
abbrev pub GetsBlock : Moment → List ℕ → Result (List ℕ) OpenFault → Moment → Type 0
GetsBlock m id (Ok b) n = Gets m id (Ok (Some b)) n
GetsBlock m id (Err (F.Block i why)) n = (i.0 ≡ id) × (why ≡ B.Missing) × Gets m id (Ok None) n
GetsBlock m id (Err F.Store) n = Gets m id (Err E.Failed) n
GetsBlock m id (Err F.Memory) n = Gets m id (Err E.Memory) n

-- the block is the node of these slots
pub record IsNodeView (p : HamtShape) (b : List ℕ) (v : NodeView) : Type 0 where
  pub slots : List TrieSlot
  pub node : IsNodeOf p b slots
  pub has : HasSlots p v slots
  pub many : p.bucket < weights p slots

-- it is one of so few entries that a bucket takes them
pub record IsFewNode (p : HamtShape) (b : List ℕ) : Type 0 where
  pub slots : List TrieSlot
  pub node : IsNodeOf p b slots
  pub few : weights p slots ≤ p.bucket

-- a block is read as a node, or why not
abbrev pub ReadsNode : HamtShape → List ℕ → Result NodeView BlockWhy → Type 0
ReadsNode p b (Ok v) = IsNodeView p b v
ReadsNode p b (Err B.Missing) = ⊥
ReadsNode p b (Err (B.Cbor fault)) = fault_of b ≡ Some fault
ReadsNode p b (Err (B.Shape why)) = (why ≡ W.Trie) × (((slots : List TrieSlot) → IsNodeOf p b slots → ⊥) ⊎ IsFewNode p b)

-- the key of an entry and its value fit, or one of them is refused
pub record EntryShows (rows : List Row) (room : ℕ) (ty : TypeNo) (s : Slot) (k : List ℕ) (t : Data) : Type 0 where
  pub key : RepresentsSome (Fits rows room) rows (plainly ty) (text k)
  pub value : RepresentsSome (Fits rows room) rows s t

pub record IsWrongItem (rows : List Row) (room : ℕ) (ty : TypeNo) (s : Slot) (k : List ℕ) (t : Data) (why : BlockWhy) : Type 0 where
  pub cause : Why
  pub told_is : why ≡ B.Shape cause
  pub wrong : IsWrongPart rows room ty s k t cause

abbrev pub EntryChecks : List Row → ℕ → TypeNo → Slot → List ℕ → Data → BlockId → Result (Unit {0}) OpenFault → Type 0
EntryChecks rows room ty s k t at (Ok u) = EntryShows rows room ty s k t
EntryChecks rows room ty s k t at (Err (F.Block id why)) = (id ≡ at) × IsWrongItem rows room ty s k t why
EntryChecks rows room ty s k t at (Err F.Store) = ⊥
EntryChecks rows room ty s k t at (Err F.Memory) = Unit {0}
