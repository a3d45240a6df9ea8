-- What is wrong in a HAMT, as it is told of a node on its tree; and what going over the parts of a node answers.
use Rattle.std.specs.Prelude.{◌≡◌, ◌⊎◌, ℕ, ◌∷◌, List, reverse, slice_get, Option, Some, IsUtf8, Result}
use Rattle.ild_cbor.specs.Nodes.{HasData}
use Rattle.ild_cbor.specs.declared.node.Node.{Node}
use Rattle.ild_cbor.specs.declared.why.BlockWhy.{BlockWhy}
use Rattle.ild_data.specs.Data.{Data}
use Rattle.ild_data.specs.Trie.{TrieSlot, bucket, child}
use Rattle.ild_data.specs.declared.hamt_shape.HamtShape.{HamtShape}
use Rattle.ild_edges.specs.Store.{Moment}
use Rattle.ild_schema.specs.declared.number.Slot.{Slot}
use Rattle.ild_schema.specs.declared.number.TypeNo.{TypeNo}
use Rattle.ild_schema.specs.declared.row.Row.{Row}
use Rattle.ild_bulk_walker.specs.OnTree.{HasNode, IsOnTree}
use Rattle.ild_bulk_walker.specs.Standing.{IsWrongOnTree}
use Rattle.ild_open_parts.specs.Broken.{HasBrokenBlock, IsWrongBelow, IsWrongEntry}
use Rattle.ild_open_parts.specs.Sites.{Site}
use Rattle.ild_open_parts.specs.declared.fault.OpenFault.{OpenFault}
use Rattle.ild_open_nodes.specs.Nodes.{EntryGiven, EntryOwned, SlotGiven, SlotOwned}
use Rattle.ild_open_nodes.specs.inside.Passes.{Passes}
use Rattle.ild_open_nodes.specs.Sums.{EachOwned, SumsTo}

-- a node with these slots stands at the end of a way on the tree beneath a root of the slots `top`, which stands in the block `head`
pub record StandsOn (p : HamtShape) (told : Option (List (List ℕ))) (top : List TrieSlot) (head way at : List ℕ) (slots : List TrieSlot) : Type 0 where
  pub up : List ℕ
  pub way_is : way ≡ reverse up
  pub on : IsOnTree p told top head up at
  pub node : HasNode p told top up at slots

-- a child hangs there by a link at an index
pub record HangsOn (p : HamtShape) (told : Option (List (List ℕ))) (top : List TrieSlot) (head way : List ℕ) (i : ℕ) (id : List ℕ) : Type 0 where
  pub up : List ℕ
  pub way_is : way ≡ reverse up
  pub on : IsOnTree p told top head (i ∷ up) id

-- something is wrong with a block on the tree of a HAMT, with an entry of it, or in the value of one
abbrev pub BrokenOn : (List ℕ → List ℕ) → List Row → Site → Moment → Moment → List ℕ → BlockWhy → Type 0
BrokenOn h rows z m n id why =
    IsWrongOnTree h z.shape m.blocks z.slots z.block m.lacks n.lacks id why
    ⊎ IsWrongEntry rows m.blocks z id why
    ⊎ IsWrongBelow m.blocks z (λ b d. HasBrokenBlock h rows m.blocks m.lacks n.lacks b z.room z.value d id why)

module _ (h : List ℕ → List ℕ) (p : HamtShape) (rows : List Row) (room : ℕ) (key : TypeNo) (u : Slot) where
  abbrev pub site : List ℕ → List TrieSlot → Site
  site head top = record { block = head; shape = p; slots = top; key = key; value = u; room = room }

  -- in each HAMT on whose tree a node stands so
  pub record BrokenIn (way at : List ℕ) (slots : List TrieSlot) (m n : Moment) (id : List ℕ) (why : BlockWhy) : Type 0 where
    pub each : (top : List TrieSlot) (head : List ℕ) → StandsOn p m.blocks top head way at slots → BrokenOn h rows (site head top) m n id why

  -- in each on whose tree a child hangs so
  pub record BrokenAt (way : List ℕ) (i : ℕ) (child : List ℕ) (m n : Moment) (id : List ℕ) (why : BlockWhy) : Type 0 where
    pub each : (top : List TrieSlot) (head : List ℕ) → HangsOn p m.blocks top head way i child → BrokenOn h rows (site head top) m n id why

  -- ---- going over the slots of the node `at`, which stands at the end of a way

  abbrev pub PassesSlots : List ℕ → List ℕ → List TrieSlot → Moment → Result (Unit {0}) OpenFault → Moment → Type 0
  PassesSlots way at slots =
      Passes (λ held. EachOwned (SlotOwned h p rows room key u held way) slots) (λ held cost. SumsTo (SlotGiven h p rows room key u held way) 0 slots cost) (BrokenIn way at slots)

  abbrev pub PassesSlot : List ℕ → List ℕ → List TrieSlot → ℕ → TrieSlot → Moment → Result (Unit {0}) OpenFault → Moment → Type 0
  PassesSlot way at slots i s = Passes (λ held. SlotOwned h p rows room key u held way i s) (λ held cost. SlotGiven h p rows room key u held way i s cost) (BrokenIn way at slots)

  abbrev pub PassesEntry : List ℕ → List ℕ → List TrieSlot → ℕ → List ℕ × Data → Moment → Result (Unit {0}) OpenFault → Moment → Type 0
  PassesEntry way at slots i e = Passes (λ held. EntryOwned h p rows room key u held way i e) (λ held cost. EntryGiven h p rows room key u held way i e cost) (BrokenIn way at slots)

  -- an entry in the bucket at an index, its key and the node of its value
  abbrev pub PassesBucketEntry : List ℕ → List ℕ → ℕ → List ℕ → Node → Moment → Result (Unit {0}) OpenFault → Moment → Type 0
  PassesBucketEntry way at i k item m r n =
      (slots : List TrieSlot) (es : List (List ℕ × Data)) (j : ℕ) (e : List ℕ × Data) → slice_get slots i ≡ Some (bucket es) → slice_get es j ≡ Some e → k ≡ e.0 → IsUtf8 e.0 → HasData item e.1
      → PassesEntry way at slots i e m r n

  -- the child of this id at an index
  abbrev pub PassesChild : List ℕ → ℕ → List ℕ → Moment → Result (Unit {0}) OpenFault → Moment → Type 0
  PassesChild way i id = Passes (λ held. SlotOwned h p rows room key u held way i (child id)) (λ held cost. SlotGiven h p rows room key u held way i (child id) cost) (BrokenAt way i id)
