-- A HAMT that is entered at a key over every store: where its root stands, and in which block the key's way ends.
use Rattle.std.specs.Prelude.{◌≡◌, ℕ, ◌+◌, ◌⊎◌, List, [], ◌∷◌, Option, Some, Result, Err}
use Rattle.ild_cbor.specs.Nodes.{block_of}
use Rattle.ild_cbor.specs.declared.piece.Piece.{Piece}
use Rattle.ild_cbor.specs.declared.piece.Piece.TheVariants as P
use Rattle.ild_cbor.specs.declared.why.BlockWhy.{BlockWhy}
use Rattle.ild_data.specs.Data.{Data}
use Rattle.ild_data.specs.Spell.{id_of}
use Rattle.ild_edges.specs.Store.{Moment}
use Rattle.ild_bulk_walker.specs.Standing.{IsWrongOnTree}
use Rattle.ild_node_slots.specs.declared.fault.HamtFault.{HamtFault}
use Rattle.ild_node_slots.specs.declared.fault.HamtFault.TheVariants as F
use Rattle.ild_open_parts.specs.Broken.{HasBrokenBlock, IsWrongEntry}
use Rattle.ild_open_parts.specs.Sites.{IsSite, Site}
use Rattle.ild_schema.specs.Value.{hamt}
use Rattle.ild_schema.specs.declared.number.Slot.{Slot}
use Rattle.ild_schema.specs.declared.row.Row.{Row}
use Rattle.ild_view.specs.View.{IsView, slot_of, table_of}
use Rattle.ild_view.specs.declared.view.View.{View}

-- the block in which a piece stands, where it is one of an item
abbrev pub block_in : Option Piece → List ℕ
block_in (Some (P.Node n)) = block_of n
block_in (Some (P.Inline n u)) = block_of n
block_in p = []

-- the block of the last node on a way that begins in the first one
abbrev pub end_block : List ℕ → List (List ℕ) → List ℕ
end_block b [] = b
end_block b (c ∷ bs) = end_block c bs

-- the view is that of the HAMT's root, which stands in this block; its values have the slot, and this room
pub record IsSiteOf (rows : List Row) (slot : Slot) (room : ℕ) (view : View) (block : List ℕ) (z : Site) : Type 0 where
  pub table : table_of view ≡ rows
  pub tree : Data
  pub stands : IsView view (hamt tree)
  pub site : IsSite rows (room + 5) (slot_of view) tree z
  pub value_is : z.value ≡ slot
  pub block_is : z.block ≡ id_of block

-- The block of this id, which is on the HAMT's tree, is refused for its cause: it lacks, it is no block of DAG-CBOR, or no node of a
-- trie at its place; or an entry in one of its buckets is refused.
abbrev pub IsRefusedAt : (List ℕ → List ℕ) → List Row → Option (List (List ℕ)) → ℕ → ℕ → Site → List ℕ → BlockWhy → Type 0
IsRefusedAt h rows told before now z id why = IsWrongOnTree h z.shape told z.slots z.block before now id why ⊎ IsWrongEntry rows told z id why

-- Of data of a slot, which stand in the block `at`: a block is refused only where that block is broken, or one of those that hang on it.
abbrev pub RefusesBroken : {A : Type 0} → (List ℕ → List ℕ) → List Row → List ℕ → ℕ → Slot → Data → Moment → Result A HamtFault → Moment → Type 0
RefusesBroken h rows at room s t m (Err (F.Block id why)) n = HasBrokenBlock h rows m.blocks m.lacks n.lacks at room s t id.0 why
RefusesBroken h rows at room s t m r n = Unit {0}
