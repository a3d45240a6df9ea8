-- A HAMT that a store holds, as its root is entered: the root node is that of the trie of its entries, all of which is held, and of each
-- key the trie has the data of the value that the map has (IPLD HashMap).
use Rattle.std.specs.Prelude.{◌≡◌, ℕ, true, List, Option, Some, None, is_some}
use Rattle.std.specs.FinMap.{find}
use Rattle.ild_hamt_climb.specs.Way.{IsRootOf}
use Rattle.ild_data.specs.ByteOrder.{bytewise, in_byte_order}
use Rattle.ild_data.specs.Data.{Data}
use Rattle.ild_data.specs.Key.{value_at}
use Rattle.ild_data.specs.Trie.{TrieSlot, trie}
use Rattle.ild_data.specs.TrieShape.{trie_levels}
use Rattle.ild_data.specs.declared.hamt_shape.HamtShape.{HamtShape}
use Rattle.ild_edges.specs.Store.{block_at}
use Rattle.ild_schema.specs.declared.def.MapForm.TheVariants as MF
use Rattle.ild_schema.specs.declared.def.TypeDef.TheVariants as D
use Rattle.ild_schema.specs.declared.number.Slot.{Slot}
use Rattle.ild_schema.specs.declared.number.TypeNo.{TypeNo}
use Rattle.ild_schema.specs.declared.row.Row.{Row}
use Rattle.ild_schema.specs.Slots.{form_of}
use Rattle.ild_schema.specs.Value.{Value, Pairs, map, pairs_list}
use Rattle.ild_typed.specs.At.{InSlot}
use Rattle.ild_typed.specs.Hamt.{whole}
use Rattle.ild_typed.specs.Represented.{represented_pairs}
use Rattle.ild_open_held.specs.Held.{IsHeld}
use Rattle.ild_bulk_walker.specs.Trees.{HoldsBelow}

-- data for a value of a slot that is held in them, or neither
abbrev pub DataOf : (held : List (List ℕ)) (h : List ℕ → List ℕ) (rows : List Row) (room : ℕ) (slot : Slot) → Option Data → Option Value → Type 0
DataOf held h rows room slot None None = Unit {0}
DataOf held h rows room slot (Some d) (Some v) = IsHeld (block_at held) h rows room slot d v
DataOf held h rows room slot None (Some v) = ⊥
DataOf held h rows room slot (Some d) None = ⊥

pub record IsEntered (held : List (List ℕ)) (h : List ℕ → List ℕ) (rows : List Row) (room : ℕ) (p : InSlot) (shape : HamtShape) (slots : List TrieSlot) : Type 0 where
  pub key : TypeNo
  pub key_at : ℕ
  pub value : Slot
  pub place : ℕ
  pub pairs : Pairs
  pub entries : List (List ℕ × Data)
  pub form : form_of rows p.0 ≡ Some (D.Map key key_at value place (MF.Hamt shape))
  pub is : p.1 ≡ map pairs
  pub there : represented_pairs (whole h) rows value pairs ≡ Some entries
  pub trie : is_some (trie h shape entries 0) ≡ true
  pub root : IsRootOf h shape (in_byte_order entries) slots
  pub holds : HoldsBelow h shape held (trie_levels shape) 0 (in_byte_order entries)
  pub each : (k : List ℕ) → DataOf held h rows room value (find bytewise k (in_byte_order entries)) (value_at k (pairs_list pairs))
