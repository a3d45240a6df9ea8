-- What stands in a node of a HAMT and beneath it: entries that fit there and whose values are held (IPLD HashMap; IPLD Schemas, "Advanced
-- Data Layouts").
use Rattle.std.specs.Prelude.{◌≡◌, ℕ, suc, ◌+◌, ◌-◌, ◌≤◌, true, List, length}
use Rattle.std.specs.List.{AllByRecursion}
use Rattle.ild_data.specs.Data.{Data}
use Rattle.ild_data.specs.Trie.{TrieSlot}
use Rattle.ild_data.specs.TrieShape.{trie_levels}
use Rattle.ild_data.specs.declared.hamt_shape.HamtShape.{HamtShape}
use Rattle.ild_edges.specs.Store.{block_at}
use Rattle.ild_schema.specs.Clear.{IsSafe}
use Rattle.ild_schema.specs.Value.{Value}
use Rattle.ild_schema.specs.declared.number.Slot.{Slot}
use Rattle.ild_schema.specs.declared.number.TypeNo.{TypeNo}
use Rattle.ild_schema.specs.declared.row.Row.{Row}
use Rattle.ild_typed.specs.Blocks.{nodes}
use Rattle.ild_bulk_walker.specs.Gives.{SlotGives, TreeGives}
use Rattle.ild_bulk_walker.specs.Reads.{SlotNodes, TreeNodes}
use Rattle.ild_bulk_walker.specs.Todo.{fits}
use Rattle.ild_open_held.specs.Entries.{KeyFits}
use Rattle.ild_open_held.specs.Held.{IsHeld}
use Rattle.ild_open_nodes.specs.Sums.{SumsTo}

-- `way` is the way of indices from the root of a HAMT to the node in which something stands, and `i` its index there
module _ (h : List ℕ → List ℕ) (p : HamtShape) (rows : List Row) (room : ℕ) (key : TypeNo) (u : Slot) (held : List (List ℕ)) (way : List ℕ) (i : ℕ) where
  -- the key of an entry belongs there, and fits its type, and a value of it is held
  pub record EntryOwned (e : List ℕ × Data) : Type 0 where
    pub place : fits h p way i e.0 ≡ true
    pub keyed : KeyFits rows room key e
    pub value : Value
    pub is : IsHeld (block_at held) h rows room u e.1 value

  -- so it is, and so many nodes at most have the HAMTs in the value
  pub record EntryGiven (e : List ℕ × Data) (cost : ℕ) : Type 0 where
    pub safe : IsSafe rows u
    pub place : fits h p way i e.0 ≡ true
    pub keyed : KeyFits rows room key e
    pub value : Value
    pub is : IsHeld (block_at held) h rows room u e.1 value
    pub sum : length (nodes h rows u value) ≤ cost

  -- the entries in a slot and beneath it are such ones
  pub record SlotOwned (s : TrieSlot) : Type 0 where
    pub entries : List (List ℕ × Data)
    pub gives : SlotGives (TreeGives h p held (trie_levels p - suc (length way)) (suc (length way))) s entries
    pub each : AllByRecursion EntryOwned entries

  -- and so many nodes at most are beneath it and have the HAMTs in their values
  pub record SlotGiven (s : TrieSlot) (cost : ℕ) : Type 0 where
    pub entries : List (List ℕ × Data)
    pub gives : SlotGives (TreeGives h p held (trie_levels p - suc (length way)) (suc (length way))) s entries
    pub spent : ℕ
    pub each : SumsTo (λ j e. EntryGiven e) 0 entries spent
    pub beneath : ℕ
    pub nodes : SlotNodes (TreeNodes p held (trie_levels p - suc (length way))) s beneath
    pub sum : beneath + spent ≤ cost
