-- The root of a HAMT in a store and the walk of it: the rows that a walk lists are the entries that the root splits into (IPLD HashMap).
use Rattle.std.specs.Prelude.{◌≡◌, ℕ, ◌-◌, List, length, map}
use Rattle.std.specs.List.{AllByRecursion}
use Rattle.ild_data.specs.Data.{Data}
use Rattle.ild_data.specs.Tree.{IsTree}
use Rattle.ild_data.specs.Trie.{TrieSlot}
use Rattle.ild_data.specs.TrieShape.{trie_levels}
use Rattle.ild_data.specs.declared.hamt_shape.HamtShape.{HamtShape}
use Rattle.ild_edges.specs.Store.{block_at}
use Rattle.ild_node_slots.specs.Form.{AreTexts}
use Rattle.ild_typed.specs.Node.{IsRoot}
use Rattle.ild_open_held.specs.Entries.{IsRootOf, beneath}
use Rattle.ild_bulk_walker.specs.Checked.{GivesRows, row_pair, spelled_pair}
use Rattle.ild_bulk_walker.specs.Gives.{RootGives}
use Rattle.ild_bulk_walker.specs.Reads.{NodesBeneath}
use Rattle.ild_bulk_walker.specs.declared.row.Row.{Row}

-- the rows are entries that the root splits into, in their order
pub record AreRows (h : List ℕ → List ℕ) (p : HamtShape) (held : List (List ℕ)) (t : Data) (rows : List Row) : Type 0 where
  pub entries : List (List ℕ × Data)
  pub root : IsRootOf (block_at held) h p t entries
  pub made : map spelled_pair entries ≡ map row_pair rows
  pub trees : AllByRecursion (λ e. IsTree e.1) entries

-- what a walk lists is such
abbrev pub RowsAreEntries : Type 0
RowsAreEntries =
    (h : List ℕ → List ℕ) (p : HamtShape) (held : List (List ℕ)) (t : Data) (slots : List TrieSlot) (rows : List Row)
    → IsRoot p slots t → IsTree t → GivesRows h p held slots rows → AreRows h p held t rows

-- the blocks beneath the root give entries, and are as many as those of the nodes beneath the root of these
pub record AreGiven (h : List ℕ → List ℕ) (p : HamtShape) (held : List (List ℕ)) (slots : List TrieSlot) (fs : List (List ℕ × Data)) : Type 0 where
  pub entries : List (List ℕ × Data)
  pub gives : RootGives h p held (trie_levels p - 1) slots entries
  pub nodes : NodesBeneath p held slots (length (beneath h p fs))

-- of a root that splits into entries the blocks give them
abbrev pub EntriesAreGiven : Type 0
EntriesAreGiven =
    (h : List ℕ → List ℕ) (p : HamtShape) (held : List (List ℕ)) (t : Data) (slots : List TrieSlot) (fs : List (List ℕ × Data))
    → IsRoot p slots t → AreTexts fs → IsRootOf (block_at held) h p t fs → AreGiven h p held slots fs
