-- A HAMT in a store: the entries of its trie, in the bytewise order of their keys, and the nodes that are held (IPLD HashMap).
use Rattle.std.specs.Prelude.{◌≡◌, ℕ, List, Option, Some, None}
use Rattle.std.specs.FinMap.{find}
use Rattle.ild_data.specs.ByteOrder.{bytewise, in_byte_order}
use Rattle.ild_data.specs.Data.{Data}
use Rattle.ild_data.specs.Key.{Rises, value_at}
use Rattle.ild_data.specs.Trie.{node_of}
use Rattle.ild_data.specs.TrieShape.{trie_levels}
use Rattle.ild_data.specs.declared.hamt_shape.HamtShape.{HamtShape}
use Rattle.ild_schema.specs.declared.number.Slot.{Slot}
use Rattle.ild_schema.specs.declared.row.Row.{Row}
use Rattle.ild_schema.specs.Value.{Value, Pairs, pairs_list}
use Rattle.ild_node_slots.specs.Form.{AreTexts}
use Rattle.ild_typed.specs.Hamt.{root_map, whole}
use Rattle.ild_typed.specs.Represented.{represented, represented_pairs}
use Rattle.ild_bulk_walker.specs.Trees.{HoldsBelow}

-- the data at a key represent the value there, or there is neither
abbrev pub IsValueOf : (List ℕ → List ℕ) → List Row → Slot → Option Value → Option Data → Type 0
IsValueOf h rows elem None None = Unit {0}
IsValueOf h rows elem (Some w) (Some d) = represented (whole h) rows elem w ≡ Some d
IsValueOf h rows elem None (Some d) = ⊥
IsValueOf h rows elem (Some w) None = ⊥

-- the map of these pairs is the HAMT of this shape and these entries with this root, all of whose nodes are held
pub record IsTrieIn (h : List ℕ → List ℕ) (p : HamtShape) (rows : List Row) (held : List (List ℕ)) (elem : Slot) (ps : Pairs) (t : Data) (es : List (List ℕ × Data)) : Type 0 where
  pub pairs : List (List ℕ × Data)
  pub represents : represented_pairs (whole h) rows elem ps ≡ Some pairs
  pub rises : Rises pairs
  pub order : es ≡ in_byte_order pairs
  pub texts : AreTexts es
  pub node : Data
  pub is_node : node_of h p (trie_levels p) 0 es ≡ Some node
  pub root : t ≡ root_map p node
  pub holds : HoldsBelow h p held (trie_levels p) 0 es
  pub found : (k : List ℕ) → IsValueOf h rows elem (value_at k (pairs_list ps)) (find bytewise k es)
