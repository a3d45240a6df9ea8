-- What setting a pair gives and leaves.
use Rattle.std.specs.Prelude.{ℕ, Bool, is_some, List, Result}
use Rattle.std.specs.FinMap.{put}
use Rattle.ild_data.specs.Data.{Data}
use Rattle.ild_data.specs.Trie.{node_of}
use Rattle.ild_data.specs.TrieShape.{trie_levels}
use Rattle.ild_data.specs.declared.hamt_shape.HamtShape.{HamtShape}
use Rattle.ild_data.specs.ByteOrder.{bytewise}
use Rattle.ild_edges.specs.Store.{Moment}
use Rattle.ild_node_slots.specs.declared.fault.HamtFault.{HamtFault}
use Rattle.ild_hamt_climb.specs.Rewriting.{Rewrites}

-- whether these entries have a trie: not too many of their keys agree in all bits of their hashes
abbrev pub has_trie : (List ℕ → List ℕ) → HamtShape → List (List ℕ × Data) → Bool
has_trie h p es = is_some (node_of h p (trie_levels p) 0 es)

-- the root of the trie with the pair, and the nodes on the key's way in it put; or why not
abbrev pub Sets : (List ℕ → List ℕ) → HamtShape → List ℕ → Data → List (List ℕ × Data) → Moment → Result (List ℕ) HamtFault → Moment → Type 0
Sets h p k v es m result n = Rewrites h p k (put bytewise k v es) m result n
