-- How a HAMT stands in a block (IPLD HashMap, "HashMapRoot"): the root map with the root node inside.
use Rattle.std.specs.Prelude.{ℕ, pos, codes, List, [], ◌∷◌, Option, Some, None, option_map, option_and_then}
use Rattle.ild_data.specs.Data as T
use Rattle.ild_data.specs.Data.{Data}
use Rattle.ild_data.specs.declared.hamt_shape.HamtShape.{HamtShape}
use Rattle.ild_data.specs.Trie.{trie}
use Rattle.ild_typed.specs.Layer.{as_map, as_hamt}
use Rattle.ild_typed.specs.Strings.{map_data}
use Rattle.ild_typed.specs.Composed.{Hamts}

-- the root map over a root node
abbrev pub root_map : HamtShape → Data → Data
root_map p node =
    map_data ((codes "hamt", node) ∷ (codes "hashAlg", T.integer (pos 18)) ∷ (codes "bucketSize", T.integer (pos p.bucket)) ∷ [])

-- of a whole value: the trie of all entries
abbrev pub whole : (List ℕ → List ℕ) → Hamts
whole h p l = option_map (root_map p) (option_and_then (λ es. trie h p es 0) (as_map l))

abbrev pub a_map : Data → Option Data
a_map (T.map ms) = Some (T.map ms)
a_map d = None

-- of a front: the root map itself
abbrev pub alone : Hamts
alone p l = option_and_then a_map (as_hamt l)
