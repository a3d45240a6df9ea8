-- The blocks of a HAMT beneath its root node (IPLD HashMap, "Element": a link to a child node).
use Rattle.std.specs.Prelude.{ℕ, suc, zero, ◌+◌, ◌^◌, nat_le, Bool, true, false, List, [], ◌∷◌, ◌++◌, length, Option, Some, None}
use Rattle.std.specs.List.{flat_map, range_with_len}
use Rattle.ild_data.specs.Data.{Data}
use Rattle.ild_data.specs.Spell.{spell}
use Rattle.ild_data.specs.Trie.{part, node_of, at_depth}
use Rattle.ild_data.specs.declared.hamt_shape.HamtShape.{HamtShape}

abbrev pub block_of : Option Data → List (List ℕ)
block_of None = []
block_of (Some node) = spell node ∷ []

abbrev pub none_or : Bool → (List (List ℕ × Data) → List (List ℕ)) → List (List ℕ × Data) → List (List ℕ)
none_or true below es = []
none_or false below es = below es

-- entries that a bucket takes need no block; more have that of their node, and those beneath it
abbrev pub node_and_beneath : ℕ → (List (List ℕ × Data) → Option Data) → (List (List ℕ × Data) → List (List ℕ)) → List (List ℕ × Data) → List (List ℕ)
node_and_beneath most below beneath es = none_or (nat_le (length es) most) (λ fs. block_of (below fs) ++ beneath fs) es

-- the blocks of the nodes beneath a node of entries, where so many levels are left
unfoldable pub nodes_beneath : (List ℕ → List ℕ) → HamtShape → ℕ → ℕ → List (List ℕ × Data) → List (List ℕ)
nodes_beneath h p zero depth es = []
nodes_beneath h p (suc left) depth es = flat_map
    (λ i. node_and_beneath p.bucket (node_of h p left (depth + 1)) (nodes_beneath h p left (depth + 1)) (part (at_depth h p depth) es i))
    (range_with_len 0 (2 ^ p.width))
