-- The nodes on a key's way that a store holds.
use Rattle.std.specs.Prelude.{◌≡◌, ◌<◌, ℕ, zero, suc, ◌+◌, List, length, Some}
use Rattle.ild_data.specs.Data.{Data}
use Rattle.ild_data.specs.Trie.{part, node_of, at_depth}
use Rattle.ild_data.specs.declared.hamt_shape.HamtShape.{HamtShape}
use Rattle.ild_bulk_walker.specs.Trees.{IsHeldNode}

-- each node beneath the node of these entries on the key's way is held
abbrev pub HoldsWay : (List ℕ → List ℕ) → HamtShape → List ℕ → List (List ℕ) → ℕ → ℕ → List (List ℕ × Data) → Type 0
HoldsWay h p k held zero depth es = Unit {0}
HoldsWay h p k held (suc left) depth es =
    (node : Data) → p.bucket < length (part (at_depth h p depth) es (at_depth h p depth k)) → node_of h p left (depth + 1) (part (at_depth h p depth) es (at_depth h p depth k)) ≡ Some node
    → IsHeldNode p held node × HoldsWay h p k held left (depth + 1) (part (at_depth h p depth) es (at_depth h p depth k))
