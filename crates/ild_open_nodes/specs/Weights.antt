-- How many entries stand in a node and beneath it, where more than a bucket takes stand beneath each child (IPLD HashMap, "Canonical form":
-- a child whose entries a bucket takes is folded into one).
use Rattle.std.specs.Prelude.{ℕ, ◌+◌, List, [], ◌∷◌, length}
use Rattle.ild_data.specs.Trie.{TrieSlot, empty, bucket, child}
use Rattle.ild_data.specs.declared.hamt_shape.HamtShape.{HamtShape}

-- those in a slot, and of a child as many as it has at least
abbrev pub weight : HamtShape → TrieSlot → ℕ
weight p empty = 0
weight p (bucket es) = length es
weight p (child id) = p.bucket + 1

abbrev pub weights : HamtShape → List TrieSlot → ℕ
weights p [] = 0
weights p (s ∷ slots) = weight p s + weights p slots
