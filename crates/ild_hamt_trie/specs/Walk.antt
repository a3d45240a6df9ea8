-- The entries of a HAMT in the order in which a walk of its nodes meets them: by index, and bytewise inside a bucket.
use Rattle.std.specs.Prelude.{ℕ, suc, zero, ◌+◌, ◌^◌, nat_le, Bool, true, false, List, length}
use Rattle.std.specs.List.{flat_map, range_with_len}
use Rattle.ild_data.specs.Data.{Data}
use Rattle.ild_data.specs.Trie.{part, at_depth}
use Rattle.ild_data.specs.declared.hamt_shape.HamtShape.{HamtShape}

abbrev pub part_or : Bool → (List (List ℕ × Data) → List (List ℕ × Data)) → List (List ℕ × Data) → List (List ℕ × Data)
part_or true below es = es
part_or false below es = below es

unfoldable pub in_trie_order : (List ℕ → List ℕ) → HamtShape → ℕ → ℕ → List (List ℕ × Data) → List (List ℕ × Data)
in_trie_order h p zero depth es = es
in_trie_order h p (suc left) depth es = flat_map
    (λ i. part_or (nat_le (length (part (at_depth h p depth) es i)) p.bucket) (in_trie_order h p left (depth + 1)) (part (at_depth h p depth) es i))
    (range_with_len 0 (2 ^ p.width))
