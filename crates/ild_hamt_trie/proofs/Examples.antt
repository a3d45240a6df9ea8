-- Small tries, as bytes: keys that are their own hashes, and keys whose hash begins as it says.
use Rattle.std.proofs.Common.{◌≡◌, ℕ, List, [], ◌∷◌, ◌++◌, refl, None, replicate, arith}
use Rattle.std.specs.Prelude.{pos}
use Rattle.ild_data.specs.Data.{Data, integer}
use Rattle.ild_data.specs.Padded.{padded}
use Rattle.ild_data.specs.declared.hamt_shape.HamtShape.{HamtShape}
use Rattle.ild_data.specs.TrieShape.{index}
use Rattle.ild_data.specs.ByteOrder.{in_byte_order}
use Rattle.ild_data.specs.Trie.{trie, node_of}
use Rattle.ild_data.specs.TrieBlocks.{nodes_beneath, block_of}

abbrev w8 : HamtShape
w8 = record { width = 8; bucket = 3; wide = omega arith; narrow = omega arith; filled = omega arith; small = omega arith }

abbrev w3 : HamtShape
w3 = record { width = 3; bucket = 1; wide = omega arith; narrow = omega arith; filled = omega arith; small = omega arith }

first_bits : index w3 (0xba ∷ []) 0 ≡ 5
first_bits = refl

small_shape : block_of (trie (λ k. 0xba ∷ []) w3 ((0x61 ∷ 0x62 ∷ 0x63 ∷ [], integer (pos 1)) ∷ []) 0)
    ≡ (0x82 ∷ 0x41 ∷ 0x20 ∷ 0x81 ∷ 0x81 ∷ 0x82 ∷ 0x43 ∷ 0x61 ∷ 0x62 ∷ 0x63 ∷ 0x01 ∷ []) ∷ []
unfolding trie node_of
small_shape = refl

-- the empty node
empty_node : block_of (trie padded w8 [] 0) ≡ (0x82 ∷ 0x58 ∷ 0x20 ∷ (replicate 32 0 ++ 0x80 ∷ [])) ∷ []
unfolding trie node_of
empty_node = refl

-- one entry, whose hash begins with ba: index 186, bit 2 of byte 23
one_entry : block_of (trie (λ k. 0xba ∷ []) w8 ((0x61 ∷ 0x62 ∷ 0x63 ∷ [], integer (pos 1)) ∷ []) 0)
    ≡ (0x82 ∷ 0x58 ∷ 0x20 ∷ (replicate 23 0 ++ 0x04 ∷ (replicate 8 0 ++ (0x81 ∷ 0x81 ∷ 0x82 ∷ 0x43 ∷ 0x61 ∷ 0x62 ∷ 0x63 ∷ 0x01 ∷ [])))) ∷ []
unfolding trie node_of
one_entry = refl

abbrev four : List (List ℕ × Data)
four = (0 ∷ 4 ∷ [], integer (pos 4)) ∷ (0 ∷ 1 ∷ [], integer (pos 1)) ∷ (0 ∷ 3 ∷ [], integer (pos 3)) ∷ (0 ∷ 2 ∷ [], integer (pos 2)) ∷ []

abbrev three : List (List ℕ × Data)
three = (0 ∷ 1 ∷ [], integer (pos 1)) ∷ (0 ∷ 3 ∷ [], integer (pos 3)) ∷ (0 ∷ 2 ∷ [], integer (pos 2)) ∷ []

-- four entries that agree in their first byte stand in a node beneath
node_beneath : nodes_beneath padded w8 32 0 (in_byte_order four)
    ≡ (0x82 ∷ 0x58 ∷ 0x20 ∷ 0x1e ∷ (replicate 31 0 ++ (0x84 ∷ 0x81 ∷ 0x82 ∷ 0x42 ∷ 0 ∷ 1 ∷ 1 ∷ 0x81 ∷ 0x82 ∷ 0x42 ∷ 0 ∷ 2 ∷ 2 ∷ 0x81 ∷ 0x82 ∷ 0x42 ∷ 0 ∷ 3 ∷ 3 ∷ 0x81 ∷ 0x82 ∷ 0x42 ∷ 0 ∷ 4 ∷ 4 ∷ []))) ∷ []
unfolding nodes_beneath node_of
node_beneath = refl

three_entries : block_of (trie padded w8 three 0)
    ≡ (0x82 ∷ 0x58 ∷ 0x20 ∷ 0x01 ∷ (replicate 31 0 ++ (0x81 ∷ 0x83 ∷ 0x82 ∷ 0x42 ∷ 0 ∷ 1 ∷ 1 ∷ 0x82 ∷ 0x42 ∷ 0 ∷ 2 ∷ 2 ∷ 0x82 ∷ 0x42 ∷ 0 ∷ 3 ∷ 3 ∷ []))) ∷ []
unfolding trie node_of
three_entries = refl

-- four keys whose hashes agree at each level
abbrev letters : ℕ → List ℕ × Data
letters n = (replicate 32 107 ++ n ∷ [], integer (pos 0))

never_apart : trie padded w8 (letters 49 ∷ letters 50 ∷ letters 51 ∷ letters 52 ∷ []) 0 ≡ None
unfolding trie node_of
never_apart = refl
