-- The laws of tries.
use Rattle.std.specs.Prelude.{◌≡◌, ℕ, suc, ◌+◌, ◌<◌, true, nat_le, List, length, Some, option_map, is_some, slice_set}
use Rattle.std.specs.Cmp.{IsTotalOrder}
use Rattle.std.specs.declared.cmp.Ordering.{Ordering}
use Rattle.std.specs.List.{list_any}
use Rattle.std.specs.FinMap.{find, put, IsAntisymmetric}
use Rattle.ild_data.specs.Data.{Data}
use Rattle.ild_data.specs.declared.hamt_shape.HamtShape.{HamtShape}
use Rattle.ild_data.specs.ByteOrder.{bytewise, in_byte_order, no_key_twice, IsInOrder, without}
use Rattle.ild_data.specs.Trie.{part, TrieSlot, is_child, slot_of, node_of, at_depth, slots_at, trie}
use Rattle.ild_hamt_trie.specs.Collapse.{folded}
use Rattle.ild_hamt_trie.specs.Way.{along}

-- lists of the same pairs have the same trie
abbrev pub SamePairsSameTrie : Type 0
SamePairsSameTrie =
    (h : List ℕ → List ℕ) (p : HamtShape) (es fs : List (List ℕ × Data)) (depth : ℕ)
    → no_key_twice es ≡ true → no_key_twice fs ≡ true → ((q : List ℕ) → find bytewise q es ≡ find bytewise q fs)
    → trie h p es depth ≡ trie h p fs depth

-- a set changes the slot at the key's index alone: it is the slot of the part with the pair
abbrev pub SetChangesOneSlot : Type 0
SetChangesOneSlot =
    (h : List ℕ → List ℕ) (p : HamtShape) (left depth : ℕ) (es : List (List ℕ × Data)) (k : List ℕ) (v : Data) (slots : List TrieSlot)
    → IsInOrder es → slots_at h p left depth es ≡ Some slots
    → let i = at_depth h p depth k in
    slots_at h p left depth (put bytewise k v es)
    ≡ option_map (λ s. slice_set slots i s) (slot_of p.bucket (node_of h p left (depth + 1)) (put bytewise k v (part (at_depth h p depth) es i)))

-- a removal too: it is the slot of the part without the key
abbrev pub RemoveChangesOneSlot : Type 0
RemoveChangesOneSlot =
    (h : List ℕ → List ℕ) (p : HamtShape) (left depth : ℕ) (es : List (List ℕ × Data)) (k : List ℕ) (slots : List TrieSlot)
    → IsInOrder es → slots_at h p left depth es ≡ Some slots
    → let i = at_depth h p depth k in
    slots_at h p left depth (without k es)
    ≡ option_map (λ s. slice_set slots i s) (slot_of p.bucket (node_of h p left (depth + 1)) (without k (part (at_depth h p depth) es i)))

-- a node's own slots tell the slot in the node above: a bucket of all that it holds, where that is little, and else the link to it
abbrev pub NodeTellsCollapse : Type 0
NodeTellsCollapse =
    (h : List ℕ → List ℕ) (p : HamtShape) (left depth : ℕ) (es : List (List ℕ × Data)) (slots : List TrieSlot)
    → IsInOrder es → slots_at h p left depth es ≡ Some slots → slot_of p.bucket (node_of h p (suc left) depth) es ≡ Some (folded p.bucket slots)

-- a node with a child link has more entries beneath it than a bucket takes
abbrev pub ChildMeansMany : Type 0
ChildMeansMany =
    (h : List ℕ → List ℕ) (p : HamtShape) (left depth : ℕ) (es : List (List ℕ × Data)) (slots : List TrieSlot)
    → slots_at h p left depth es ≡ Some slots → list_any is_child slots ≡ true → p.bucket < length es

-- a set exhausts the levels exactly where more entries than a bucket takes agree with the key at each
abbrev pub WhenSetExhausts : Type 0
WhenSetExhausts =
    (h : List ℕ → List ℕ) (p : HamtShape) (left depth : ℕ) (es : List (List ℕ × Data)) (k : List ℕ) (v : Data)
    → IsInOrder es → is_some (node_of h p (suc left) depth es) ≡ true
    → is_some (node_of h p (suc left) depth (put bytewise k v es)) ≡ nat_le (length (put bytewise k v (along h p k (suc left) depth es))) p.bucket

-- in any order of the keys
abbrev pub SetInAnyOrder : Type 0
SetInAnyOrder =
    (order : List ℕ → List ℕ → Ordering) → IsTotalOrder order → IsAntisymmetric order
    → (k : List ℕ) (v : Data) (es : List (List ℕ × Data)) → in_byte_order (put order k v es) ≡ put bytewise k v (in_byte_order es)
