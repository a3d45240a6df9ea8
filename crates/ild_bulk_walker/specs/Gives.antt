-- The entries that the blocks of a HAMT give, in the order of its slots (IPLD HashMap, "HashMapNode" and "Element").
use Rattle.std.specs.Prelude.{◌≡◌, ℕ, zero, suc, ◌+◌, ◌<◌, List, [], ◌∷◌, ◌++◌, length, Some}
use Rattle.std.specs.List.{AllByRecursion}
use Rattle.ild_data.specs.Data.{Data}
use Rattle.ild_data.specs.Trie.{TrieSlot, empty, bucket, child, node_data, at_depth}
use Rattle.ild_data.specs.declared.hamt_shape.HamtShape.{HamtShape}
use Rattle.ild_cbor.specs.Block.{IsBlockOf}
use Rattle.ild_edges.specs.Store.{block_at}
use Rattle.ild_node_slots.specs.Form.{IsNode}

-- the block is the node of these slots
pub record IsNodeOf (p : HamtShape) (b : List ℕ) (slots : List TrieSlot) : Type 0 where
  pub is : IsBlockOf b (node_data slots)
  pub form : IsNode p slots

-- what a slot gives, where below tells what the tree under an id gives
abbrev pub SlotGives : (List ℕ → List (List ℕ × Data) → Type 0) → TrieSlot → List (List ℕ × Data) → Type 0
SlotGives below empty es = es ≡ []
SlotGives below (bucket fs) es = es ≡ fs
SlotGives below (child id) es = below id es

-- the keys have the index at a depth
abbrev pub AtIndex : (List ℕ → List ℕ) → HamtShape → ℕ → ℕ → List (List ℕ × Data) → Type 0
AtIndex h p depth i es = AllByRecursion (λ e. at_depth h p depth e.0 ≡ i) es

-- what the slots from an index on give: each the entries of its index
abbrev pub SlotsGive : (List ℕ → List ℕ) → HamtShape → ℕ → ℕ → (List ℕ → List (List ℕ × Data) → Type 0) → List TrieSlot → List (List ℕ × Data) → Type 0
SlotsGive h p depth i below [] es = es ≡ []
SlotsGive h p depth i below (s ∷ slots) es =
    (here : List (List ℕ × Data)) × (more : List (List ℕ × Data)) × (es ≡ here ++ more) × AtIndex h p depth i here × SlotGives below s here × SlotsGive h p depth (i + 1) below slots more

-- the block under an id is held, and its node gives the entries, which are more than a bucket takes
pub record NodeGives (h : List ℕ → List ℕ) (p : HamtShape) (held : List (List ℕ)) (depth : ℕ) (below : List ℕ → List (List ℕ × Data) → Type 0) (id : List ℕ) (es : List (List ℕ × Data)) : Type 0 where
  pub block : List ℕ
  pub slots : List TrieSlot
  pub here : block_at held id ≡ Some block
  pub node : IsNodeOf p block slots
  pub many : p.bucket < length es
  pub gives : SlotsGive h p depth 0 below slots es

-- the tree under an id gives the entries, where its node stands at a depth and so many levels are left
abbrev pub TreeGives : (List ℕ → List ℕ) → HamtShape → List (List ℕ) → ℕ → ℕ → List ℕ → List (List ℕ × Data) → Type 0
TreeGives h p held zero depth id es = ⊥
TreeGives h p held (suc left) depth id es = NodeGives h p held depth (TreeGives h p held left (depth + 1)) id es

-- the tree beneath a root of these slots gives the entries
abbrev pub RootGives : (List ℕ → List ℕ) → HamtShape → List (List ℕ) → ℕ → List TrieSlot → List (List ℕ × Data) → Type 0
RootGives h p held left slots es = SlotsGive h p 0 0 (TreeGives h p held left 1) slots es
