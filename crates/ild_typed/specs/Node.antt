-- The root map of a HAMT as one block shows it (IPLD HashMap, "HashMapRoot" and "HashMapNode"): a slot for each index.
use Rattle.std.specs.Prelude.{◌≡◌, ℕ, ◌≤◌, ◌^◌, IsUtf8, List, length}
use Rattle.std.specs.List.{AllByRecursion, flat_map}
use Rattle.ild_data.specs.Data.{Data}
use Rattle.ild_data.specs.Bytes.{AreBytes}
use Rattle.ild_data.specs.declared.hamt_shape.HamtShape.{HamtShape}
use Rattle.ild_data.specs.ByteOrder.{IsInOrder}
use Rattle.ild_data.specs.Trie.{TrieSlot, empty, bucket, child, bucket_entries, node_data}
use Rattle.ild_typed.specs.Hamt.{root_map}

-- a bucket holds entries in bytewise order, at least one and no more than the shape says; a child is a block's id
abbrev pub IsSlot : HamtShape → TrieSlot → Type 0
IsSlot p empty = Unit {0}
IsSlot p (bucket es) = IsInOrder es × (1 ≤ length es) × (length es ≤ p.bucket) × AllByRecursion (λ e. IsUtf8 e.0) es
IsSlot p (child id) = (length id ≡ 32) × AreBytes id

pub record IsRoot (p : HamtShape) (slots : List TrieSlot) (d : Data) : Type 0 where
  pub indices : length slots ≡ 2 ^ p.width
  pub each : AllByRecursion (IsSlot p) slots
  pub tree : d ≡ root_map p (node_data slots)

-- the entries in the block
abbrev pub entries_in : List TrieSlot → List (List ℕ × Data)
entries_in slots = flat_map bucket_entries slots
