-- A node that is written slot by slot.
use Rattle.std.specs.Prelude.{◌≡◌, ◌≤◌, ◌*◌, ◌^◌, ℕ, Bool, List, length, map, take, drop}
use Rattle.std.specs.List.{AllByRecursion, flat_map, range_with_len}
use Rattle.ild_data.specs.Data.{Data}
use Rattle.ild_data.specs.declared.hamt_shape.HamtShape.{HamtShape}
use Rattle.ild_data.specs.Trie.{TrieSlot, byte_of, is_used, elements_of}
use Rattle.ild_node.specs.Rows.{AreRows}
use Rattle.ild_node.specs.Written.{IsSound, spelled}
use Rattle.ild_node.specs.declared.draft.Draft.{Draft}

-- the bytes of the map of the widest node, of 256 slots, that begins with these bits, and has no other that is set
unfoldable pub map_so_far : List Bool → List ℕ
map_so_far bits = map (λ j. byte_of (take 8 (drop (8 * j) bits))) (range_with_len 0 32)

-- the slots of a node of this shape written so far, from the first index on
pub record HasWritten (p : HamtShape) (d : Draft) (slots : List TrieSlot) : Type 0 where
  pub shape : d.shape ≡ p
  pub within : length slots ≤ 2 ^ p.width
  pub bits : d.map ≡ map_so_far (map is_used slots)
  pub count : d.count ≡ length (flat_map elements_of slots)
  pub few : d.count ≤ length slots
  pub elements : d.elements ≡ spelled (flat_map elements_of slots)
  pub sound : AllByRecursion (IsSound p) slots

-- entries that a bucket takes
pub record FillBucket (p : HamtShape) (es : List (List ℕ × Data)) : Type 0 where
  pub rows_are : AreRows es
  pub some : 1 ≤ length es
  pub few : length es ≤ p.bucket
