-- What the root of a HAMT splits into: its entries, with the blocks of the nodes beneath it (IPLD HashMap).
use Rattle.std.specs.Prelude.{◌≡◌, ℕ, ◌+◌, ◌≤◌, IsUtf8, List, length, false, Option, Some}
use Rattle.std.specs.List.{AllByRecursion}
use Rattle.ild_data.specs.ByteOrder.{in_byte_order}
use Rattle.ild_data.specs.Data.{Data, text}
use Rattle.ild_data.specs.Key.{Rises}
use Rattle.ild_data.specs.Limits.{deepest}
use Rattle.ild_data.specs.TrieBlocks.{nodes_beneath}
use Rattle.ild_data.specs.TrieShape.{trie_levels}
use Rattle.ild_data.specs.declared.hamt_shape.HamtShape.{HamtShape}
use Rattle.ild_schema.specs.declared.def.MapForm.TheVariants as MF
use Rattle.ild_schema.specs.declared.def.TypeDef.TheVariants as D
use Rattle.ild_schema.specs.declared.number.Slot.{Slot}
use Rattle.ild_schema.specs.declared.number.TypeNo.{TypeNo}
use Rattle.ild_schema.specs.declared.row.Row.{Row}
use Rattle.ild_schema.specs.Slots.{form_of, plainly}
use Rattle.ild_schema.specs.Value.{Value, map, pairs_of}
use Rattle.ild_typed.specs.Blocks.{nodes}
use Rattle.ild_typed.specs.Fits.{Fits}
use Rattle.ild_typed.specs.Hamt.{whole}
use Rattle.ild_typed.specs.Known.{HeldNode, Kept}
use Rattle.ild_typed.specs.Layer as L
use Rattle.ild_typed.specs.Layers.{RepresentsSome}
use Rattle.ild_typed.specs.Pieces.{is_null_there}
use Rattle.ild_typed.specs.Schema.{IsSchema}
use Rattle.ild_open_held.specs.Held.{IsHeld, IsHeldBlock}
use Rattle.ild_open_held.specs.Splits.{PartsHaveValues, entry_parts, entry_values, nodes_in}

-- the key is a text of its type, in the room
abbrev pub KeyFits : List Row → ℕ → TypeNo → List ℕ × Data → Type 0
KeyFits rows room key e = IsUtf8 e.0 × RepresentsSome (Fits rows room) rows (plainly key) (text e.0)

-- the blocks of the nodes beneath the root
abbrev pub beneath : (List ℕ → List ℕ) → HamtShape → List (List ℕ × Data) → List (List ℕ)
beneath h p fs = nodes_beneath h p (trie_levels p) 0 (in_byte_order fs)

-- these entries, in the order of keys, are those of the root of this shape, and the nodes beneath it are held
pub record IsRootOf (block : List ℕ → Option (List ℕ)) (h : List ℕ → List ℕ) (p : HamtShape) (t : Data) (fs : List (List ℕ × Data)) : Type 0 where
  pub kept : Kept h (HeldNode block) p fs
  pub made : whole h p (L.map fs) ≡ Some t
  pub below : AllByRecursion (IsHeldBlock block) (beneath h p fs)

-- a value is the map of them
pub record IsMapOf (block : List ℕ → Option (List ℕ)) (h : List ℕ → List ℕ) (p : HamtShape) (rows : List Row)
    (less : ℕ) (s : Slot) (key : TypeNo) (value : Slot) (fs : List (List ℕ × Data)) (v : Value) : Type 0 where
  pub keys : AllByRecursion (KeyFits rows less key) fs
  pub values : List Value
  pub held : PartsHaveValues block h rows less (entry_parts value fs) values
  pub made : v ≡ map (pairs_of (entry_values fs values))
  pub many : length (nodes h rows s v) ≡ length (beneath h p fs) + nodes_in h rows (entry_parts value fs) values

pub record HamtSplits (block : List ℕ → Option (List ℕ)) (h : List ℕ → List ℕ) (p : HamtShape) (rows : List Row) (room less : ℕ) (s : Slot) (t : Data) (key : TypeNo) (value : Slot) : Type 0 where
  pub up : (fs : List (List ℕ × Data)) (vs : List Value) → IsRootOf block h p t fs → AllByRecursion (KeyFits rows less key) fs → PartsHaveValues block h rows less (entry_parts value fs) vs
      → IsHeld block h rows room s t (map (pairs_of (entry_values fs vs)))
  pub entries : (v : Value) → IsHeld block h rows room s t v → (fs : List (List ℕ × Data)) × IsRootOf block h p t fs
  pub back : (fs : List (List ℕ × Data)) (v : Value) → IsRootOf block h p t fs → IsHeld block h rows room s t v → IsMapOf block h p rows less s key value fs v

abbrev pub HamtsSplit : Type 0
HamtsSplit =
    (block : List ℕ → Option (List ℕ)) (h : List ℕ → List ℕ) (rows : List Row) → IsSchema rows → (room less : ℕ) → room ≤ deepest → (s : Slot) (t : Data) → is_null_there s t ≡ false
    → (p : HamtShape) (key : TypeNo) (key_at : ℕ) (value : Slot) (at : ℕ)
    → form_of rows s ≡ Some (D.Map key key_at value at (MF.Hamt p)) → room ≡ less + 5 → HamtSplits block h p rows room less s t key value
