-- The laws of values in stores: one stands under an id, and each that no cause of a refusal is found in can be held.
use Rattle.std.specs.Prelude.{◌≡◌, ℕ, ◌≤◌, true, false, List, length, Option, Some}
use Rattle.std.specs.List.{AllByRecursion}
use Rattle.ild_data.specs.Data.{Data}
use Rattle.ild_data.specs.Limits.{longest_block}
use Rattle.ild_schema.specs.declared.number.Slot.{Slot}
use Rattle.ild_schema.specs.declared.number.TypeNo.{TypeNo}
use Rattle.ild_schema.specs.declared.row.Row.{Row}
use Rattle.ild_schema.specs.Value.{Value}
use Rattle.ild_schema.specs.Slots.{plainly}
use Rattle.ild_typed.specs.Hamt.{whole}
use Rattle.ild_typed.specs.Represented.{represented}
use Rattle.ild_typed.specs.Fits.{Fits}
use Rattle.ild_schema.specs.Whole.{is_whole}
use Rattle.ild_typed.specs.Typed.{Typed}
use Rattle.ild_typed.specs.Judged.{has_hole, breaks_delimiter, exhausts}
use Rattle.ild_typed.specs.Schema.{IsSchema}
use Rattle.ild_typed.specs.Stands.{Frame, bare, IsFrame, blocks_of, Storable, Stands}

-- a bare root is a frame
abbrev pub BareIsFrame : Type 0
BareIsFrame = IsFrame bare

-- one value at most stands under an id
abbrev pub OneStands : Type 0
OneStands =
    (f : Frame) → IsFrame f → (block : List ℕ → Option (List ℕ)) (h : List ℕ → List ℕ) (rows : List Row) → IsSchema rows → (n : TypeNo)
    → (id : List ℕ) (v w : Value) → Stands f block h rows n id v → Stands f block h rows n id w → v ≡ w

-- a typed value without a hole, a broken delimiter and a HAMT without a trie has a representation
abbrev pub ValuesHaveTrees : Type 0
ValuesHaveTrees =
    (h : List ℕ → List ℕ) (rows : List Row) → IsSchema rows → (s : Slot) (v : Value) → Typed rows s v
    → has_hole rows s v ≡ false → breaks_delimiter rows s v ≡ false → exhausts h rows s v ≡ false
    → (d : Data) × (represented (whole h) rows s v ≡ Some d)

-- and a value that has a representation has none of these, whatever its type
abbrev pub TreesAreSound : Type 0
TreesAreSound =
    (h : List ℕ → List ℕ) (rows : List Row) (s : Slot) (v : Value) (d : Data) → represented (whole h) rows s v ≡ Some d
    → (is_whole v ≡ true) × (has_hole rows s v ≡ false) × (breaks_delimiter rows s v ≡ false) × (exhausts h rows s v ≡ false)

-- so a typed value can be held unless it has a hole, breaks a delimiter, nests too deep, exhausts a HAMT or has too long a block
abbrev pub StorableWhere : Type 0
StorableWhere =
    (f : Frame) (h : List ℕ → List ℕ) (rows : List Row) → IsSchema rows → (n : TypeNo) (v : Value) → Typed rows (plainly n) v
    → has_hole rows (plainly n) v ≡ false → breaks_delimiter rows (plainly n) v ≡ false → Fits rows f.room (plainly n) v → exhausts h rows (plainly n) v ≡ false
    → ((d : Data) → represented (whole h) rows (plainly n) v ≡ Some d → AllByRecursion (λ b. length b ≤ longest_block) (blocks_of f h rows n v d))
    → (d : Data) × Storable f h rows n v d
