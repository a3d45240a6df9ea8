-- The laws of values that differ in their links alone, each link being as long as the other's: their blocks are as many, each as long.
use Rattle.std.specs.Prelude.{◌≡◌, ℕ, List, map, length, Some}
use Rattle.ild_data.specs.Data.{Data}
use Rattle.ild_data.specs.Spell.{spell}
use Rattle.ild_schema.specs.Value.{Value}
use Rattle.ild_schema.specs.declared.number.Slot.{Slot}
use Rattle.ild_schema.specs.declared.row.Row.{Row}
use Rattle.ild_typed.specs.At.{InSlot, met}
use Rattle.ild_typed.specs.Blocks.{nodes}
use Rattle.ild_typed.specs.Hamt.{whole}
use Rattle.ild_typed.specs.Represented.{represented}
use Rattle.ild_typed_alike.specs.Blank.{blank_value, blank_in}

-- The value w has a representation, as the value v has t.
pub record IsAsLong (h : List ℕ → List ℕ) (rows : List Row) (s : Slot) (v w : Value) (t : Data) : Type 0 where
  pub tree : Data
  pub is : represented (whole h) rows s w ≡ Some tree
  pub long : length (spell tree) ≡ length (spell t)
  pub nodes : map length (nodes h rows s w) ≡ map length (nodes h rows s v)

abbrev pub AlikeAreAsLong : Type 0
AlikeAreAsLong =
    (h : List ℕ → List ℕ) (rows : List Row) (s : Slot) (v w : Value) (t : Data)
    → blank_value v ≡ blank_value w → represented (whole h) rows s v ≡ Some t → IsAsLong h rows s v w t

-- what is counted on the way of a path is the same, where it is of one holder
abbrev pub AlikeMeetAsMany : Type 0
AlikeMeetAsMany =
    (rows : List Row) (count : InSlot → List ℕ → ℕ) → ((p : InSlot) (k : List ℕ) → count (blank_in p) k ≡ count p k)
    → (s : Slot) (v w : Value) (path : List (List ℕ)) → blank_value v ≡ blank_value w → met rows count (s, v) path ≡ met rows count (s, w) path
