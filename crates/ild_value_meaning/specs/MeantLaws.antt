-- The laws of the values that data show: the reading by the types finds them, there is one at most, and the shown form shows.
use Rattle.std.specs.Prelude.{◌≡◌, ◌↔◌, ℕ, List, Bool, Some, None}
use Rattle.ild_data.specs.Data.{Data}
use Rattle.ild_data.specs.Tree.{IsTree}
use Rattle.ild_schema.specs.declared.number.Slot.{Slot}
use Rattle.ild_schema.specs.declared.number.TypeNo.{TypeNo}
use Rattle.ild_schema.specs.declared.row.Row.{Row}
use Rattle.ild_schema.specs.Value.{Value}
use Rattle.ild_typed.specs.OfType.{OfType, TestsKeys}
use Rattle.ild_typed.specs.Schema.{IsSchema}
use Rattle.ild_typed.specs.Shown.{shown}
use Rattle.ild_typed.specs.Typed.{Typed}
use Rattle.ild_value_meaning.specs.Filled.{filled}
use Rattle.ild_value_meaning.specs.Meant.{Meant}
use Rattle.ild_value_meaning.specs.MeantRead.{meant}
use Rattle.ild_value_meaning.specs.Mismatch.{Rule, IsMismatch}
use Rattle.ild_value_meaning.specs.Risen.{MapsRise}

-- the reading finds each value that data show
abbrev pub MeantIsRead : Type 0
MeantIsRead = (rows : List Row) (is_key : ℕ → List ℕ → Bool) → IsSchema rows → (slot : Slot) (t : Data) (v : Value) → Meant rows is_key slot t v → meant rows is_key slot t ≡ Some v

-- and what it finds is shown by the data
abbrev pub ReadIsMeant : Type 0
ReadIsMeant = (rows : List Row) (is_key : ℕ → List ℕ → Bool) (slot : Slot) (t : Data) (v : Value) → meant rows is_key slot t ≡ Some v → Meant rows is_key slot t v

-- data show at most one value of a slot
abbrev pub OneMeant : Type 0
OneMeant = (rows : List Row) (is_key : ℕ → List ℕ → Bool) → IsSchema rows → (slot : Slot) (t : Data) (v w : Value) → Meant rows is_key slot t v → Meant rows is_key slot t w → v ≡ w

-- the value that a tree shows is typed, and its maps rise
pub record IsMeantTyped (rows : List Row) (slot : Slot) (v : Value) : Type 0 where
  pub typed : Typed rows slot v
  pub rises : MapsRise v

abbrev pub MeantIsTyped : Type 0
MeantIsTyped = (rows : List Row) (is_key : ℕ → List ℕ → Bool) → IsSchema rows → TestsKeys rows is_key
    → (slot : Slot) (t : Data) (v : Value) → IsTree t → Meant rows is_key slot t v → IsMeantTyped rows slot v

-- the shown form of a value whose maps rise shows it
abbrev pub ShownIsMeant : Type 0
ShownIsMeant = (rows : List Row) (is_key : ℕ → List ℕ → Bool) → IsSchema rows → TestsKeys rows is_key
    → (slot : Slot) (v : Value) → OfType rows slot v → MapsRise v → Meant rows is_key slot (shown rows slot v) v

-- a tree means nothing exactly where some part of it breaks some rule
abbrev pub NothingWhereBroken : Type 0
NothingWhereBroken = (rows : List Row) (is_key : ℕ → List ℕ → Bool) → IsSchema rows → (slot : Slot) (t : Data) → IsTree t
    → (meant rows is_key slot t ≡ None) ↔ ((ty : TypeNo) × (rule : Rule) × IsMismatch rows is_key slot t ty rule)

-- a tree that means a value is its shown form, but for fields with their implicit value, which may be left out
abbrev pub FilledIsShown : Type 0
FilledIsShown = (rows : List Row) (is_key : ℕ → List ℕ → Bool) → IsSchema rows → (slot : Slot) (t : Data) (v : Value) → Meant rows is_key slot t v → filled rows slot t ≡ shown rows slot v
