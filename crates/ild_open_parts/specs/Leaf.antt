-- Values without parts that are values, as a reader answers them.
use Rattle.std.specs.Prelude.{◌≡◌, ℕ, Bool, true, false, List, Option, Some}
use Rattle.std.specs.Option.{option_map_or}
use Rattle.ild_cbor.specs.declared.piece.Piece.{Piece}
use Rattle.ild_data.specs.Data.{Data}
use Rattle.ild_schema.specs.Slots.{form_of}
use Rattle.ild_schema.specs.Value as V
use Rattle.ild_schema.specs.Value.{Value}
use Rattle.ild_schema.specs.ValueSeen.{value_of}
use Rattle.ild_schema.specs.declared.def.Field.{Field}
use Rattle.ild_schema.specs.declared.def.Scalar.{Scalar}
use Rattle.ild_schema.specs.declared.def.Scalar.TheVariants as C
use Rattle.ild_schema.specs.declared.def.TypeDef.{TypeDef}
use Rattle.ild_schema.specs.declared.def.TypeDef.TheVariants as D
use Rattle.ild_schema.specs.declared.number.Slot.{Slot}
use Rattle.ild_schema.specs.declared.row.Row.{Row}
use Rattle.ild_schema.specs.declared.val.Val.{Val}
use Rattle.ild_open_held.specs.Held.{IsHeld}
use Rattle.ild_open_held.specs.Laws.{IsFronted}
use Rattle.ild_open_parts.specs.Checked.{IsLayered}

-- the value is held, whatever a store holds
abbrev pub IsLeafOf : List Row → Slot → Data → Val → Type 0
IsLeafOf rows s t val = (block : List ℕ → Option (List ℕ)) (h : List ℕ → List ℕ) (room : ℕ) → IsFronted rows room s t → IsHeld block h rows room s t (value_of val)

-- a value is held, whatever a store holds, and it is the one that is kept, where it is to be
pub record HasLeaf (rows : List Row) (room : ℕ) (s : Slot) (t : Data) (keep : Bool) (val : Val) : Type 0 where
  pub value : Value
  pub is : (block : List ℕ → Option (List ℕ)) (h : List ℕ → List ℕ) → IsHeld block h rows room s t value
  pub kept : keep ≡ true → value_of val ≡ value

abbrev pub is_leaf : TypeDef → Bool
is_leaf D.Bool = true
is_leaf D.Text = true
is_leaf D.Bytes = true
is_leaf D.Int = true
is_leaf D.Any = true
is_leaf (D.Link target) = true
is_leaf (D.Unit form) = true
is_leaf (D.Enum e) = true
is_leaf d = false

-- the values of the slot's type have no parts
abbrev pub IsLeafSlot : List Row → Slot → Type 0
IsLeafSlot rows s = option_map_or is_leaf (form_of rows s) false ≡ true

-- a piece stands for data that are a layer of the slot's type
abbrev pub StandsAsLayer : List Row → Slot → Piece → Type 0
StandsAsLayer rows s piece = (d : TypeDef) → form_of rows s ≡ Some d → ∥ IsLayered rows d piece ∥₁

-- ---- values that are left out

abbrev pub scalar_value : Scalar → Value
scalar_value (C.Bool b) = V.boolean b
scalar_value (C.Int n) = V.integer n
scalar_value (C.Text s) = V.text s

-- the value that a field has where it is left out
abbrev pub IsImplied : Field → Val → Type 0
IsImplied f val = (scalar : Scalar) × (f.implicit ≡ Some scalar) × (value_of val ≡ scalar_value scalar)

-- ---- members

-- the union with a member, where it is to be kept
abbrev pub IsUnionWith : Bool → ℕ → Val → Val → Type 0
IsUnionWith keep number val whole = keep ≡ true → value_of whole ≡ V.union number (value_of val)
