-- Types without parts (IPLD Schemas, "Scalar kinds", "Enum"): what is asked of each layer is told for their values, whatever these are.
use Rattle.std.specs.Prelude.{◌≡◌, ℕ, Bool, true, false, List, Some}
use Rattle.ild_schema.specs.declared.number.Slot.{Slot}
use Rattle.ild_schema.specs.declared.def.TypeDef.{TypeDef}
use Rattle.ild_schema.specs.declared.def.TypeDef.TheVariants as D
use Rattle.ild_schema.specs.declared.row.Row.{Row}
use Rattle.ild_schema.specs.Value.{Value}
use Rattle.ild_typed.specs.Fits.{Fits}
use Rattle.ild_typed.specs.Judged.{has_hole, breaks_delimiter}
use Rattle.ild_typed.specs.OfType.{OfType}
use Rattle.ild_build.specs.PartAt.{value_part_at}

-- a type of scalars or of an enum; the data of Any may nest
abbrev pub is_bare : TypeDef → Bool
is_bare D.Bool = true
is_bare D.Text = true
is_bare D.Bytes = true
is_bare D.Int = true
is_bare (D.Link target) = true
is_bare (D.Enum e) = true
is_bare d = false

-- a value that no layer's test finds anything in, and that takes no level where it is of the type
pub record IsLeaf (rows : List Row) (s : Slot) (v : Value) : Type 0 where
  pub hole : has_hole rows s v ≡ false
  pub delimiter : breaks_delimiter rows s v ≡ false
  pub room : (room : ℕ) → OfType rows s v → Fits rows room s v

-- a type of whose values every part is one
pub record HasLeaves (rows : List Row) (d : TypeDef) : Type 0 where
  pub each : (v : Value) (i : ℕ) (u : Slot) (w : Value) → value_part_at (Some d) v i ≡ Some (u, w) → IsLeaf rows u w
