-- What acceptance says of parts by their types: an implicit value is of its field's type, and a key is a text.
use Rattle.std.specs.Prelude.{◌≡◌, ℕ, true, List, Some}
use Rattle.std.specs.List.{AllByRecursion}
use Rattle.ild_schema.specs.declared.def.TypeDef.{TypeDef}
use Rattle.ild_schema.specs.declared.def.TypeDef.TheVariants as D
use Rattle.ild_schema.specs.declared.def.KindWord.TheVariants as K
use Rattle.ild_schema.specs.declared.def.Field.{Field}
use Rattle.ild_schema.specs.declared.def.Scalar.{Scalar}
use Rattle.ild_schema.specs.declared.row.Row.{Row}
use Rattle.ild_schema.specs.Made.{HasOnly}
use Rattle.ild_schema.specs.Rules.{is_of}
use Rattle.ild_schema.specs.Slots.{form_of, plainly}
use Rattle.ild_schema.specs.Table.{def_at}

abbrev pub ImplicitFits : List Row → Field → Type 0
ImplicitFits rows f = (value : Scalar) → f.implicit ≡ Some value → is_of value (form_of rows f.slot) ≡ true

abbrev pub FittingType : List Row → TypeDef → Type 0
FittingType rows (D.Map key key_at value at form) = HasOnly rows (plainly key) K.Text
FittingType rows (D.Struct s) = AllByRecursion (ImplicitFits rows) s.fields
FittingType rows d = Unit {0}

abbrev pub IsFitting : List Row → Type 0
IsFitting rows = (n : ℕ) (d : TypeDef) → def_at rows n ≡ Some d → FittingType rows d
