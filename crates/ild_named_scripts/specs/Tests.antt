-- Tests by the longer table that has the struct of roots which name their schema, made of tests by the schema's own.
use Rattle.std.specs.Prelude.{ℕ, suc, ◌<◌, ◌&&◌, Bool, false, cond, nat_lt, List, length}
use Rattle.ild_schema.specs.declared.number.Slot.{Slot}
use Rattle.ild_schema.specs.declared.number.TypeNo.{TypeNo}
use Rattle.ild_schema.specs.declared.row.Row.{Row}
use Rattle.ild_schema.specs.Prelude.{number}
use Rattle.ild_schema.specs.Slots.{plainly}
use Rattle.ild_schema.specs.Table.{IsTable}
use Rattle.ild_schema.specs.Value as V
use Rattle.ild_schema.specs.Value.{Value, Optionals}
use Rattle.ild_path_edits.specs.Judged.{Tests, AreTests}
use Rattle.ild_named_type.specs.Root.{named_rows}

-- a value of the struct is one level over its parts, each of which fits
abbrev pub parts_fit : Tests → TypeNo → ℕ → Optionals → Bool
parts_fit t n (suc room) (V.present a (V.present v (V.present b V.no_optionals))) = t.fits room (plainly (number 7)) a && (t.fits room (plainly n) v && t.fits room (plainly (number 4)) b)
parts_fit t n room os = false

abbrev pub struct_fits : Tests → TypeNo → ℕ → Slot → Value → Bool
struct_fits t n room s V.null = s.nullable
struct_fits t n room s (V.struct os) = parts_fit t n room os
struct_fits t n room s v = false

-- the struct is no key
abbrev pub struct_tests : List Row → TypeNo → Tests → Tests
struct_tests rows n t = record {
  is_key = λ key k. cond (nat_lt key (length rows)) (t.is_key key k) false;
  fits = λ room s v. cond (nat_lt s.ty.0 (length rows)) (t.fits room s v) (struct_fits t n room s v);
}

abbrev pub StructsAreTested : Type 0
StructsAreTested = (rows : List Row) (n : TypeNo) → IsTable rows → n.0 < length rows → (tests : Tests) → AreTests rows tests → AreTests (named_rows rows n) (struct_tests rows n tests)
