-- Fields that are left out of a block (IPLD Schemas, "implicit"): those whose value is the one that stands for them.
use Rattle.std.specs.Prelude.{Bool, false, Option, Some, None, bytes_eq}
use Rattle.ild_schema.specs.declared.def.Scalar.{Scalar}
use Rattle.ild_schema.specs.declared.def.Scalar.TheVariants as C
use Rattle.ild_schema.specs.Value as V
use Rattle.ild_schema.specs.Value.{Value}
use Rattle.ild_typed.specs.Fields.{same_bool, same_int}

abbrev pub has_scalar : Scalar → Value → Bool
has_scalar (C.Bool a) (V.boolean b) = same_bool a b
has_scalar (C.Int a) (V.integer b) = same_int a b
has_scalar (C.Text a) (V.text b) = bytes_eq a b
has_scalar s v = false

abbrev pub is_left_out : Option Scalar → Value → Bool
is_left_out None v = false
is_left_out (Some s) v = has_scalar s v
