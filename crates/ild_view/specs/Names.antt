-- The name of the member that an enum is.
use Rattle.std.specs.Prelude.{ℕ, List, Option, None, option_map}
use Rattle.ild_schema.specs.Value as V
use Rattle.ild_schema.specs.Value.{Value}
use Rattle.ild_schema.specs.declared.def.TypeDef.{TypeDef}
use Rattle.ild_typed.specs.Slots.{enum_member_at}

abbrev pub enum_name_of : Option TypeDef → Value → Option (List ℕ)
enum_name_of d (V.enum n) = option_map (λ m. m.name) (enum_member_at d n)
enum_name_of d v = None
