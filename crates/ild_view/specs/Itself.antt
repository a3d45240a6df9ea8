-- Values that are data by themselves: null, scalars, and what an Any is.
use Rattle.std.specs.Prelude.{Bool, true, false, List, Option, Some, None}
use Rattle.ild_data.specs.Data as T
use Rattle.ild_data.specs.Data.{Data}
use Rattle.ild_schema.specs.Value as V
use Rattle.ild_schema.specs.Value.{Value}
use Rattle.ild_schema.specs.declared.def.TypeDef.{TypeDef}
use Rattle.ild_schema.specs.declared.def.TypeDef.TheVariants as D
use Rattle.ild_schema.specs.declared.row.Row.{Row}
use Rattle.ild_view.specs.Body.{BodyStands}
use Rattle.ild_view.specs.declared.body.Body.{Body}

abbrev pub itself : Value → Option Data
itself V.null = Some T.null
itself (V.boolean b) = Some (T.boolean b)
itself (V.integer n) = Some (T.integer n)
itself (V.text s) = Some (T.text s)
itself (V.bytes s) = Some (T.bytes s)
itself (V.link s) = Some (T.link s)
itself (V.any d) = Some d
itself v = None

-- types of such values
abbrev pub is_plain : TypeDef → Bool
is_plain D.Bool = true
is_plain D.Text = true
is_plain D.Bytes = true
is_plain D.Int = true
is_plain D.Any = true
is_plain (D.Link target) = true
is_plain d = false

-- a body that stands for them, where there are such data
abbrev pub Embodies : List Row → Option Data → Option Body → Type 0
Embodies rows None None = Unit {0}
Embodies rows (Some d) (Some b) = BodyStands rows b d
Embodies rows None (Some b) = ⊥
Embodies rows (Some d) None = ⊥
