-- What is told of a part of a value, or of a path that leads to none.
use Rattle.std.specs.Prelude.{ℕ, List, Bool, true, false, Option, Some, is_some, option_map, option_and_then}
use Rattle.ild_data.specs.Data as D
use Rattle.ild_data.specs.Data.{Data}
use Rattle.ild_script_meaning.specs.Reads.{counted, walked}
use Rattle.ild_schema.specs.declared.row.Row.{Row}
use Rattle.ild_typed.specs.At.{InSlot, seen}
use Rattle.ild_typed.specs.Hamt.{whole}
use Rattle.ild_typed.specs.Represented.{represented}
use Rattle.ild_value_parts.specs.Lists.{show}
use Rattle.ild_run_follow.specs.declared.kind.Tell.{Tell}
use Rattle.ild_run_follow.specs.declared.kind.Tell.TheVariants as T

abbrev pub told : (List ℕ → List ℕ) → List Row → Tell → Option InSlot → Option Data
told h rows T.Shown o = option_map (show rows) o
told h rows T.Representation o = option_and_then (λ q. represented (whole h) rows q.0 q.1) o
told h rows T.Presence o = Some (D.boolean (is_some o))
told h rows T.Count o = option_and_then (λ q. counted (seen rows q)) o
told h rows T.Parts o = option_and_then (λ q. walked (show rows) (seen rows q)) o

-- the part is loaded for it
abbrev pub is_loaded : Tell → Bool
is_loaded T.Shown = true
is_loaded T.Representation = false
is_loaded T.Presence = false
is_loaded T.Count = true
is_loaded T.Parts = true
