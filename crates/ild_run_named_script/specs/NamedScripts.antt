-- What running a script on the value under a root that names its schema answers, and what it leaves of the store (IPLD Schemas).
use Rattle.std.specs.Prelude.{◌≡◌, ℕ, List, Bool, Result, Ok, Err}
use Rattle.ild_data.specs.declared.id.BlockId.{BlockId}
use Rattle.ild_edges.specs.Sink.{Output}
use Rattle.ild_edges.specs.Store.{Moment}
use Rattle.ild_named_lines.specs.Beneath.{script_beneath}
use Rattle.ild_run_open.specs.declared.start.Start.TheVariants as S
use Rattle.ild_run_script.specs.Scripts.{Scripts}
use Rattle.ild_schema.specs.declared.number.TypeNo.{TypeNo}
use Rattle.ild_schema.specs.declared.row.Row.{Row}
use Rattle.ild_run_named_script.specs.declared.fault.NamedScriptFault.{NamedScriptFault}
use Rattle.ild_run_named_script.specs.declared.fault.NamedScriptFault.TheVariants as F

-- By the table that has the struct of such roots, of which this is the number, the root is a bare one, and the value stands in it at
-- `/value`. So a script on the value is the script on the root whose lines have `/value` before their paths. Or memory was wanting for
-- these lines: then the store and what was written are as they were.
abbrev pub NamedScripts : List Row → TypeNo → BlockId → List ℕ → Moment → Output → Result Bool NamedScriptFault → Moment → Output → Type 0
NamedScripts rows ty id script m was (Ok refused) n now = Scripts rows ty (S.Root id) (script_beneath script) m was (Ok refused) n now
NamedScripts rows ty id script m was (Err (F.Script fault)) n now = Scripts rows ty (S.Root id) (script_beneath script) m was (Err fault) n now
NamedScripts rows ty id script m was (Err F.Memory) n now = (n ≡ m) × (now ≡ was)
