-- A whole script on a value under a root that names its schema, and on the struct that this root is with `/value` before each path.
use Rattle.std.specs.Prelude.{◌≡◌, ℕ, ◌<◌, List, length}
use Rattle.ild_schema.specs.declared.number.TypeNo.{TypeNo}
use Rattle.ild_schema.specs.declared.row.Row.{Row}
use Rattle.ild_schema.specs.Table.{IsTable}
use Rattle.ild_schema.specs.Value.{Value}
use Rattle.ild_script.specs.Line.{lines_of}
use Rattle.ild_script.specs.declared.reply.Reply.{Reply}
use Rattle.ild_path_edits.specs.Judged.{Tests, AreTests}
use Rattle.ild_script_session.specs.Plain.{PlainRun}
use Rattle.ild_script_session.specs.Session.{State}
use Rattle.ild_script_meaning.specs.Lines.{Setting, line_due}
use Rattle.ild_named.specs.Named.{AreNaming}
use Rattle.ild_named_lines.specs.Beneath.{script_beneath}
use Rattle.ild_named_replies.specs.Lines.{rooted_state}
use Rattle.ild_named_replies.specs.Replies.{on_struct, under_name}
use Rattle.ild_named_scripts.specs.Tests.{struct_tests}

-- a script from this state, answered plainly
abbrev pub Answered : Setting → State Value → List ℕ → List Reply → State Value → Type 0
Answered w s script replies t = PlainRun (line_due w) s (lines_of script) replies t

-- What answers the script on the struct answers it on the value, and the other way: with the same replies, and what is left is one but for
-- the struct.
pub record RunAlike (name source : List ℕ) (struct own : Setting) (script : List ℕ) (s : State Value) : Type 0 where
  pub own_of : (replies : List Reply) (t : State Value) → Answered struct (rooted_state name source s) (script_beneath script) replies t
      → (u : State Value) × Answered own s script replies u × (t ≡ rooted_state name source u)
  pub struct_of : (replies : List Reply) (u : State Value) → Answered own s script replies u → Answered struct (rooted_state name source s) (script_beneath script) replies (rooted_state name source u)

-- each script, from each state
abbrev pub ScriptsAreAnsweredAlike : Type 0
ScriptsAreAnsweredAlike =
    (h : List ℕ → List ℕ) (rows : List Row) (n : TypeNo) → IsTable rows → n.0 < length rows → (tests : Tests) → AreTests rows tests
    → (name source : List ℕ) → AreNaming name source → (script : List ℕ) (s : State Value)
    → RunAlike name source (on_struct h rows (struct_tests rows n tests) n) (under_name h rows tests n name source) script s
