-- Which blocks the lines of a script may add to a value under a root that names its schema, and to the struct that this root is.
use Rattle.std.specs.Prelude.{◌≡◌, ◌⊎◌, ◌↔◌, ℕ, ◌+◌, ◌<◌, ◌≤◌, List, [], ◌∷◌, ◌++◌, length}
use Rattle.ild_schema.specs.declared.number.TypeNo.{TypeNo}
use Rattle.ild_schema.specs.declared.row.Row.{Row}
use Rattle.ild_schema.specs.Table.{IsTable}
use Rattle.ild_schema.specs.Value.{Value}
use Rattle.ild_script.specs.Line.{lines_of}
use Rattle.ild_path_edits.specs.Judged.{Tests, AreTests}
use Rattle.ild_script_session.specs.Plain.{MayBegin, MayPut}
use Rattle.ild_script_session.specs.Session.{State}
use Rattle.ild_script_meaning.specs.Lines.{Setting, line_due}
use Rattle.ild_named.specs.Named.{AreNaming, schema_block}
use Rattle.ild_named_lines.specs.Beneath.{line_beneath, script_beneath}
use Rattle.ild_named_replies.specs.Lines.{rooted_state}
use Rattle.ild_named_replies.specs.Replies.{on_struct, under_name}
use Rattle.ild_named_scripts.specs.Tests.{struct_tests}

-- the same blocks, or this one behind them
abbrev pub AreWith : List ℕ → List (List ℕ) → List (List ℕ) → Type 0
AreWith b others own = (own ≡ others) ⊎ (own ≡ others ++ b ∷ [])

-- a line may add the blocks that it may add to the struct, and that of the schema's text
abbrev pub LinesAddAlike : Type 0
LinesAddAlike =
    (h : List ℕ → List ℕ) (rows : List Row) (n : TypeNo) → IsTable rows → n.0 < length rows → (tests : Tests) → AreTests rows tests
    → (name source : List ℕ) → AreNaming name source → (line : List ℕ) (s : State Value)
    → AreWith (schema_block source) (line_due (on_struct h rows (struct_tests rows n tests) n) (rooted_state name source s) (line_beneath line)).adds
    (line_due (under_name h rows tests n name source) s line).adds

-- It puts as many blocks at most as it does on the struct, or one more: a commit puts the block of the schema's text too, where the value has
-- none with these bytes.
pub record PutsOneMore (struct own : ℕ) : Type 0 where
  pub least : struct ≤ own
  pub most : own ≤ struct + 1

abbrev pub LinesPutOneMore : Type 0
LinesPutOneMore =
    (h : List ℕ → List ℕ) (rows : List Row) (n : TypeNo) → IsTable rows → n.0 < length rows → (tests : Tests) → AreTests rows tests
    → (name source : List ℕ) → AreNaming name source → (line : List ℕ) (s : State Value)
    → PutsOneMore (line_due (on_struct h rows (struct_tests rows n tests) n) (rooted_state name source s) (line_beneath line)).puts
    (line_due (under_name h rows tests n name source) s line).puts

-- Of a whole script: what its lines may put, and whether one of them may begin a batch.
pub record MayAlike (name source : List ℕ) (struct own : Setting) (script : List ℕ) (s : State Value) : Type 0 where
  pub puts : (b : List ℕ) → MayPut (line_due struct) (rooted_state name source s) (lines_of (script_beneath script)) b → MayPut (line_due own) s (lines_of script) b
  pub more : (b : List ℕ) → MayPut (line_due own) s (lines_of script) b → MayPut (line_due struct) (rooted_state name source s) (lines_of (script_beneath script)) b ⊎ (b ≡ schema_block source)
  pub begins : MayBegin (line_due struct) (rooted_state name source s) (lines_of (script_beneath script)) ↔ MayBegin (line_due own) s (lines_of script)

abbrev pub ScriptsMayAlike : Type 0
ScriptsMayAlike =
    (h : List ℕ → List ℕ) (rows : List Row) (n : TypeNo) → IsTable rows → n.0 < length rows → (tests : Tests) → AreTests rows tests
    → (name source : List ℕ) → AreNaming name source → (script : List ℕ) (s : State Value)
    → MayAlike name source (on_struct h rows (struct_tests rows n tests) n) (under_name h rows tests n name source) script s
