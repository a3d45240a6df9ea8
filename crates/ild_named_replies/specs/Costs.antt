-- What a line costs on a value under a root that names its schema, and on the struct that this root is with `/value` before its path.
use Rattle.std.specs.Prelude.{◌≡◌, ℕ, ◌<◌, List, length}
use Rattle.ild_schema.specs.declared.number.TypeNo.{TypeNo}
use Rattle.ild_schema.specs.declared.row.Row.{Row}
use Rattle.ild_schema.specs.Table.{IsTable}
use Rattle.ild_schema.specs.Value.{Value}
use Rattle.ild_script.specs.Line.{reads}
use Rattle.ild_typed.specs.Schema.{IsSchema}
use Rattle.ild_path_edits.specs.Judged.{Tests}
use Rattle.ild_script_session.specs.Session.{Due, State}
use Rattle.ild_script_meaning.specs.Ask.{Ask, asked, to_commit}
use Rattle.ild_script_meaning.specs.Lines.{line_due}
use Rattle.ild_script_meaning.specs.LinesLaws.{BringsTree, CanBeHeld}
use Rattle.ild_named.specs.Named.{AreNaming}
use Rattle.ild_named_lines.specs.Beneath.{line_beneath}
use Rattle.ild_named_replies.specs.Edits.{AreTestsOfBoth}
use Rattle.ild_named_replies.specs.Lines.{rooted_state}
use Rattle.ild_named_replies.specs.Replies.{on_struct, under_name}

-- each line asks a store as often at most: the struct has no block of its own beneath its root
abbrev pub LinesGetAlike : Type 0
LinesGetAlike =
    (h : List ℕ → List ℕ) (rows : List Row) (n : TypeNo) → IsTable rows → n.0 < length rows → (tests others : Tests) → AreTestsOfBoth rows n tests others
    → (name source line : List ℕ) (s : State Value)
    → (line_due (on_struct h rows others n) (rooted_state name source s) (line_beneath line)).gets ≡ (line_due (under_name h rows tests n name source) s line).gets

-- For how many puts a line leaves a batch owing is alike, and so are its puts, but for a commit: under a root that names its schema it keeps the
-- block of the schema's text too.
pub record PutAlike (a : Ask) (struct own : Due Value) : Type 0 where
  pub owes : struct.owes ≡ own.owes
  pub puts : (a ≡ to_commit → ⊥) → struct.puts ≡ own.puts

abbrev pub LinesPutAlike : Type 0
LinesPutAlike =
    (h : List ℕ → List ℕ) (rows : List Row) (n : TypeNo) → IsSchema rows → n.0 < length rows → (tests others : Tests) → AreTestsOfBoth rows n tests others
    → (name source : List ℕ) → AreNaming name source → (line : List ℕ) (s : State Value) → BringsTree (reads line) → CanBeHeld (under_name h rows tests n name source) s.value
    → PutAlike (asked (reads line)) (line_due (on_struct h rows others n) (rooted_state name source s) (line_beneath line)) (line_due (under_name h rows tests n name source) s line)
