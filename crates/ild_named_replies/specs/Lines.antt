-- What a line replies on a value under a root that names its schema, and on the struct that this root is with `/value` before its path.
use Rattle.std.specs.Prelude.{◌≡◌, ℕ, ◌<◌, List, length, option_map}
use Rattle.ild_schema.specs.declared.number.TypeNo.{TypeNo}
use Rattle.ild_schema.specs.declared.row.Row.{Row}
use Rattle.ild_schema.specs.Value.{Value}
use Rattle.ild_script.specs.Line.{reads}
use Rattle.ild_typed.specs.Schema.{IsSchema}
use Rattle.ild_path_edits.specs.Judged.{Tests}
use Rattle.ild_script_session.specs.Session.{Due, State}
use Rattle.ild_script_meaning.specs.Lines.{line_due}
use Rattle.ild_script_meaning.specs.LinesLaws.{BringsTree, CanBeHeld}
use Rattle.ild_named.specs.Named.{AreNaming}
use Rattle.ild_named_lines.specs.Beneath.{line_beneath}
use Rattle.ild_named_law.specs.Law.{rooted}
use Rattle.ild_named_replies.specs.Edits.{AreTestsOfBoth}
use Rattle.ild_named_replies.specs.Replies.{on_struct, under_name}

-- the structs over a state's values
abbrev pub rooted_state : List ℕ → List ℕ → State Value → State Value
rooted_state name source s = record { value = rooted name source s.value; begun = option_map (rooted name source) s.begun }

-- one reply, and next states that are one but for the struct
pub record AreAnsweredAlike (name source : List ℕ) (struct own : Due Value) : Type 0 where
  pub reply : struct.reply ≡ own.reply
  pub next : struct.next ≡ rooted_state name source own.next

-- each line, where the value of the state can be held
abbrev pub LinesAreAnsweredAlike : Type 0
LinesAreAnsweredAlike =
    (h : List ℕ → List ℕ) (rows : List Row) (n : TypeNo) → IsSchema rows → n.0 < length rows → (tests others : Tests) → AreTestsOfBoth rows n tests others
    → (name source : List ℕ) → AreNaming name source → (line : List ℕ) (s : State Value) → BringsTree (reads line) → CanBeHeld (under_name h rows tests n name source) s.value
    → AreAnsweredAlike name source (line_due (on_struct h rows others n) (rooted_state name source s) (line_beneath line)) (line_due (under_name h rows tests n name source) s line)
