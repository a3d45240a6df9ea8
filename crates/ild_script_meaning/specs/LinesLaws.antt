-- The laws of lines on typed values.
use Rattle.std.specs.Prelude.{◌≡◌, ◌≢◌, ℕ, List, [], Some, IfSome}
use Rattle.ild_data.specs.Data.{Data}
use Rattle.ild_json.specs.Law.{MeansTree}
use Rattle.ild_schema.specs.Value.{Value}
use Rattle.ild_script.specs.Line.{Reading, blank, command, outside, reads}
use Rattle.ild_script.specs.declared.reply.No.{No}
use Rattle.ild_script.specs.declared.reply.No.TheVariants as N
use Rattle.ild_script.specs.declared.reply.Reply.TheVariants as R
use Rattle.ild_typed.specs.Schema.{IsSchema}
use Rattle.ild_typed.specs.Stands.{Storable}
use Rattle.ild_path_edits.specs.Edit.{Edit}
use Rattle.ild_path_edits.specs.Judged.{AreTests}
use Rattle.ild_script_session.specs.Session.{State, idle, Due}
use Rattle.ild_script_meaning.specs.Ask.{Ask, to_edit}
use Rattle.ild_script_meaning.specs.Lines.{Setting, due, line_due}

-- a refused line leaves the state, and unless it is refused as exhausted or for its size it adds no block and puts none
pub record LeavesAll (d : Due Value) (s : State Value) (refusal : No) : Type 0 where
  pub state : d.next ≡ s
  pub adds : refusal ≢ N.Exhausted → refusal ≢ N.Size → d.adds ≡ []
  pub puts : refusal ≢ N.Exhausted → refusal ≢ N.Size → d.puts ≡ 0

abbrev pub RefusedLeave : Type 0
RefusedLeave = (w : Setting) (a : Ask) (s : State Value) (refusal : No) → (due w a s).reply ≡ Some (R.No refusal) → LeavesAll (due w a s) s refusal

-- inside a batch an edit puts nothing, and owes what it would put outside one
abbrev pub BatchesOwe : Type 0
BatchesOwe = (w : Setting) (e : Edit (List ℕ)) (v begun : Value)
    → ((due w (to_edit e) (record { value = v; begun = Some begun })).puts ≡ 0) × ((due w (to_edit e) (record { value = v; begun = Some begun })).owes ≡ (due w (to_edit e) (idle v)).puts)

-- a value of the type that a store can hold
abbrev pub CanBeHeld : Setting → Value → Type 0
CanBeHeld w v = (d : Data) × Storable w.frame w.hash w.rows w.ty v d

-- the value of a state, and that at the begin of its batch
abbrev pub StateCanBeHeld : Setting → State Value → Type 0
StateCanBeHeld w s = CanBeHeld w s.value × IfSome s.begun (CanBeHeld w)

-- what the json of a command means is a tree; the call that reads json says so of each text for which memory is not wanting
abbrev pub BringsTree : Reading → Type 0
BringsTree blank = Unit {0}
BringsTree (command c) = MeansTree c.json
BringsTree outside = Unit {0}

-- each line makes states that a store can hold of such states
abbrev pub LinesKeepHeld : Type 0
LinesKeepHeld = (w : Setting) → IsSchema w.rows → AreTests w.rows w.tests → (line : List ℕ) (s : State Value) → BringsTree (reads line) → StateCanBeHeld w s → StateCanBeHeld w (line_due w s line).next
