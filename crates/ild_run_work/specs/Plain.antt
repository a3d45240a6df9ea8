-- Plain steps: what a line of a session is due on a value.
use Rattle.std.specs.Prelude.{◌≡◌, ◌⊎◌, ℕ, List, Some}
use Rattle.ild_path_edits.specs.Judged.{Tests, AreTests}
use Rattle.ild_schema.specs.Value.{Value}
use Rattle.ild_script.specs.Line.{reads}
use Rattle.ild_script.specs.Reply.{no_text, reply_text}
use Rattle.ild_script.specs.declared.reply.No.{No}
use Rattle.ild_script.specs.declared.reply.No.TheVariants as N
use Rattle.ild_script.specs.declared.reply.Reply.{Reply}
use Rattle.ild_script_meaning.specs.Ask.{Ask, nothing, to_tell, to_edit, to_tell_root, to_begin, to_commit, to_abort, unknown, asked}
use Rattle.ild_script_meaning.specs.Lines.{Setting, due}
use Rattle.ild_script_session.specs.Session.{Due, idle}
use Rattle.ild_run_work.specs.Rules.{Rules, setting_by}

-- here the lines by which batches begin and end are outside the grammar, and so is the empty line
abbrev pub own_ask : Ask → Ask
own_ask nothing = unknown
own_ask (to_tell t path) = to_tell t path
own_ask (to_edit e) = to_edit e
own_ask to_tell_root = to_tell_root
own_ask to_begin = unknown
own_ask to_commit = unknown
own_ask to_abort = unknown
own_ask unknown = unknown

-- what is due outside any batch
abbrev pub due_on : Setting → Value → Ask → Due Value
due_on w v a = due w (own_ask a) (idle v)

-- it is replied, and leads to its value
pub record IsDue (d : Due Value) (text : List ℕ) (next : Value) : Type 0 where
  pub reply : Reply
  pub due : d.reply ≡ Some reply
  pub text_is : text ≡ reply_text reply
  pub next_is : d.next ≡ idle next

-- what doesn't come from the value: the store failed, two blocks have one id, or memory is wanting
abbrev pub IsFromOutside : No → Type 0
IsFromOutside N.Store = Unit {0}
IsFromOutside N.Clash = Unit {0}
IsFromOutside N.Memory = Unit {0}
IsFromOutside refusal = ⊥

-- a line is refused so, and the value stays
pub record StaysPlain (v : Value) (text : List ℕ) (next : Value) : Type 0 where
  pub refusal : No
  pub outside : IsFromOutside refusal
  pub text_is : text ≡ no_text refusal
  pub next_is : next ≡ v

abbrev pub StepsBy : Setting → Value → List ℕ → List ℕ → Value → Type 0
StepsBy w v line text next = IsDue (due_on w v (asked (reads line))) text next ⊎ StaysPlain v text next

-- by whichever tests of the table
pub record PlainStep (rules : Rules) (v : Value) (line text : List ℕ) (next : Value) : Type 0 where
  pub by : (tests : Tests) → AreTests rules.rows tests → StepsBy (setting_by rules tests) v line text next
