-- The law of reads.
use Rattle.std.specs.Prelude.{ℕ, List, Some}
use Rattle.ild_data.specs.Data.{Data}
use Rattle.ild_edges.specs.Store.{Moment}
use Rattle.ild_script_meaning.specs.Ask.{to_tell}
use Rattle.ild_script_meaning.specs.Lines.{Setting, due, typed_lines}
use Rattle.ild_schema.specs.Value.{Value}
use Rattle.ild_script.specs.declared.reply.Reply.{Reply}
use Rattle.ild_script_session.specs.Session.{idle, resting}
use Rattle.ild_script_session.specs.Step.{Replies}
use Rattle.ild_view.specs.declared.view.View.{View}
use Rattle.ild_run_follow.specs.Tells.{ViewIsHeld}
use Rattle.ild_run_follow.specs.declared.kind.Tell.{Tell}
use Rattle.ild_run_reads.specs.Replies.{IsAbout, RepliesAs, asked}

-- outside a batch, of the value at the view
abbrev pub ReadsAreReplies : Type 0
ReadsAreReplies =
    (h : List ℕ → List ℕ) (w : Setting) (view : View) (path : List (List ℕ)) (tell : Tell) (m n : Moment) (reply : Reply) (t : Data) (v : Value)
    → IsAbout h w view → ViewIsHeld h view m t v → RepliesAs h view path tell m reply n
    → Replies (typed_lines w) m (resting v) (due w (to_tell (asked tell) path) (idle v)) (Some reply) n (resting v)
