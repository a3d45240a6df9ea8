-- Lines that ask nothing of a store: from one stage to another.
use Rattle.std.specs.Prelude.{◌≡◌, ◌⊎◌, ℕ, List, [], Option, Some, None}
use Rattle.ild_data.specs.Data as D
use Rattle.ild_edges.specs.Store.{Moment}
use Rattle.ild_schema.specs.Value.{Value}
use Rattle.ild_script.specs.declared.reply.Reply.{Reply}
use Rattle.ild_script_meaning.specs.Lines.{Setting, abort_due, begin_due, printed, typed_lines}
use Rattle.ild_script_session.specs.Batch.{together}
use Rattle.ild_script_session.specs.Session.{Stage, Due, idle, resting}
use Rattle.ild_script_session.specs.Step.{IsExcused, Replies}
use Rattle.ild_script_batch.specs.Inside.{batching, begun_at}

-- a line that leaves the stage, inside a batch or outside, is replied to as it is due, or refused for a cause
abbrev pub StagesStay : Type 0
StagesStay =
    (w : Setting) (m : Moment) (s : Stage Value) (d : Due Value) (reply : Option Reply) → ((reply ≡ d.reply) × (s.state ≡ d.next)) ⊎ IsExcused m d.adds reply m (together m s)
    → Replies (typed_lines w) m s d reply m s

-- a batch begins without blocks of its own, and owes nothing
abbrev pub BatchesBegin : Type 0
BatchesBegin = (w : Setting) (m : Moment) (v : Value) → Replies (typed_lines w) m (resting v) (begin_due (idle v) None) (Some (printed D.null)) m (batching v v 0 [])

-- and where it is dropped, the value is the one at its begin
abbrev pub BatchesEnd : Type 0
BatchesEnd =
    (w : Setting) (m : Moment) (v kept : Value) (owed : ℕ) (own : List (List ℕ))
    → Replies (typed_lines w) m (batching v kept owed own) (abort_due (begun_at v kept) (Some kept)) (Some (printed D.null)) m (resting kept)
