-- Where nothing stands in the way, lines are answered as on the plain value.
use Rattle.std.proofs.Common.{◌≢◌, ℕ, List, None, refl}
use Rattle.ild_edges.specs.Count.{Rose}
use Rattle.ild_edges.specs.Store.{Moment}
use Rattle.ild_path_edits.specs.Judged.{Tests}
use Rattle.ild_schema.specs.Value.{Value}
use Rattle.ild_schema.specs.declared.number.TypeNo.{TypeNo}
use Rattle.ild_schema.specs.declared.row.Row.{Row}
use Rattle.ild_script.specs.declared.reply.Reply.{Reply}
use Rattle.ild_script_session.proofs.Steps.{plain_run_out}
use Rattle.ild_script_session.specs.Plain.{PlainRun, MayPut, MayBegin, AreAllApart}
use Rattle.ild_script_session.specs.Run.{Run}
use Rattle.ild_script_session.specs.Session.{Stage, resting, idle}
use Rattle.ild_script_session.specs.Step.{Carries}
use Rattle.ild_run_script.specs.Plainly.{plain_due}
use Rattle.ild_run_script.specs.Scripts.{lines_on}

-- a run without faults and collisions over a store that tells is one on plain values
pub plain_lines : (rows : List Row) (ty : TypeNo) (tests : Tests) (m : Moment) (v : Value) (lines : List (List ℕ)) (replies : List Reply) (n : Moment) (last : Stage Value) → Run (lines_on rows ty tests) m (resting v) lines replies n last
    → Carries (lines_on rows ty tests) m (resting v) → m.blocks ≢ None → (Rose m.faults n.faults → ⊥) → AreAllApart n (MayBegin (plain_due rows ty tests) (idle v) lines) (MayPut (plain_due rows ty tests) (idle v) lines)
    → PlainRun (plain_due rows ty tests) (idle v) lines replies last.state
plain_lines rows ty tests m v lines replies n last run carried told calm apart =
    plain_run_out (lines_on rows ty tests) (plain_due rows ty tests) (λ held s l. refl) m (resting v) lines replies n last refl run carried told calm apart
