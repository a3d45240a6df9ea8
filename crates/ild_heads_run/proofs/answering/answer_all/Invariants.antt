use Rattle.std.proofs.Common.{◌≡◌, ◌≤◌}
use Rattle.std.specs.Prelude.{IsTrue}
use Rattle.ild_heads.specs.Legal.{AreLegal}
use Rattle.ild_script.specs.Line.{lines_of}
use Rattle.ild_script_session.specs.Lines.{lines_left, bytes_left}
use Rattle.ild_heads_run.proofs.Answered.{SoFar}
use Rattle.ild_heads_run.proofs.answering.answer_all.Given as goal

abbrev pub invariant-loop-rest : goal.invariant-loop-rest
invariant-loop-rest g l = record {
  so_far : SoFar g.R.Work.told g.R.Work.stands (g.R.Work.plain (g.R.Work.rules l.initial.work)) g.R.Work.ran g.R.Work.later g.R.Roots.is_empty g.R.Roots.cause
      (lines_of l.script) (lines_left l.rest) l.initial.work l.initial.heads l.work l.heads (g.W.Sink.output l.initial.out).written (g.W.Sink.output l.out).written l.refused;
  legal : IsTrue (g.R.Work.told l.work) → AreLegal (g.R.Work.stands l.work) (g.R.Work.plain (g.R.Work.rules l.work)) l.heads;
  same : g.R.Work.rules l.work ≡ g.R.Work.rules l.initial.work;
  faults : (g.W.Sink.output l.initial.out).faults ≤ (g.W.Sink.output l.out).faults;
}

abbrev pub decreases-loop-rest : goal.decreases-loop-rest
decreases-loop-rest g l = bytes_left l.rest
