use Rattle.std.proofs.Common.{◌≡◌, ◌≤◌}
use Rattle.ild_script.specs.Line.{lines_of}
use Rattle.ild_script_session.specs.Lines.{lines_left, bytes_left}
use Rattle.ild_script_session.proofs.Runs.{SoFar}
use Rattle.ild_script_session.proofs.script.answer_all.Given as goal

abbrev pub invariant-loop-rest : goal.invariant-loop-rest
invariant-loop-rest g l = record {
  so_far : SoFar (g.S.Session.stands l.initial.session (g.K.Store.moment l.initial.store)) g.S.Session.passes l.initial.session (g.S.Session.stands l.session (g.K.Store.moment l.store)) l.session
      (lines_of l.script) (lines_left l.rest) (g.K.Store.moment l.initial.store) (g.K.Store.moment l.store) (g.W.Sink.output l.initial.out).written (g.W.Sink.output l.out).written l.refused;
  ready : g.S.Session.ready l.session (g.K.Store.moment l.store);
  same : g.S.Session.subject l.session ≡ g.S.Session.subject l.initial.session;
  faults : (g.W.Sink.output l.initial.out).faults ≤ (g.W.Sink.output l.out).faults;
}

abbrev pub decreases-loop-rest : goal.decreases-loop-rest
decreases-loop-rest g l = bytes_left l.rest
