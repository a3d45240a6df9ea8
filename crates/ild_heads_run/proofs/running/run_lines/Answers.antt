use Rattle.ild_script.specs.Line.{lines_of}
use Rattle.ild_heads_run.proofs.Answered.{ends_cut, first_legal, legal_by, lines_cut, script_done}
use Rattle.ild_heads_run.specs.inside.Lines.{LinesCut, LinesDone}
use Rattle.ild_heads_run.proofs.Stopped.{on_err_always}
use Rattle.ild_heads_run.proofs.running.run_lines.Goals as goal

pub answer_all-requires : goal.answer_all-requires
answer_all-requires g c told = first_legal _ _ c.new-heads.result c.new-heads.ensures

pub returns-in_err-refused-clause-part : goal.returns-in_err-refused-clause-part
returns-in_err-refused-clause-part g c =
    let r = g.R.Work in
    let was = (g.W.Sink.output c.args.out.now).written in
    let now = (g.W.Sink.output c.answer_all.new.out).written in
    let P = r.plain (r.rules c.args.work.now) in
    let x = c.answer_all.new.work in
    let cut : LinesCut r.told r.stands P r.ran r.later g.R.Roots.is_empty g.R.Roots.cause c.args.work.now _ (lines_of c.args.script.now) x c.answer_all.new.heads was now = rw c.new-heads.ensures at c.in_err-refused.ensures.part in
    on_err_always c.from_residual.result _
    (lines_cut r.told r.stands P r.ran r.later g.R.Roots.is_empty g.R.Roots.cause g.met.R.Work.later_same g.met.R.Work.later_then c.args.work.now (lines_of c.args.script.now) x c.answer_all.new.heads was now
    (legal_by r.told r.stands r.ran r.later g.R.Roots.is_empty g.R.Roots.cause r.plain (r.rules c.args.work.now) (r.rules x) c.in_err-refused.ensures.same x c.answer_all.new.heads c.in_err-refused.ensures.legal) cut)

pub returns-in_err-write_heads-clause-part : goal.returns-in_err-write_heads-clause-part
returns-in_err-write_heads-clause-part g c =
    let r = g.R.Work in
    let was = (g.W.Sink.output c.args.out.now).written in
    let then = (g.W.Sink.output c.answer_all.new.out).written in
    let now = (g.W.Sink.output c.write_heads.new.out).written in
    let P = r.plain (r.rules c.args.work.now) in
    let x = c.answer_all.new.work in
    let done : LinesDone r.told r.stands P r.ran r.later g.R.Roots.is_empty g.R.Roots.cause c.args.work.now _ (lines_of c.args.script.now) x c.answer_all.new.heads was then c.in_ok-refused.refused = rw c.new-heads.ensures at c.in_ok-refused.ensures.done in
    on_err_always c.from_residual-in_err-write_heads.result _
    (ends_cut r.told r.stands P r.ran r.later g.R.Roots.is_empty g.R.Roots.cause g.met.R.Work.later_same g.met.R.Work.later_then c.args.work.now (lines_of c.args.script.now) x c.answer_all.new.heads was then now c.in_ok-refused.refused
    (legal_by r.told r.stands r.ran r.later g.R.Roots.is_empty g.R.Roots.cause r.plain (r.rules c.args.work.now) (r.rules x) c.in_ok-refused.ensures.same x c.answer_all.new.heads c.in_ok-refused.ensures.legal) done c.in_err-write_heads.ensures.err)

pub returns-clause-done : goal.returns-clause-done
returns-clause-done g c =
    let r = g.R.Work in
    let was = (g.W.Sink.output c.args.out.now).written in
    let then = (g.W.Sink.output c.answer_all.new.out).written in
    let now = (g.W.Sink.output c.write_heads.new.out).written in
    let P = r.plain (r.rules c.args.work.now) in
    let x = c.answer_all.new.work in
    let done : LinesDone r.told r.stands P r.ran r.later g.R.Roots.is_empty g.R.Roots.cause c.args.work.now _ (lines_of c.args.script.now) x c.answer_all.new.heads was then c.in_ok-refused.refused = rw c.new-heads.ensures at c.in_ok-refused.ensures.done in
    script_done r.told r.stands P r.ran r.later g.R.Roots.is_empty g.R.Roots.cause g.met.R.Work.later_same g.met.R.Work.later_then c.args.work.now (lines_of c.args.script.now) x c.answer_all.new.heads was then now c.in_ok-refused.refused
    (legal_by r.told r.stands r.ran r.later g.R.Roots.is_empty g.R.Roots.cause r.plain (r.rules c.args.work.now) (r.rules x) c.in_ok-refused.ensures.same x c.answer_all.new.heads c.in_ok-refused.ensures.legal) done c.in_ok-write_heads.ensures.ok
