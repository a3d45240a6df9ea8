use Rattle.std.proofs.Common.{◌∙◌, arith}
use Rattle.ild_script.specs.Line.{lines_of}
use Rattle.ild_script_session.specs.Lines.{lines_left}
use Rattle.ild_heads_run.proofs.Answered.{cut_by, done_by, so_far_cut, so_far_more}
use Rattle.ild_heads_run.proofs.Stopped.{on_err_always}
use Rattle.ild_heads_run.proofs.answering.answer_all.Goals as goal

pub loop-rest-preserved : goal.loop-rest-preserved
loop-rest-preserved g c =
    let r = g.R.Work in
    let was = (g.W.Sink.output c.args.out.now).written in
    let then = (g.W.Sink.output c.loop-rest.out).written in
    let now = (g.W.Sink.output c.answer_and_write.new.out).written in
    let same = c.in_ok-refused.ensures.same ∙ c.loop-rest.invariant.same in
    record {
      so_far = so_far_more r.told r.stands (r.plain (r.rules c.args.work.now)) r.ran r.later g.R.Roots.is_empty g.R.Roots.cause (lines_of c.args.script.now) c.cut_line.result.0.now (lines_left c.cut_line.result.1) (lines_left c.loop-rest.rest)
          c.args.work.now c.args.heads.now c.loop-rest.work c.loop-rest.heads c.answer_and_write.new.work c.answer_and_write.new.heads was then now c.loop-rest.refused c.in_ok-refused.field-0
          c.loop-rest.invariant.so_far (rw c.in-Some.is c.cut_line.ensures.cut)
          (done_by r.told r.stands r.ran r.later g.R.Roots.is_empty g.R.Roots.cause r.plain (r.rules c.args.work.now) (r.rules c.answer_and_write.new.work) same c.loop-rest.work c.loop-rest.heads c.cut_line.result.0.now c.answer_and_write.new.work c.answer_and_write.new.heads then now
          c.in_ok-refused.field-0 c.in_ok-refused.ensures.done);
      legal = c.in_ok-refused.ensures.legal;
      same = same;
      faults = omega arith;
    }

pub returns-in_err-refused-clause-part : goal.returns-in_err-refused-clause-part
returns-in_err-refused-clause-part g c =
    let r = g.R.Work in
    let was = (g.W.Sink.output c.args.out.now).written in
    let then = (g.W.Sink.output c.loop-rest.out).written in
    let now = (g.W.Sink.output c.answer_and_write.new.out).written in
    let same = c.in_err-refused.ensures.same ∙ c.loop-rest.invariant.same in
    on_err_always c.from_residual.result _
    (so_far_cut r.told r.stands (r.plain (r.rules c.args.work.now)) r.ran r.later g.R.Roots.is_empty g.R.Roots.cause (lines_of c.args.script.now) c.cut_line.result.0.now (lines_left c.cut_line.result.1) (lines_left c.loop-rest.rest)
    c.args.work.now c.args.heads.now c.loop-rest.work c.loop-rest.heads c.answer_and_write.new.work c.answer_and_write.new.heads was then now c.loop-rest.refused
    c.loop-rest.invariant.so_far (rw c.in-Some.is c.cut_line.ensures.cut)
    (cut_by r.told r.stands r.ran r.later g.R.Roots.is_empty g.R.Roots.cause r.plain (r.rules c.args.work.now) (r.rules c.answer_and_write.new.work) same c.loop-rest.work c.loop-rest.heads c.cut_line.result.0.now c.answer_and_write.new.work c.answer_and_write.new.heads then now
    c.in_err-refused.ensures.part))
