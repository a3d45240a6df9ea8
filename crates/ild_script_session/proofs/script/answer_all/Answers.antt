use Rattle.std.proofs.Common.{Result, Ok, Err, OnErr, refl, ◌∙◌, arith}
use Rattle.ild_script.specs.Line.{lines_of}
use Rattle.ild_script_session.specs.Lines.{lines_left, LineDone, LineCut}
use Rattle.ild_script_session.specs.Session.{Meaning, Stage}
use Rattle.ild_script_session.proofs.Runs.{so_far_none, so_far_more, so_far_cut}
use Rattle.ild_script_session.proofs.script.answer_all.Goals as goal

on_err_always : {T E : Type 0} (r : Result T E) (P : Type 0) → P → OnErr r P
on_err_always (Ok x) P p = tt
on_err_always (Err e) P p = p

pub loop-rest-smaller : goal.loop-rest-smaller
loop-rest-smaller g c = rw c.in-Some.is (omega (arith, c.cut_line.ensures.less))

pub loop-rest-init : goal.loop-rest-init
loop-rest-init g c = record {
  so_far = so_far_none (g.S.Session.stands c.args.session.now (g.K.Store.moment c.args.store.now)) g.S.Session.passes c.args.session.now (lines_of c.args.script.now) (g.K.Store.moment c.args.store.now) (g.W.Sink.output c.args.out.now).written;
  ready = c.requires;
  same = refl;
  faults = omega arith;
}

pub loop-rest-preserved : goal.loop-rest-preserved
loop-rest-preserved g c =
    let m = g.K.Store.moment c.args.store.now in
    let n = g.K.Store.moment c.loop-rest.store in
    let o = g.K.Store.moment c.answer_and_write.new.store in
    let Stood : Meaning g.S.Session.Value → Stage g.S.Session.Value → Type 0 = g.S.Session.stands c.args.session.now m in
    let Stands : Meaning g.S.Session.Value → Stage g.S.Session.Value → Type 0 = g.S.Session.stands c.loop-rest.session n in
    let Then : Meaning g.S.Session.Value → Stage g.S.Session.Value → Type 0 = g.S.Session.stands c.answer_and_write.new.session o in
    let was = (g.W.Sink.output c.args.out.now).written in
    let then = (g.W.Sink.output c.loop-rest.out).written in
    let now = (g.W.Sink.output c.answer_and_write.new.out).written in
    let one : LineDone Stands Then g.S.Session.passes c.loop-rest.session c.answer_and_write.new.session n c.cut_line.result.0.now o then now c.in_ok-refused.field-0 = c.in_ok-refused.ensures.done in record {
      so_far = so_far_more Stood g.S.Session.passes c.args.session.now Stands Then c.loop-rest.session c.answer_and_write.new.session (lines_of c.args.script.now) c.cut_line.result.0.now (lines_left c.cut_line.result.1) (lines_left c.loop-rest.rest) m n o
          was then now c.loop-rest.refused c.in_ok-refused.field-0
          c.loop-rest.invariant.so_far (rw c.in-Some.is c.cut_line.ensures.cut) one;
      ready = c.in_ok-refused.ensures.stays;
      same = c.in_ok-refused.ensures.same ∙ c.loop-rest.invariant.same;
      faults = omega arith;
    }

pub answer_and_write-requires : goal.answer_and_write-requires
answer_and_write-requires g c = c.loop-rest.invariant.ready

pub returns-in_err-refused-clause-part : goal.returns-in_err-refused-clause-part
returns-in_err-refused-clause-part g c =
    let m = g.K.Store.moment c.args.store.now in
    let n = g.K.Store.moment c.loop-rest.store in
    let o = g.K.Store.moment c.answer_and_write.new.store in
    let Stood : Meaning g.S.Session.Value → Stage g.S.Session.Value → Type 0 = g.S.Session.stands c.args.session.now m in
    let Stands : Meaning g.S.Session.Value → Stage g.S.Session.Value → Type 0 = g.S.Session.stands c.loop-rest.session n in
    let Then : Meaning g.S.Session.Value → Stage g.S.Session.Value → Type 0 = g.S.Session.stands c.answer_and_write.new.session o in
    let was = (g.W.Sink.output c.args.out.now).written in
    let then = (g.W.Sink.output c.loop-rest.out).written in
    let now = (g.W.Sink.output c.answer_and_write.new.out).written in
    let one : LineCut Stands Then g.S.Session.passes c.loop-rest.session c.answer_and_write.new.session n c.cut_line.result.0.now o then now = c.in_err-refused.ensures.part in
    let cut = so_far_cut Stood g.S.Session.passes c.args.session.now Stands Then c.loop-rest.session c.answer_and_write.new.session (lines_of c.args.script.now) c.cut_line.result.0.now (lines_left c.cut_line.result.1) (lines_left c.loop-rest.rest) m n o
    was then now c.loop-rest.refused
    c.loop-rest.invariant.so_far (rw c.in-Some.is c.cut_line.ensures.cut) one in
    on_err_always c.from_residual.result _ cut
