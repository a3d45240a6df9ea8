use Rattle.ild_script.specs.Line.{lines_of}
use Rattle.ild_run_script.proofs.Scripting.{lines_done, lines_cut}
use Rattle.ild_run_script.proofs.answering.answer_from.Goals as goal

pub returns-clause-done : goal.returns-clause-done
returns-clause-done g c =
    let was = c.of-session.result in
    let now = c.answer_all.new.session in
    lines_done was now c.args.doc c.of-session.ensures.doc c.of-session.ensures.begun c.of-session.ensures.own c.answer_all.ensures.same
    (g.K.Store.moment c.args.store.now) (lines_of c.args.script.now) (g.K.Store.moment c.answer_all.new.store) (g.W.Sink.output c.args.out.now).written (g.W.Sink.output c.answer_all.new.out).written c.answer_all.result c.answer_all.ensures.done

pub returns-clause-part : goal.returns-clause-part
returns-clause-part g c =
    let was = c.of-session.result in
    let now = c.answer_all.new.session in
    lines_cut was now c.args.doc c.of-session.ensures.doc c.of-session.ensures.begun c.of-session.ensures.own c.answer_all.ensures.same
    (g.K.Store.moment c.args.store.now) (lines_of c.args.script.now) (g.K.Store.moment c.answer_all.new.store) (g.W.Sink.output c.args.out.now).written (g.W.Sink.output c.answer_all.new.out).written c.answer_all.result c.answer_all.ensures.part
