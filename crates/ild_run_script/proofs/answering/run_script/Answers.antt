use Rattle.ild_run_script.proofs.Scripting.{scripts_done, scripts_cut}
use Rattle.ild_run_script.proofs.answering.run_script.Goals as goal

pub returns-in-Ok-answer_from : goal.returns-in-Ok-answer_from
returns-in-Ok-answer_from g c =
    scripts_done c.standing_are_at.ensures c.held_are_standing.ensures c.args.acc.now c.args.ty c.args.start c.args.script.now c.in-Ok.doc (g.K.Store.moment c.args.store.now) (g.K.Store.moment c.open.new.store) (g.K.Store.moment c.answer_from.new.store)
    (g.W.Sink.output c.args.out.now) (g.W.Sink.output c.answer_from.new.out) c.in-Ok.ensures c.in-Ok-answer_from.refused c.in-Ok-answer_from.ensures.done c.in-Ok-answer_from.ensures.faults

pub returns-in-Err-answer_from : goal.returns-in-Err-answer_from
returns-in-Err-answer_from g c =
    scripts_cut c.standing_are_at.ensures c.held_are_standing.ensures c.args.acc.now c.args.ty c.args.start c.args.script.now c.in-Ok.doc (g.K.Store.moment c.args.store.now) (g.K.Store.moment c.open.new.store) (g.K.Store.moment c.answer_from.new.store)
    (g.W.Sink.output c.args.out.now) (g.W.Sink.output c.answer_from.new.out) c.in-Ok.ensures c.in-Err-answer_from.cut c.in-Err-answer_from.ensures.part c.in-Err-answer_from.ensures.sink c.in-Err-answer_from.ensures.faults
