use Rattle.ild_edges.proofs.Later.{Later-trans}
use Rattle.ild_run.proofs.Beneathings.{beneath_later}
use Rattle.ild_run.proofs.beneath.run_root.Goals as goal

pub returns-in-Ok-take_input-clause-later : goal.returns-in-Ok-take_input-clause-later
returns-in-Ok-take_input-clause-later g c =
    let answered = c.answer_beneath.ensures in
    Later-trans _ _ _ c.in-Ok.ensures.names.reads.later (beneath_later _ _ _ c.as_slice.result.now _ (g.W.Sink.output c.args.out.now) answered.result _ answered.behind answered.scripts)
