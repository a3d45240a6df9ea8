use Rattle.std.proofs.Common.{sym, ◌∙◌}
use Rattle.ild_path_holder.proofs.Written.{no_implicit_part, view_leads}
use Rattle.ild_path_holder.proofs.part.part_steps.Goals as goal

pub returns-in-Some-clause-leads : goal.returns-in-Some-clause-leads
returns-in-Some-clause-leads c = λ f q d h.
    view_leads c.args.view.now f q d h c.args.segment.now c.schema.result.now c.slot.result c.in-Some.piece c.steps_to.result c.schema.ensures c.slot.ensures (sym c.in-Some.is ∙ c.piece.ensures) c.steps_to.ensures.leads

pub returns-in-None-clause-lifts : goal.returns-in-None-clause-lifts
returns-in-None-clause-lifts c = λ f q d h there partly out. no_implicit_part c.args.view.now f c.args.segment.now q h there (sym c.in-None.is ∙ c.piece.ensures)
