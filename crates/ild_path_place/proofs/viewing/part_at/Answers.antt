use Rattle.std.proofs.Common.{◌∙◌, ap}
use Rattle.std.specs.Prelude.{Ok}
use Rattle.ild_path_place.proofs.Showing.{part_told, view_here}
use Rattle.ild_view.specs.declared.step.Step.{Step}
use Rattle.ild_path_place.proofs.viewing.part_at.Goals as goal

pub returns-in-Ok-Here : goal.returns-in-Ok-Here
returns-in-Ok-Here c = part_told c.args.view.now c.args.path.now c.at.result _ c.at.ensures (ap view_here c.in-Ok-Here.is ∙ ap (λ (s : Step). view_here (Ok s)) c.in-Ok-Here.field-0-is)

pub returns-in-Ok-Enter : goal.returns-in-Ok-Enter
returns-in-Ok-Enter c = part_told c.args.view.now c.args.path.now c.at.result _ c.at.ensures (ap view_here c.in-Ok-Enter.is ∙ ap (λ (s : Step). view_here (Ok s)) c.in-Ok-Enter.field-0-is)

pub returns-in-Err : goal.returns-in-Err
returns-in-Err c = part_told c.args.view.now c.args.path.now c.at.result _ c.at.ensures (ap view_here c.in-Err.is)
