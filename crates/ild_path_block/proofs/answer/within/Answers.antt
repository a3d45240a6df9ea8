use Rattle.ild_path_replaced.specs.Seen.{all_steps}
use Rattle.ild_path_block.proofs.Replacing.{part_comes}
use Rattle.ild_path_block.proofs.answer.within.Goals as goal

pub returns-in-Some : goal.returns-in-Some
returns-in-Some c = λ t d x u at there not new. c.block.ensures.made _ ((c.applied.ensures x u (part_comes c.args.change.now c.args.new x u not new)).makes t d (all_steps c.args.steps.now) (c.in-Some.ensures t d at there))
