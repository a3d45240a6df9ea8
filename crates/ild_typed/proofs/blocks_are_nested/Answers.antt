use Rattle.ild_typed.proofs.TreeBlocks.{blocks_nested}
use Rattle.ild_typed.proofs.blocks_are_nested.Goals as goal

pub returns : goal.returns
returns c = λ h rows schema. blocks_nested h rows schema.table.texts.spelled
