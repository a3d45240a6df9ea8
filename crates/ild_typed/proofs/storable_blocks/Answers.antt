use Rattle.ild_typed.proofs.TreeBlocks.{blocks_within}
use Rattle.ild_typed.proofs.storable_blocks.Goals as goal

pub returns : goal.returns
returns c = λ f frame h rows schema. blocks_within f frame h rows schema.table.texts.spelled
