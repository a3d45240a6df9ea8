use Rattle.std.proofs.Common.{[], subst}
use Rattle.ild_data.specs.Spell.{spell}
use Rattle.ild_path_block.specs.Edits.{IsNewRoot}
use Rattle.ild_path_block.proofs.along.at_root.Goals as goal

pub returns-in-Set-clause-set : goal.returns-in-Set-clause-set
returns-in-Set-clause-set c = λ t u at new. c.block.ensures.made (spell u) ((c.replace.ensures u (subst (λ e. IsNewRoot e u) c.in-Set.is new)).makes t t [] at)
