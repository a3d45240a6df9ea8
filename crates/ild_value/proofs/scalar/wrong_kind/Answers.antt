use Rattle.ild_value.proofs.Leaves.{kind_breaks}
use Rattle.ild_value.proofs.scalar.wrong_kind.Goals as goal

pub returns : goal.returns
returns c = λ rows t h. kind_breaks rows c.args.slot t h
