use Rattle.ild_open.proofs.Carrying.{flat_kind}
use Rattle.ild_open.proofs.loading.is_nest.Goals as goal

pub returns-in_default : goal.returns-in_default
returns-in_default c = λ no t stands. flat_kind c.kind.result c.in_default.not-List c.in_default.not-Map t (c.kind.ensures t stands)
