use Rattle.ild_bulk_places.proofs.Ordering.{plans as law}
use Rattle.ild_bulk_places.proofs.laws.plans_follow_places.Goals as goal

pub returns : goal.returns
returns c = law
