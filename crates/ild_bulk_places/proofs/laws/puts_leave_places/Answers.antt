use Rattle.ild_bulk_places.proofs.Putting.{puts_leave as law}
use Rattle.ild_bulk_places.proofs.laws.puts_leave_places.Goals as goal

pub returns : goal.returns
returns c = law
