use Rattle.ild_edges.proofs.Later.{Later-trans}
use Rattle.ild_dirty_tests.proofs.links.put_twice.Goals as goal

pub returns : goal.returns
returns g c = Later-trans _ _ _ c.put.ensures.later c.put-2.ensures.later
