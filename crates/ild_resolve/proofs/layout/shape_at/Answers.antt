use Rattle.ild_resolve.proofs.Layouts.{shape-made}
use Rattle.ild_resolve.proofs.layout.shape_at.Goals as goal

pub returns : goal.returns
returns c = shape-made c.args.width c.args.bucket c.new.result c.new.ensures
