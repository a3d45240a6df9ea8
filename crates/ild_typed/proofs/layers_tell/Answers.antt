use Rattle.ild_typed.specs.Hamt.{alone}
use Rattle.ild_typed.proofs.Composing.{alone_tells, composed_tells}
use Rattle.ild_typed.proofs.layers_tell.Goals as goal

pub returns : goal.returns
returns c = composed_tells alone alone_tells
