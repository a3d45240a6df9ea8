use Rattle.ild_named_scripts.proofs.Adding.{adds_alike}
use Rattle.ild_named_scripts.proofs.lines_add_alike.Goals as goal

pub returns : goal.returns
returns c = adds_alike
