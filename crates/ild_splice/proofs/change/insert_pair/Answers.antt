use Rattle.ild_splice.proofs.Listed.{pair_spelled}
use Rattle.ild_splice.specs.Splices.{pair_of}
use Rattle.ild_splice.proofs.change.insert_pair.Goals as goal

pub returns : goal.returns
returns c = λ e stands. c.with_item.ensures e (pair_of c.args.key.now e) stands (pair_spelled c.args.key.now e)
