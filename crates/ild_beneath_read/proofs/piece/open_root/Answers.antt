use Rattle.ild_beneath_read.proofs.Opening.{no_root, root_opens}
use Rattle.ild_beneath_read.proofs.piece.open_root.Goals as goal

pub returns-in-Some-clause-root : goal.returns-in-Some-clause-root
returns-in-Some-clause-root c = λ t stands. root_opens c.args.value t c.in-Some.node (c.in-Some.ensures t stands)

pub returns-in-None-clause-root : goal.returns-in-None-clause-root
returns-in-None-clause-root c = λ t stands. no_root c.args.value t (c.in-None.ensures t stands)
