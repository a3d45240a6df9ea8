use Rattle.ild_beneath_read.proofs.Opening.{list_parted, no_list}
use Rattle.ild_beneath_read.proofs.piece.open_list.Goals as goal

pub returns-in-Some-clause-parted : goal.returns-in-Some-clause-parted
returns-in-Some-clause-parted c = λ rows at t stands. list_parted c.args.elem at t c.in-Some.items (c.in-Some.ensures rows t stands)

pub returns-in-None-clause-parted : goal.returns-in-None-clause-parted
returns-in-None-clause-parted c = λ rows at t stands. no_list c.args.elem at t (c.in-None.ensures rows t stands)
