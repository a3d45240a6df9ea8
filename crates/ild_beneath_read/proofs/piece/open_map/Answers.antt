use Rattle.ild_beneath_read.proofs.Opening.{map_parted, pairs_parted}
use Rattle.ild_beneath_read.proofs.piece.open_map.Goals as goal

pub returns-in-Some-clause-parted : goal.returns-in-Some-clause-parted
returns-in-Some-clause-parted c = λ t stands. map_parted c.args.form.now c.args.value t c.in-Some.entries c.in-Map.is (c.in-Some.ensures t stands)

pub returns-in-Some-items-clause-parted : goal.returns-in-Some-items-clause-parted
returns-in-Some-items-clause-parted c = λ t stands. pairs_parted c.args.form.now c.args.value t c.in-Some-items.items c.in-ListPairs.is (c.in-Some-items.ensures c.args.acc.now t stands)
