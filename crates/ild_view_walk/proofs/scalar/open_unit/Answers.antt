use Rattle.ild_view_walk.proofs.Finding.{unit_plain, unit_deep}
use Rattle.ild_view_walk.proofs.scalar.open_unit.Goals as goal

pub returns-else-room-lt1-clause-opens : goal.returns-else-room-lt1-clause-opens
returns-else-room-lt1-clause-opens c = λ d t stands is.
    unit_plain c.args.acc.now c.recall.ensures.legible c.args.ty.0 c.args.room d c.args.piece.now t is c.requires.form stands c.if-room-lt1.false (c.in-Ok.ensures t stands)

pub returns-then-room-lt1-clause-opens : goal.returns-then-room-lt1-clause-opens
returns-then-room-lt1-clause-opens c = λ d t stands is.
    unit_deep c.args.acc.now c.recall.ensures.legible c.args.ty.0 c.args.room d c.args.piece.now t is c.requires.form stands c.if-room-lt1.true (c.in-Ok.ensures t stands)
