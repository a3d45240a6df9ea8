use Rattle.ild_view_walk.proofs.Finding.{enum_plain}
use Rattle.ild_view_walk.proofs.scalar.open_enum.Goals as goal

pub returns-in-Ok-clause-opens : goal.returns-in-Ok-clause-opens
returns-in-Ok-clause-opens c = λ d t stands is.
    enum_plain c.args.acc.now c.recall.ensures.legible c.args.ty.0 c.args.room d c.args.piece.now t c.in-Ok.field-0 is c.requires.form stands (c.in-Ok.ensures.answer t stands)
