use Rattle.std.proofs.Common.{◌<◌, arith}
use Rattle.std.proofs.Common.{length}
use Rattle.ild_view_walk.proofs.Structing.{fields_low, struct_deep, struct_opens, under}
use Rattle.ild_view_walk.proofs.structs.open_struct.Goals as goal

pub returns-in_default-clause-opens : goal.returns-in_default-clause-opens
returns-in_default-clause-opens c = λ t stands.
    struct_deep c.args.acc.now c.recall.ensures.legible c.args.ty.0 c.args.room c.args.def.now c.requires.known c.args.piece.now t stands c.in-Ok.parts (c.in-Ok.ensures.parts t stands)
    (under c.args.room c.levels.result _ c.levels.ensures.same c.in_default.ensures)

pub returns-clause-opens : goal.returns-clause-opens
returns-clause-opens c = λ t stands.
    struct_opens c.args.acc.now c.recall.ensures.legible c.args.ty.0 c.args.room c.args.def.now c.requires.known c.args.piece.now t stands c.in-Ok.parts (c.in-Ok.ensures.parts t stands)
    c.in-Some.room c.of.result (c.of.ensures.has c.args.acc.now c.recall.ensures.legible c.args.ty.0 t c.requires.known (c.in-Ok.ensures.parts t stands)) (omega (arith, c.in-Some.ensures, c.levels.ensures.same))

pub returns-clause-ready : goal.returns-clause-ready
returns-clause-ready c =
    let less : c.in-Some.room < c.args.room = omega (arith, c.in-Some.ensures, c.levels.ensures.some) in
    (c.of.ensures.ready c.args.acc.now (fields_low (length c.args.acc.now) c.args.def.now.fields c.requires.parts.1), less)
