use Rattle.std.proofs.Common.{◌<◌, ◌^◌, arith, rules, subst}
use Rattle.ild_cbor.specs.declared.piece.Piece.TheVariants as P
use Rattle.ild_view_walk.specs.Told.{TellsPlaceIn}
use Rattle.ild_view_walk.proofs.Telling.{told_in_block}
use Rattle.ild_view_walk.proofs.check.in_block.Goals as goal

pub returns-in-Shape-clause-place : goal.returns-in-Shape-clause-place
returns-in-Shape-clause-place c = λ rows room s t stands tells.
    let bound : c.args.node.now.to < 2 ^ 64 = omega arith in
    told_in_block rows room s c.args.node.now t c.in-Shape.ty c.in-Shape.why c.in-Shape.at _ stands bound
    (subst (TellsPlaceIn rows room s (P.Node c.args.node.now) t) c.in-Shape.is tells) c.span.result.0 c.span.ensures.start (search rules)
