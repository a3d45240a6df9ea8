use Rattle.std.proofs.Common.{option_map, sym, ap, ◌∙◌}
use Rattle.ild_schema.specs.declared.number.TypeNo.{TypeNo}
use Rattle.ild_run.proofs.Movings.{opens_unmoved, opens_move}
use Rattle.ild_run.proofs.open.plan_move.Goals as goal

pub returns-in-Some : goal.returns-in-Some
returns-in-Some g c =
    rw c.text_of.ensures (opens_move (g.I.Inputs.supply c.args.inputs.now) c.args.schema c.args.ty c.args.root c.in-Some.number c.args.source (sym c.in-Some.ensures.named) c.in-Some.ensures.within)

pub returns : goal.returns
returns g c =
    opens_unmoved (g.I.Inputs.supply c.args.inputs.now) c.args.schema c.args.ty.now c.args.root.0 c.args.source (sym c.type_named.ensures.named ∙ ap (option_map (λ (n : TypeNo). n.0)) c.in-None.is)
