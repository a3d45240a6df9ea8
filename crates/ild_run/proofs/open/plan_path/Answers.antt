use Rattle.std.proofs.Common.{option_map, sym, ap, ◌∙◌}
use Rattle.ild_schema.specs.declared.number.TypeNo.{TypeNo}
use Rattle.ild_run.proofs.Seekings.{opens_pathless, opens_path}
use Rattle.ild_run.proofs.open.plan_path.Goals as goal

pub returns-in-Some : goal.returns-in-Some
returns-in-Some g c =
    opens_path (g.I.Inputs.supply c.args.inputs.now) c.args.schema c.args.ty.now c.args.root c.args.path c.in-Some.number (sym c.in-Some.ensures.named) c.in-Some.ensures.within

pub returns : goal.returns
returns g c =
    opens_pathless (g.I.Inputs.supply c.args.inputs.now) c.args.schema c.args.ty.now c.args.root.0 c.args.path.now (sym c.type_named.ensures.named ∙ ap (option_map (λ (n : TypeNo). n.0)) c.in-None.is)
