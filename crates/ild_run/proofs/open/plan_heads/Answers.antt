use Rattle.std.proofs.Common.{option_map, Ok, Err, sym, ap, ◌∙◌}
use Rattle.ild_schema.specs.declared.number.TypeNo.{TypeNo}
use Rattle.ild_run.proofs.Headings.{opens_headless, opens_heads}
use Rattle.ild_run.proofs.open.plan_heads.Goals as goal

pub returns-in_default : goal.returns-in_default
returns-in_default g c =
    opens_headless (g.I.Inputs.supply c.args.inputs.now) c.args.schema c.args.ty.now c.args.script.now (sym c.type_named.ensures.named ∙ ap (option_map (λ (n : TypeNo). n.0)) c.in_default.is)

pub returns-in-Ok : goal.returns-in-Ok
returns-in-Ok g c =
    opens_heads (g.I.Inputs.supply c.args.inputs.now) (g.I.Inputs.supply c.take_input.new.inputs) c.args.schema c.args.ty.now c.args.script.now c.in-Some.number (Ok c.in-Ok.bytes)
    (sym c.in-Some.ensures.named) c.in-Some.ensures.within c.in-Ok.ensures

pub returns : goal.returns
returns g c =
    opens_heads (g.I.Inputs.supply c.args.inputs.now) (g.I.Inputs.supply c.take_input.new.inputs) c.args.schema c.args.ty.now c.args.script.now c.in-Some.number (Err c.in-Err.fault)
    (sym c.in-Some.ensures.named) c.in-Some.ensures.within c.in-Err.ensures
