use Rattle.std.proofs.Common.{option_map, Ok, Err, sym, ap, ◌∙◌}
use Rattle.ild_schema.specs.declared.number.TypeNo.{TypeNo}
use Rattle.ild_run.proofs.Weighables.{opens_unproved, opens_proof}
use Rattle.ild_run.proofs.open.plan_proof.Goals as goal

pub returns-in_default : goal.returns-in_default
returns-in_default g c =
    opens_unproved (g.I.Inputs.supply c.args.inputs.now) c.args.schema c.args.ty.now c.args.root.0 c.args.path.now c.args.proof.now (sym c.type_named.ensures.named ∙ ap (option_map (λ (n : TypeNo). n.0)) c.in_default.is)

pub returns-in-Ok : goal.returns-in-Ok
returns-in-Ok g c =
    opens_proof (g.I.Inputs.supply c.args.inputs.now) (g.I.Inputs.supply c.take_input.new.inputs) c.args.schema c.args.ty.now c.args.proof.now c.in-Some.number c.args.root c.args.path (Ok c.in-Ok.bytes)
    (sym c.in-Some.ensures.named) c.in-Some.ensures.within c.in-Ok.ensures

pub returns : goal.returns
returns g c =
    opens_proof (g.I.Inputs.supply c.args.inputs.now) (g.I.Inputs.supply c.take_input.new.inputs) c.args.schema c.args.ty.now c.args.proof.now c.in-Some.number c.args.root c.args.path (Err c.in-Err.fault)
    (sym c.in-Some.ensures.named) c.in-Some.ensures.within c.in-Err.ensures
