use Rattle.std.proofs.Common.{option_map, sym, ap, ◌∙◌}
use Rattle.ild_schema.specs.declared.number.TypeNo.{TypeNo}
use Rattle.ild_run.proofs.Pairings.{types_found, none_first, none_later}
use Rattle.ild_run.proofs.open.plan_types.Goals as goal

pub returns-in_default : goal.returns-in_default
returns-in_default c = none_first c.args.schema c.args.next c.args.ty.now (sym c.type_named.ensures.named ∙ ap (option_map (λ (n : TypeNo). n.0)) c.in_default.is)

pub returns-in-Some-type_named : goal.returns-in-Some-type_named
returns-in-Some-type_named c = types_found c.args.schema c.args.next c.args.ty.now c.in-Some.number c.in-Some-type_named.later (sym c.in-Some.ensures.named) (sym c.in-Some-type_named.ensures.named) c.in-Some.ensures.within c.in-Some-type_named.ensures.within

pub returns : goal.returns
returns c = none_later c.args.schema c.args.next c.args.ty.now c.in-Some.number.0 (sym c.in-Some.ensures.named) (sym c.type_named-2.ensures.named ∙ ap (option_map (λ (n : TypeNo). n.0)) c.in-None.is)
