use Rattle.std.proofs.Common.{◌∙◌}
use Rattle.ild_schema.specs.Clashes.{is_field_again}
use Rattle.ild_accept_rules.proofs.Among.{field_judged}
use Rattle.ild_accept_rules.proofs.Stepping.{beside_found, beside_next}
use Rattle.ild_accept_rules.proofs.clash.field_again.Goals as goal

pub returns-then-is_field_again : goal.returns-then-is_field_again
returns-then-is_field_again c =
    beside_found is_field_again (λ f. f.at) c.args.def.now.fields c.loop-part.part c.field-item.result _ (rw c.as_slice-field-items.ensures at c.loop-part-test.true) (rw c.as_slice-field-items.ensures at c.field-item.is)
    (field_judged c.args.schema.now c.args.ty.0 c.loop-part.part c.args.def.now c.field-item.result c.is_field_again.result c.requires.def c.is_field_again.ensures ∙ c.if-is_field_again.true) c.loop-part.invariant

pub loop-part-preserved : goal.loop-part-preserved
loop-part-preserved c =
    beside_next is_field_again (λ f. f.at) c.args.def.now.fields c.loop-part.part c.field-item.result _ (rw c.as_slice-field-items.ensures at c.loop-part-test.true) (rw c.as_slice-field-items.ensures at c.field-item.is)
    (field_judged c.args.schema.now c.args.ty.0 c.loop-part.part c.args.def.now c.field-item.result c.is_field_again.result c.requires.def c.is_field_again.ensures ∙ c.if-is_field_again.false) c.loop-part.invariant
