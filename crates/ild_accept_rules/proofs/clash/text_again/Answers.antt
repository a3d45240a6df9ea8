use Rattle.std.proofs.Common.{◌∙◌}
use Rattle.ild_schema.specs.declared.def.EnumForm.TheVariants as E
use Rattle.ild_schema.specs.Clashes.{is_value_again}
use Rattle.ild_accept_rules.proofs.Among.{text_judged}
use Rattle.ild_accept_rules.proofs.Stepping.{beside_found, beside_next}
use Rattle.ild_accept_rules.proofs.clash.text_again.Goals as goal

pub returns-then-is_text_again : goal.returns-then-is_text_again
returns-then-is_text_again c =
    beside_found (is_value_again E.Text) (λ m. m.at) c.args.def.now.members c.loop-part.part c.member-item.result _ (rw c.as_slice-member-items.ensures at c.loop-part-test.true) (rw c.as_slice-member-items.ensures at c.member-item.is)
    (text_judged c.args.schema.now c.args.ty.0 c.loop-part.part c.args.def.now c.member-item.result c.is_text_again.result c.requires.def c.is_text_again.ensures ∙ c.if-is_text_again.true) c.loop-part.invariant

pub loop-part-preserved : goal.loop-part-preserved
loop-part-preserved c =
    beside_next (is_value_again E.Text) (λ m. m.at) c.args.def.now.members c.loop-part.part c.member-item.result _ (rw c.as_slice-member-items.ensures at c.loop-part-test.true) (rw c.as_slice-member-items.ensures at c.member-item.is)
    (text_judged c.args.schema.now c.args.ty.0 c.loop-part.part c.args.def.now c.member-item.result c.is_text_again.result c.requires.def c.is_text_again.ensures ∙ c.if-is_text_again.false) c.loop-part.invariant
