use Rattle.std.proofs.Common.{Some, refl, ap, ◌∙◌}
use Rattle.ild_data.specs.Data as D
use Rattle.ild_value.proofs.Leaves.{any_means, text_means}
use Rattle.ild_value.proofs.scalar.text_value.Goals as goal

pub returns-in-Text-clause-ok : goal.returns-in-Text-clause-ok
returns-in-Text-clause-ok c = text_means c.args.acc.now c.args.slot c.args.text (c.form.ensures.form ∙ ap Some c.in-Text.is)

pub returns-in-Any-clause-ok : goal.returns-in-Any-clause-ok
returns-in-Any-clause-ok c = any_means c.args.acc.now c.args.slot (D.text c.args.text) (c.form.ensures.form ∙ ap Some c.in-Any.is) refl
