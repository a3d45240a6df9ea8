use Rattle.std.proofs.Common.{Some, refl, ap, ◌∙◌}
use Rattle.ild_data.specs.Data as D
use Rattle.ild_value.proofs.Leaves.{any_means}
use Rattle.ild_value.proofs.scalar.integer_value.Goals as goal

pub returns-in-Any-clause-ok : goal.returns-in-Any-clause-ok
returns-in-Any-clause-ok c = any_means c.args.acc.now c.args.slot (D.integer c.args.n) (c.form.ensures.form ∙ ap Some c.in-Any.is) refl
