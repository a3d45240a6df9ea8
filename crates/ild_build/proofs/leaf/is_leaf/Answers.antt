use Rattle.std.proofs.Common.{sym, ◌∙◌}
use Rattle.ild_build.proofs.Leaves.{leaf_value}
use Rattle.ild_build.proofs.leaf.is_leaf.Goals as goal

pub returns : goal.returns
returns c = λ e. leaf_value c.args.acc.now c.args.slot c.form_of.result.now c.form_of.ensures.same (sym c.is_bare.ensures ∙ e)
