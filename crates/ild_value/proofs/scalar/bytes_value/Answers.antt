use Rattle.std.proofs.Common.{Some, refl, ap, ◌∙◌}
use Rattle.ild_data.specs.Data as D
use Rattle.ild_value.proofs.Leaves.{any_means, bytes_means}
use Rattle.ild_value.proofs.scalar.bytes_value.Goals as goal

pub returns-in-Bytes-clause-ok : goal.returns-in-Bytes-clause-ok
returns-in-Bytes-clause-ok c = bytes_means c.args.acc.now c.args.slot c.args.bytes (c.form.ensures.form ∙ ap Some c.in-Bytes.is)

pub returns-in-Any-clause-ok : goal.returns-in-Any-clause-ok
returns-in-Any-clause-ok c = any_means c.args.acc.now c.args.slot (D.bytes c.args.bytes) (c.form.ensures.form ∙ ap Some c.in-Any.is) refl
