use Rattle.ild_path_judged.proofs.Order.{refused_in_order, unrefused_have_data}
use Rattle.ild_path_judged.proofs.laws.changes_are_refused_in_order.Goals as goal

pub returns : goal.returns
returns c = record { first = refused_in_order; «data» = unrefused_have_data }
