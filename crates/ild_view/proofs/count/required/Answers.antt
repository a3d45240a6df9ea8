use Rattle.std.proofs.Common.{arith}
use Rattle.ild_view.proofs.Counting.{required_most}
use Rattle.ild_view.proofs.count.required.Goals as goal

pub overflow_add-count : goal.overflow_add-count
overflow_add-count c = let most = required_most c.args.fields.now in omega (arith, most, c.loop-field.invariant, c.requires)
