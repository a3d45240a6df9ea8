use Rattle.std.proofs.Common.{rules, ap, arith, length}
use Rattle.ild_text.proofs.Cuts.{cut_some}
use Rattle.ild_text.proofs.Firsts.{first_part, only_part}
use Rattle.ild_text.proofs.Keyed.{back_shorter}
use Rattle.ild_path_text.proofs.Cutting.{cut_few}
use Rattle.ild_path_text.proofs.left.count_parts.Goals as goal

pub overflow_add-count : goal.overflow_add-count
overflow_add-count c =
    let few = cut_few c.args.delim.now c.args.text.now 0 in
    let some = cut_some c.args.delim.now c.loop-behind.rest.now 0 in
    let so_far = c.loop-behind.invariant.1 in
    search rules

pub loop-behind-smaller : goal.loop-behind-smaller
loop-behind-smaller c = back_shorter c.args.delim.now c.loop-behind.rest.now c.in-Some.field-0-0.now c.in-Some.behind.now c.requires c.in-Some.ensures

pub loop-behind-preserved : goal.loop-behind-preserved
loop-behind-preserved c = (
  search rules,
  omega (arith, c.loop-behind.invariant.1, ap length (first_part c.args.delim.now c.loop-behind.rest.now c.in-Some.field-0-0.now c.in-Some.behind.now c.requires c.in-Some.ensures)),
)

pub returns-clause-counted : goal.returns-clause-counted
returns-clause-counted c = omega (arith, c.loop-behind.invariant.1, ap length (only_part c.args.delim.now c.loop-behind.rest.now c.requires c.in_default.ensures))

pub returns-clause-few : goal.returns-clause-few
returns-clause-few c =
    let few = cut_few c.args.delim.now c.args.text.now 0 in
    let last = ap length (only_part c.args.delim.now c.loop-behind.rest.now c.requires c.in_default.ensures) in
    let so_far = c.loop-behind.invariant.1 in
    search rules
