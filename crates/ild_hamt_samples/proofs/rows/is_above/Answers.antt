use Rattle.ild_hamt_samples.proofs.Above.{above-got}
use Rattle.ild_hamt_samples.proofs.rows.is_above.Goals as goal

pub returns-in-Some : goal.returns-in-Some
returns-in-Some c = λ holds. above-got c.args.rows.now c.args.key.now c.in-Some.last.now c.in-Some.field-0-1.now c.len.result c.is_less.result c.len.ensures.count c.in-Some.ensures c.is_less.ensures holds
