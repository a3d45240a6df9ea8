use Rattle.ild_text.proofs.Counts.{counting_goes, counting_ends}
use Rattle.ild_text.proofs.place.count_parts.Goals as goal

pub loop-at-preserved : goal.loop-at-preserved
loop-at-preserved c = counting_goes c.args.delim.now c.args.text.now c.loop-at.from c.loop-at.free c.loop-at.count c.in-Some.at c.requires c.loop-at.invariant c.in-Some.ensures c.if-at-free.false

pub returns-clause-parts : goal.returns-clause-parts
returns-clause-parts c = counting_ends c.args.delim.now c.args.text.now c.loop-at.from c.loop-at.free c.loop-at.count c.requires c.loop-at.invariant c.in_default.ensures
