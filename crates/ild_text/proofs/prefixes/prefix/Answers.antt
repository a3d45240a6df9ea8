use Rattle.ild_schema.specs.Marks.{mark_text}
use Rattle.ild_text.proofs.Behind.{none_more, none_all}
use Rattle.ild_text.proofs.prefixes.prefix.Goals as goal

pub loop-n-preserved : goal.loop-n-preserved
loop-n-preserved c = none_more mark_text c.args.def.now.members c.as_slice-members.result.now c.args.text.now c.loop-n.n c.index-members-n.result c.as_slice-members.ensures c.loop-n-test.true c.in_default.ensures c.loop-n.invariant

pub returns : goal.returns
returns c = none_all mark_text c.args.def.now.members c.as_slice-members.result.now c.args.text.now c.loop-n.n c.as_slice-members.ensures c.loop-n-test.false c.loop-n.invariant
