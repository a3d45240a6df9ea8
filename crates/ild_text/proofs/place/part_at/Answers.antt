use Rattle.std.proofs.Common.{rules}
use Rattle.ild_text.proofs.Walks.{walk_goes, walk_fails, walk_finds, walk_ends}
use Rattle.ild_text.proofs.place.part_at.Goals as goal

pub returns-in-None : goal.returns-in-None
returns-in-None c = walk_fails c.args.delim.now c.args.text.now c.loop.rest.now c.requires c.in-None.ensures c.args.i c.loop.counter c.loop-test.true c.loop.invariant.1

pub loop-preserved : goal.loop-preserved
loop-preserved c = (
  search rules,
  walk_goes c.args.delim.now c.args.text.now c.loop.rest.now _ c.in-Some.behind.now c.requires c.in-Some.ensures c.args.i c.loop.counter c.loop-test.true c.loop.invariant.1,
)

pub returns-in-Some-halves : goal.returns-in-Some-halves
returns-in-Some-halves c = walk_finds c.args.delim.now c.args.text.now c.loop.rest.now c.in-Some-halves.part.now _ c.requires c.in-Some-halves.ensures c.args.i c.loop.counter c.loop-test.false c.loop.invariant.1

pub returns-in-None-halves : goal.returns-in-None-halves
returns-in-None-halves c = walk_ends c.args.delim.now c.args.text.now c.loop.rest.now c.requires c.in-None-halves.ensures c.args.i c.loop.counter c.loop-test.false c.loop.invariant.1
