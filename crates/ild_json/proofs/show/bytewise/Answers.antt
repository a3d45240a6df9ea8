use Rattle.std.proofs.Common.{arith}
use Rattle.ild_json.proofs.Back.{rises_members}
use Rattle.ild_json.proofs.Shows.{sorted_held, held_more}
use Rattle.ild_json.proofs.show.bytewise.Goals as goal

pub loop-pair-preserved : goal.loop-pair-preserved
loop-pair-preserved c =
    held_more c.as_slice-pair-items.result.now c.loop-pair.pairs.items c.push.new.self.items c.loop-pair.pair-index _ (omega arith) c.pair-item.is c.loop-pair.invariant c.in_ok-push.ensures.items

pub returns : goal.returns
returns c =
    sorted_held c.as_slice-pair-items.result.now c.loop-pair.pairs.items c.sort_bytewise.new.pairs.items c.args.entries.now c.loop-pair.pair-index
    (rises_members c.args.entries.now c.len.ensures.well_formed) c.as_slice-pair-items.ensures (omega arith) c.loop-pair.invariant c.in_ok-sort_bytewise.ensures.same c.in_ok-sort_bytewise.ensures.order
