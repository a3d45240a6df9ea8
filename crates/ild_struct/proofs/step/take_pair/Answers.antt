use Rattle.ild_struct.proofs.Stepping.{no_pair, pair_first, odd_pair}
use Rattle.ild_struct.proofs.step.take_pair.Goals as goal

pub returns-in_err-item-clause-takes : goal.returns-in_err-item-clause-takes
returns-in_err-item-clause-takes c = λ apart es h. rw c.from_residual.ensures (no_pair c.args.fields.now.def.now.fields es c.args.items c.next.new.self c.in_err-item.ensures.steps h)

pub returns-in-Entry-clause-takes : goal.returns-in-Entry-clause-takes
returns-in-Entry-clause-takes c = λ apart es h.
    pair_first c.args.fields.now.def.now.fields es c.args.items c.next.new.self c.in_ok-item.item c.in-Entry.name c.in-Entry.value c.place-place.result c.in_ok-item.ensures.steps h c.in-Entry.ensures apart (c.place-place.ensures.place apart)

pub returns-in-Odd-clause-takes : goal.returns-in-Odd-clause-takes
returns-in-Odd-clause-takes c = λ apart es h. odd_pair c.args.fields.now.def.now.fields es c.args.items c.next.new.self c.in_ok-item.item c.of.result c.in_ok-item.ensures.steps h c.of.ensures c.in-Odd.is
