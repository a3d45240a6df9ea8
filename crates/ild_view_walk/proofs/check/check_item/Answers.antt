use Rattle.ild_view_walk.proofs.check.check_item.Goals as goal

pub returns-in-Err-clause-checks : goal.returns-in-Err-clause-checks
returns-in-Err-clause-checks c = λ t stands. c.in_block.ensures.faults c.args.acc.now c.args.room c.args.slot t (c.in-Err.ensures.checks t stands stands.within.tree)

pub returns-in-Err-clause-place : goal.returns-in-Err-clause-place
returns-in-Err-clause-place c = λ t stands. c.in_block.ensures.place c.args.acc.now c.args.room c.args.slot t stands (c.in-Err.ensures.place t stands stands.within.tree)
