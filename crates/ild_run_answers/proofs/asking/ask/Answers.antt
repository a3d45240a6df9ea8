use Rattle.ild_run_answers.proofs.asking.ask.Goals as goal

pub returns-in-Ins-clause-asks : goal.returns-in-Ins-clause-asks
returns-in-Ins-clause-asks g c = rw c.in-Ins.is (tt, c.change-in-Ins.ensures)

pub returns-in-Rep-clause-asks : goal.returns-in-Rep-clause-asks
returns-in-Rep-clause-asks g c = rw c.in-Rep.is (tt, c.tell-in-Rep.ensures)
