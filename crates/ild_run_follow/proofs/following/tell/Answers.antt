use Rattle.ild_run_follow.proofs.following.tell.Goals as goal

pub returns-clause-refused : goal.returns-clause-refused
returns-clause-refused g c = c.tell_from.ensures.refused
