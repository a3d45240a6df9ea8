use Rattle.ild_dirty.proofs.walk.see.Goals as goal

pub returns-clause-seen : goal.returns-clause-seen
returns-clause-seen c = λ s. c.in_ok-insert.ensures.updates.0 s
