use Rattle.ild_path_holder.proofs.along.steps_along.Goals as goal

pub returns-in-Some : goal.returns-in-Some
returns-in-Some c = λ f s ss l v is at holds. (rw c.in-Some.is at (c.in_ok-last.ensures f s ss l v is at holds)).lead

pub returns-in-None : goal.returns-in-None
returns-in-None c = λ f s ss l v is at holds. rw c.in-None.is at (c.in_ok-last.ensures f s ss l v is at holds)
