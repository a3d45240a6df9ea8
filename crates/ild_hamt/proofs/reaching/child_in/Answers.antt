use Rattle.ild_hamt.proofs.reaching.child_in.Goals as goal

pub returns : goal.returns
returns c = λ slots n. c.child_at.ensures slots (c.view_in-view.ensures.only slots n)
