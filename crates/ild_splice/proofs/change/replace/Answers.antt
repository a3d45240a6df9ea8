use Rattle.ild_splice.proofs.change.replace.Goals as goal

pub returns : goal.returns
returns c = λ e stands. c.replace_with.ensures e (c.spelling.ensures e stands)
