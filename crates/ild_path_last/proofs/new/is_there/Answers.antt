use Rattle.ild_path_last.proofs.Comings.{new_there, none_new}
use Rattle.ild_path_last.proofs.new.is_there.Goals as goal

pub returns-in-Some : goal.returns-in-Some
returns-in-Some c = λ d h. new_there _ _ d c.in-Some.is h

pub returns-in-None : goal.returns-in-None
returns-in-None c = λ d h. none_new _ d c.in-None.is h
