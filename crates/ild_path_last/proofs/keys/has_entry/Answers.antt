use Rattle.ild_path_last.proofs.Comings.{found_there, none_found}
use Rattle.ild_path_last.proofs.keys.has_entry.Goals as goal

pub returns-in-Some : goal.returns-in-Some
returns-in-Some c = λ t stands. found_there _ _ (c.in-Some.ensures t stands)

pub returns-in-None : goal.returns-in-None
returns-in-None c = λ t stands. none_found _ (c.in-None.ensures t stands)
