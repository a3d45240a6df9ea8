use Rattle.std.proofs.Common.{subst}
use Rattle.ild_inclusion.specs.inside.Found.{IsFound}
use Rattle.ild_inclusion.specs.declared.found.Found.{Found}
use Rattle.ild_inclusion.proofs.Told.{one_spelling}
use Rattle.ild_inclusion.proofs.writing.spelled.Goals as goal

pub returns-in_ok-spelling-in-Here : goal.returns-in_ok-spelling-in-Here
returns-in_ok-spelling-in-Here c = λ a found memory. one_spelling c.in-Here.view c.in_ok-spelling-in-Here.field-0 c.in_ok-spelling-in-Here.ensures a (subst (λ (x : Found). IsFound x a) c.in-Here.is found)
