use Rattle.ild_enum.proofs.Emptied.{none_left}
use Rattle.ild_enum.proofs.units.empty_map.Goals as goal

pub returns-in-None-next : goal.returns-in-None-next
returns-in-None-next c = λ t h. none_left t c.in-Some.left c.next.new.self (c.in-Some.ensures t h) (λ es left. c.in-None-next.ensures.steps es left)
