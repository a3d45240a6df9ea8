use Rattle.std.proofs.Common.{refl}
use Rattle.ild_view.proofs.Iterating.{items_step, items_stop}
use Rattle.ild_view.proofs.items.ViewItemsIterator.next.Goals as goal

pub returns-in-Some-clause-steps : goal.returns-in-Some-clause-steps
returns-in-Some-clause-steps c = λ rows qs h. items_step rows c.args.self.now c.in-Some.view c.in-Some.items _ refl refl refl qs h (c.in-Some.ensures.step)

pub returns-in-None-clause-steps : goal.returns-in-None-clause-steps
returns-in-None-clause-steps c = λ rows qs h. items_stop rows c.args.self.now qs h c.in-None.ensures.step
