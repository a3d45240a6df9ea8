use Rattle.std.proofs.Common.{refl}
use Rattle.ild_view.proofs.Iterating.{entries_step, entries_stop}
use Rattle.ild_view.proofs.keyed.ViewEntriesIterator.next.Goals as goal

pub returns-in-Some-clause-steps : goal.returns-in-Some-clause-steps
returns-in-Some-clause-steps c = λ rows qs h. entries_step rows c.args.self.now c.in-Some.key c.in-Some.view c.in-Some.rest _ refl refl refl qs h (c.in-Some.ensures.step)

pub returns-in-None-clause-steps : goal.returns-in-None-clause-steps
returns-in-None-clause-steps c = λ rows qs h. entries_stop rows c.args.self.now qs h c.in-None.ensures.step
