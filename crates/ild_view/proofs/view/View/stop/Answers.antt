use Rattle.ild_view.proofs.Reaching.{stop_enters, stop_nowhere}
use Rattle.ild_view.proofs.view.View.stop.Goals as goal

pub returns-in-Some : goal.returns-in-Some
returns-in-Some c = λ f v. stop_enters c.args.self.now c.args.k f c.in-Some.field-0 v _ (c.in-Some.ensures f v)

pub returns-in-None : goal.returns-in-None
returns-in-None c = λ f v. stop_nowhere c.args.self.now c.args.k f _ (c.in-None.ensures f v)
