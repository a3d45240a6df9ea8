use Rattle.ild_view.proofs.Nulling.{null_allowed, null_refused}
use Rattle.ild_view.proofs.view.View.is_null_there.Goals as goal

pub returns-then-self : goal.returns-then-self
returns-then-self c = λ t h. null_allowed c.args.self.now.slot t c.is_null.result c.if-self.true (c.is_null.ensures c.args.self.now.acc.now t h)

pub returns-else-self : goal.returns-else-self
returns-else-self c = λ t h. null_refused c.args.self.now.slot t c.if-self.false
