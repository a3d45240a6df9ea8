use Rattle.ild_open.proofs.Settling.{found}
use Rattle.ild_run_work.proofs.finding.find.Goals as goal

pub returns-in-Ok-Some : goal.returns-in-Ok-Some
returns-in-Ok-Some g c =
    found c.args.acc.now c.args.ty c.args.id.now.0 c.in-Ok-Some.block (g.K.Store.moment c.args.store.now) (g.K.Store.moment c.get.new.self) c.judge.result c.judge.ensures
    (rw c.in-Ok-Some.field-0-is at c.in-Ok-Some.ensures)
