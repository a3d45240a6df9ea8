use Rattle.ild_run_work.proofs.Starting.{root_value}
use Rattle.ild_run_work.specs.Held.{rules_in}
use Rattle.ild_run_work.proofs.roots.TypedRootsRoots.holds.Goals as goal

pub returns-clause-ok : goal.returns-clause-ok
returns-clause-ok g c =
    root_value (rules_in c.args.self.now) (g.K.Store.moment c.args.self.now.store.now) (g.K.Store.moment c.open.new.store) c.in-Ok.doc c.args.root.now c.in-Ok.ensures
