use Rattle.ild_run_work.proofs.Starting.{empty_root, empty_value}
use Rattle.ild_run_work.specs.Held.{rules_in}
use Rattle.ild_run_work.specs.Standing.{later_stays}
use Rattle.ild_run_work.proofs.roots.TypedRootsRoots.empty.Goals as goal

pub returns-in-Ok-clause-ok : goal.returns-in-Ok-clause-ok
returns-in-Ok-clause-ok g c =
    let rules = rules_in c.args.self.now in
    let m = g.K.Store.moment c.args.self.now.store.now in
    let n = g.K.Store.moment c.open.new.store in
    empty_value rules m n c.root.result.0 (empty_root rules m n c.in-Ok.doc c.root.result.0 c.root.ensures c.in-Ok.ensures)

pub returns-in-Ok-clause-empty : goal.returns-in-Ok-clause-empty
returns-in-Ok-clause-empty g c =
    empty_root (rules_in c.args.self.now) (g.K.Store.moment c.args.self.now.store.now) (g.K.Store.moment c.open.new.store) c.in-Ok.doc c.root.result.0 c.root.ensures c.in-Ok.ensures

pub returns-in-Ok-clause-stays : goal.returns-in-Ok-clause-stays
returns-in-Ok-clause-stays g c = later_stays (rules_in c.args.self.now) (g.K.Store.moment c.args.self.now.store.now) (g.K.Store.moment c.open.new.store) c.in-Ok.ensures.asks.later

pub returns-in-Err-clause-stays : goal.returns-in-Err-clause-stays
returns-in-Err-clause-stays g c = later_stays (rules_in c.args.self.now) (g.K.Store.moment c.args.self.now.store.now) (g.K.Store.moment c.open.new.store) c.in-Err.ensures.asks.later
