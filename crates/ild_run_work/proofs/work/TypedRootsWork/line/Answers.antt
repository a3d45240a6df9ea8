use Rattle.ild_run_work.proofs.Stepping.{steps}
use Rattle.ild_run_work.specs.Held.{rules_in}
use Rattle.ild_run_work.specs.Standing.{later_stays}
use Rattle.ild_run_work.proofs.work.TypedRootsWork.line.Goals as goal

pub returns-in_err-text-clause-stays : goal.returns-in_err-text-clause-stays
returns-in_err-text-clause-stays g c = later_stays (rules_in c.args.self.now) (g.K.Store.moment c.args.self.now.store.now) (g.K.Store.moment c.run_line-reply.new.store) c.run_line-reply.ensures.later

pub returns-clause-stays : goal.returns-clause-stays
returns-clause-stays g c = later_stays (rules_in c.args.self.now) (g.K.Store.moment c.args.self.now.store.now) (g.K.Store.moment c.run_line-reply.new.store) c.run_line-reply.ensures.later

pub returns-clause-step : goal.returns-clause-step
returns-clause-step g c told =
    steps c.schemas_have_tests.ensures (rules_in c.args.self.now) (record { table = c.recall.ensures.table; accepted = c.recall.ensures.accepted }) c.args.line.now
    (g.K.Store.moment c.args.self.now.store.now) (g.K.Store.moment c.run_line-reply.new.store) c.args.root.now.0 c.run_line-reply.result.0.0 c.in_ok-text.text
    (record { reply = c.run_line-reply.result.1; text_is = c.in_ok-text.ensures; runs = c.run_line-reply.ensures }) told c.requires
