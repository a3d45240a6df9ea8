use Rattle.std.proofs.Common.{refl}
use Rattle.ild_run_work.proofs.Ran.{outside_stays, root_stays}
use Rattle.ild_run_work.specs.Rules.{rules_of}
use Rattle.ild_script_meaning.specs.Ask.{to_abort, to_begin, to_commit}
use Rattle.ild_run_work.proofs.running.obey.Goals as goal

pub returns-in-Root : goal.returns-in-Root
returns-in-Root g c = rw c.in-Root.is (root_stays c.still_replies.ensures (rules_of c.args.acc.now c.args.ty) (g.K.Store.moment c.args.store.now) c.args.root.now)

pub returns-in-Begin : goal.returns-in-Begin
returns-in-Begin g c = rw c.in-Begin.is (outside_stays c.still_replies.ensures (rules_of c.args.acc.now c.args.ty) to_begin c.args.root.now.0 (g.K.Store.moment c.args.store.now) refl)

pub returns-in-Commit : goal.returns-in-Commit
returns-in-Commit g c = rw c.in-Commit.is (outside_stays c.still_replies.ensures (rules_of c.args.acc.now c.args.ty) to_commit c.args.root.now.0 (g.K.Store.moment c.args.store.now) refl)

pub returns-in-Abort : goal.returns-in-Abort
returns-in-Abort g c = rw c.in-Abort.is (outside_stays c.still_replies.ensures (rules_of c.args.acc.now c.args.ty) to_abort c.args.root.now.0 (g.K.Store.moment c.args.store.now) refl)
