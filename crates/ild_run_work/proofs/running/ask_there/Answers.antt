use Rattle.std.proofs.Common.{List, ℕ, sym, subst}
use Rattle.ild_run_work.proofs.Ran.{not_found, was_asked}
use Rattle.ild_run_work.specs.Rules.{rules_of}
use Rattle.ild_run_work.specs.Runs.{Runs}
use Rattle.ild_script.specs.declared.reply.No.{No}
use Rattle.ild_script.specs.declared.reply.Reply.TheVariants as R
use Rattle.ild_script_meaning.specs.Ask.{asked_by}
use Rattle.ild_run_work.proofs.running.ask_there.Goals as goal

pub returns-in-Err : goal.returns-in-Err
returns-in-Err g c =
    let rules = rules_of c.args.acc.now c.args.ty in
    let a = asked_by c.args.line.now.verb c.args.line.now.path c.args.json.now in
    let m = g.K.Store.moment c.args.store.now in
    let n = g.K.Store.moment c.find.new.store in
    subst (λ (r : No). Runs rules a m c.args.root.now.0 c.args.root.now.0 (R.No r) n) (sym c.found_refusal.ensures)
    (not_found rules (record { table = c.recall.ensures.table; accepted = c.recall.ensures.accepted }) c.recall.ensures.legible a c.args.root.now.0 m n c.still_replies.ensures c.in-Err.fault c.in-Err.ensures)

pub returns : goal.returns
returns g c =
    let rules = rules_of c.args.acc.now c.args.ty in
    let a = asked_by c.args.line.now.verb c.args.line.now.path c.args.json.now in
    let m = g.K.Store.moment c.args.store.now in
    let n = g.K.Store.moment c.ask.new.store in
    subst (λ (to : List ℕ). Runs rules a m c.args.root.now.0 to c.in-Some.reply n) (sym c.root.ensures)
    (was_asked c.standing_are_at.ensures c.held_are_standing.ensures rules a c.args.root.now.0 m (g.K.Store.moment c.find.new.store) n c.in-Ok.doc c.ask.new.doc c.in-Some.reply c.in-Ok.ensures c.in-Some.ensures.asks.0 c.in-Some.ensures.asks.1)
