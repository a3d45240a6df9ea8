use Rattle.std.proofs.Common.{◌≡◌, Err, ap, subst}
use Rattle.ild_run_work.proofs.Ran.{memory_stays, outside_stays}
use Rattle.ild_run_work.specs.Plain.{own_ask}
use Rattle.ild_run_work.specs.Rules.{rules_of}
use Rattle.ild_script.specs.Line.{blank, outside, reads}
use Rattle.ild_script.specs.Reads.{ReadsAs}
use Rattle.ild_script.specs.declared.error.LineErr.{LineErr}
use Rattle.ild_script_meaning.specs.Ask.{asked}
use Rattle.ild_run_work.proofs.running.run_line.Goals as goal

pub returns-in-Ok-None : goal.returns-in-Ok-None
returns-in-Ok-None g c =
    let empty : reads c.args.line.now ≡ blank = rw c.in-Ok-None.field-0-is at c.in-Ok-None.ensures in
    outside_stays c.still_replies.ensures (rules_of c.args.acc.now c.args.ty) (asked (reads c.args.line.now)) c.args.root.now.0 (g.K.Store.moment c.args.store.now) (ap (λ r. own_ask (asked r)) empty)

pub returns-in-Err-Line : goal.returns-in-Err-Line
returns-in-Err-Line g c =
    let out : reads c.args.line.now ≡ outside = subst (λ (e : LineErr). ReadsAs c.args.line.now (Err e)) c.in-Err-Line.field-0-is c.in-Err-Line.ensures in
    outside_stays c.still_replies.ensures (rules_of c.args.acc.now c.args.ty) (asked (reads c.args.line.now)) c.args.root.now.0 (g.K.Store.moment c.args.store.now) (ap (λ r. own_ask (asked r)) out)

pub returns-in-Err-Memory : goal.returns-in-Err-Memory
returns-in-Err-Memory g c = memory_stays c.still_replies.ensures (rules_of c.args.acc.now c.args.ty) (asked (reads c.args.line.now)) c.args.root.now.0 (g.K.Store.moment c.args.store.now)
