use Rattle.std.proofs.Common.{◌≡◌, Some, None, Err, sym, subst}
use Rattle.ild_data.specs.Spell.{id_of}
use Rattle.ild_script.specs.Line.{Reading, outside, blank, reads}
use Rattle.ild_script.specs.Reads.{ReadsAs}
use Rattle.ild_script.specs.declared.error.LineErr.{LineErr}
use Rattle.ild_script.specs.declared.reply.No.TheVariants as N
use Rattle.ild_script.specs.declared.reply.Reply.TheVariants as R
use Rattle.ild_script_meaning.specs.Ask.{asked}
use Rattle.ild_run_document.specs.Begins.{doc_of}
use Rattle.ild_run_document.specs.Turns.{Turns}
use Rattle.ild_run_document.proofs.Turning.{blank_stays, memory_is_wanting, unknown_stays}
use Rattle.ild_run_document.proofs.lines.answer_line.Goals as goal

pub returns-in-Ok-None-clause-turns : goal.returns-in-Ok-None-clause-turns
returns-in-Ok-None-clause-turns g c =
    let m = g.K.Store.moment c.args.store.now in
    let empty : reads c.args.line.now ≡ blank = rw c.in-Ok-None.field-0-is at c.in-Ok-None.ensures in
    subst (λ (r : Reading). Turns id_of c.args.doc.now c.args.doc.now (doc_of c.args.begun.now) (doc_of c.args.begun.now) c.args.own.now c.args.own.now (asked r) m None m) (sym empty)
    (blank_stays c.stages_stay.ensures c.args.doc.now (doc_of c.args.begun.now) c.args.own.now m c.requires)

pub returns-in-Err-Line-clause-turns : goal.returns-in-Err-Line-clause-turns
returns-in-Err-Line-clause-turns g c =
    let m = g.K.Store.moment c.args.store.now in
    let out : reads c.args.line.now ≡ outside = subst (λ (e : LineErr). ReadsAs c.args.line.now (Err e)) c.in-Err-Line.field-0-is c.in-Err-Line.ensures in
    subst (λ (r : Reading). Turns id_of c.args.doc.now c.args.doc.now (doc_of c.args.begun.now) (doc_of c.args.begun.now) c.args.own.now c.args.own.now (asked r) m (Some (R.No N.Line)) m) (sym out)
    (unknown_stays c.stages_stay.ensures c.args.doc.now (doc_of c.args.begun.now) c.args.own.now m c.requires)

pub returns-in-Err-Memory-clause-turns : goal.returns-in-Err-Memory-clause-turns
returns-in-Err-Memory-clause-turns g c =
    memory_is_wanting c.stages_stay.ensures c.args.doc.now (doc_of c.args.begun.now) c.args.own.now (asked (reads c.args.line.now)) (g.K.Store.moment c.args.store.now) c.requires
