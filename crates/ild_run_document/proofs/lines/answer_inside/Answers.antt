use Rattle.ild_run_document.proofs.Turning.{drops, no_batch}
use Rattle.ild_run_document.proofs.lines.answer_inside.Goals as goal

pub returns-in-Abort : goal.returns-in-Abort
returns-in-Abort g c =
    rw (c.in-Abort.is, c.drop_batch.ensures.doc, c.drop_batch.ensures.reply) (drops c.batches_end.ensures c.args.doc.now c.args.begun.doc c.args.own.now c.drop_batch.new.own (g.K.Store.moment c.args.store.now) c.requires)

pub returns-in-None : goal.returns-in-None
returns-in-None g c =
    let x = c.in-None.ensures c.args.begun.doc in
    rw (x.1, x.2, x.3) (no_batch c.stages_stay.ensures c.args.doc.now c.args.begun.doc c.args.own.now (g.K.Store.moment c.args.store.now) c.args.line.now.verb c.args.line.now.path c.args.json.now x.0 c.in_default.not-Commit c.in_default.not-Abort c.requires)
