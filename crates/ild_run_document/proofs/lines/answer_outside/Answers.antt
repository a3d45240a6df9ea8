use Rattle.std.proofs.Common.{[], Some, refl}
use Rattle.ild_script_meaning.specs.Ask.{asked_by}
use Rattle.ild_view_doc.specs.Docs.{IsSame}
use Rattle.ild_run_document.proofs.Turning.{asks_outside, begins}
use Rattle.ild_run_document.proofs.lines.answer_outside.Goals as goal

pub returns-in-Some : goal.returns-in-Some
returns-in-Some g c = asks_outside c.args.doc.now c.ask.new.doc [] [] (asked_by c.args.line.now.verb c.args.line.now.path c.args.json.now) (g.K.Store.moment c.args.store.now) (Some c.in-Some.reply) (g.K.Store.moment c.ask.new.store) c.in-Some.ensures.asks.1

pub returns-in-Ok : goal.returns-in-Ok
returns-in-Ok g c =
    let same : IsSame c.args.doc.now c.in-Ok.begun.doc = rw c.in_default.ensures.asks.1 at c.in-Ok.ensures.1 in
    rw (c.in-Begin.is, c.in_default.ensures.asks.1, c.in_default.ensures.unasked refl, c.in-Ok.ensures.0) (begins c.batches_begin.ensures c.args.doc.now c.in-Ok.begun.doc (g.K.Store.moment c.args.store.now) [] same)
