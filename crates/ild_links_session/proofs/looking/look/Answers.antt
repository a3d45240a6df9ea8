use Rattle.std.proofs.Common.{◌∙◌, sym}
use Rattle.ild_links_session.proofs.Crossing.{copy_stands, edits_from, memory_from, tells_from}
use Rattle.ild_links_session.proofs.looking.look.Goals as goal
use Rattle.ild_script_meaning.specs.Ask.{asked_by}

pub returns-in-Some : goal.returns-in-Some
returns-in-Some g c =
    tells_from c.args.doc.now c.args.inside c.args.line.now.verb c.in-Some.what c.args.line.now.path c.args.json.now (g.K.Store.moment c.args.store.now) c.tell_across.result (g.K.Store.moment c.tell_across.new.store)
    (sym c.tell_by.ensures ∙ c.in-Some.is) (c.tell_across.ensures c.args.inside)

pub edit_across-found-requires-clause-stands : goal.edit_across-found-requires-clause-stands
edit_across-found-requires-clause-stands g c = copy_stands c.args.doc.now c.in-Ok.other (g.K.Store.moment c.args.store.now) c.in-Ok.ensures c.requires.stands

pub returns-in-Ok : goal.returns-in-Ok
returns-in-Ok g c =
    edits_from c.args.doc.now c.in-Ok.other c.edit_across-found.new.doc c.args.inside c.args.line.now.verb c.in-Some-verb_by.verb c.args.line.now.path c.args.json.now (g.K.Store.moment c.args.store.now) c.edit_across-found.result
    (g.K.Store.moment c.edit_across-found.new.store) (sym c.verb_by.ensures ∙ c.in-Some-verb_by.is) c.in-Ok.ensures c.edit_across-found.ensures

pub returns-in-Err : goal.returns-in-Err
returns-in-Err g c = memory_from c.args.doc.now c.args.inside (asked_by c.args.line.now.verb c.args.line.now.path c.args.json.now) (g.K.Store.moment c.args.store.now)
