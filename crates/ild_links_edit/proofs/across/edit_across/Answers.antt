use Rattle.std.proofs.Common.{List, ℕ, Some, Ok, Err, refl, sym, subst, ◌∙◌}
use Rattle.std.proofs.Math.Logic.{∥∥₁_map}
use Rattle.ild_data.specs.Spell.{id_of}
use Rattle.ild_links_edit.proofs.Crossing.{crosses_links, in_batch}
use Rattle.ild_links_lines.specs.Walks.{Crosses}
use Rattle.ild_links_walk.proofs.Crossings.{crosses_none, crosses_refused}
use Rattle.ild_run_edit.specs.Edits.{edit_of}
use Rattle.ild_script.specs.declared.reply.Reply.TheVariants as R
use Rattle.ild_script_meaning.specs.Ask.{to_edit}
use Rattle.ild_typed.specs.Schema.{IsSchema}
use Rattle.ild_links_edit.proofs.across.edit_across.Goals as goal

pub returns-in-Err : goal.returns-in-Err
returns-in-Err g c =
    crosses_refused id_of c.args.doc.now c.args.inside (to_edit (edit_of c.args.verb c.args.path.now c.args.json.now)) c.args.path.now (g.K.Store.moment c.args.store.now) (g.K.Store.moment c.walk.new.store) refl c.in-Err.refusal c.in-Err.ensures

pub returns-in_default : goal.returns-in_default
returns-in_default g c =
    crosses_none id_of c.args.doc.now c.args.inside (to_edit (edit_of c.args.verb c.args.path.now c.args.json.now)) c.args.path.now (g.K.Store.moment c.args.store.now) (g.K.Store.moment c.walk.new.store) c.in-Ok.hops c.in-Ok.ensures (sym c.in_default.ensures)

pub returns-then-inside : goal.returns-then-inside
returns-then-inside g c =
    in_batch c.standing_are_at.ensures c.held_are_standing.ensures c.still_replies.ensures c.args.doc.now c.args.inside c.args.verb c.args.path.now c.args.json.now (g.K.Store.moment c.args.store.now) (g.K.Store.moment c.walk.new.store)
    c.in-Ok.hops c.in-Some.last.now (sym c.in-Some.ensures) c.if-inside.true c.in-Ok.ensures

pub changed_doc-requires-clause-walk : goal.changed_doc-requires-clause-walk
changed_doc-requires-clause-walk g c = λ held told.
    let before = sym c.in-Ok.ensures.blocks ∙ told in
    ∥∥₁_map (c.requires.stands held before) (λ has. c.in-Ok.ensures.walk held before has)

pub returns-in-Ok-changed_doc : goal.returns-in-Ok-changed_doc
returns-in-Ok-changed_doc g c =
    let m = g.K.Store.moment c.args.store.now in
    let k = g.K.Store.moment c.walk.new.store in
    let n = g.K.Store.moment c.changed_doc.new.store in
    let d = c.args.doc.now in
    let schema = subst IsSchema c.schema.ensures (record { table = c.recall.ensures.table; accepted = c.recall.ensures.accepted }) in
    subst (λ (b : List ℕ). Crosses id_of c.args.inside d c.in-Ok-changed_doc.changed (to_edit (edit_of c.args.verb c.args.path.now c.args.json.now)) c.args.path.now m (Some (R.Root (record { 0 = b }))) n) (sym c.root.ensures)
    (crosses_links c.standing_are_at.ensures c.held_are_standing.ensures c.still_replies.ensures d c.args.inside c.args.verb c.args.path.now c.args.json.now m k c.walks_are_one.ensures schema n c.in-Ok.hops c.in-Some.last.now (sym c.in-Some.ensures)
    c.in-Ok.ensures (Ok c.in-Ok-changed_doc.changed) c.in-Ok-changed_doc.ensures c.if-inside.false)

pub returns : goal.returns
returns g c =
    let m = g.K.Store.moment c.args.store.now in
    let k = g.K.Store.moment c.walk.new.store in
    let n = g.K.Store.moment c.changed_doc.new.store in
    let d = c.args.doc.now in
    let schema = subst IsSchema c.schema.ensures (record { table = c.recall.ensures.table; accepted = c.recall.ensures.accepted }) in
    crosses_links c.standing_are_at.ensures c.held_are_standing.ensures c.still_replies.ensures d c.args.inside c.args.verb c.args.path.now c.args.json.now m k c.walks_are_one.ensures schema n c.in-Ok.hops c.in-Some.last.now (sym c.in-Some.ensures)
    c.in-Ok.ensures (Err c.in-Err-changed_doc.refusal) c.in-Err-changed_doc.ensures c.if-inside.false
