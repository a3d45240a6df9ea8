use Rattle.std.proofs.Common.{List, ℕ, Some, Ok, Err, drop, sym, subst}
use Rattle.ild_data.specs.Spell.{id_of}
use Rattle.ild_links_edit.proofs.Lasts.{edited, not_opened}
use Rattle.ild_run_edit.specs.Edits.{edit_of}
use Rattle.ild_run_standing.specs.Answers.{AnswersAs}
use Rattle.ild_script.specs.declared.reply.Reply.TheVariants as R
use Rattle.ild_script_meaning.specs.Ask.{to_edit}
use Rattle.ild_view_doc.specs.Docs.{block_in}
use Rattle.ild_links_edit.proofs.ending.edit_tree.Goals as goal

pub returns-in-Err : goal.returns-in-Err
returns-in-Err g c =
    let e = edit_of c.args.verb (drop c.args.hop.now.from c.args.path.now) c.args.json.now in
    not_opened c.args.acc.now c.args.hop.now c.args.path.now e c.still_replies.ensures (g.K.Store.moment c.args.store.now) (g.K.Store.moment c.open_last.new.store) c.in-Err.refusal c.in-Err.ensures

pub returns-in-Ok-edit : goal.returns-in-Ok-edit
returns-in-Ok-edit g c =
    let rest = drop c.args.hop.now.from c.args.path.now in
    let m = g.K.Store.moment c.args.store.now in
    let k = g.K.Store.moment c.open_last.new.store in
    let n = g.K.Store.moment c.edit.new.store in
    let old = c.in-Ok.opened.0 in
    let new = c.edit.new.doc in
    let x : AnswersAs id_of old new (to_edit (edit_of c.args.verb rest c.args.json.now)) k (Some (R.Root (record { 0 = id_of (block_in new) }))) n =
    subst (λ (p : List (List ℕ)). AnswersAs id_of old new (to_edit (edit_of c.args.verb p c.args.json.now)) k (Some (R.Root (record { 0 = id_of (block_in new) }))) n) c.in-Ok.ensures.done.rest c.in-Ok-edit.ensures.answers in
    edited c.args.acc.now c.args.hop.now c.args.path.now (edit_of c.args.verb rest c.args.json.now) m k n old new c.in-Ok.opened.1 c.in-Ok.ensures (Ok c.root.result)
    (subst (λ (b : List ℕ). AnswersAs id_of old new (to_edit (edit_of c.args.verb rest c.args.json.now)) k (Some (R.Root (record { 0 = b }))) n) (sym c.root.ensures) x)

pub returns : goal.returns
returns g c =
    let rest = drop c.args.hop.now.from c.args.path.now in
    let m = g.K.Store.moment c.args.store.now in
    let k = g.K.Store.moment c.open_last.new.store in
    let n = g.K.Store.moment c.edit.new.store in
    let old = c.in-Ok.opened.0 in
    let new = c.edit.new.doc in
    edited c.args.acc.now c.args.hop.now c.args.path.now (edit_of c.args.verb rest c.args.json.now) m k n old new c.in-Ok.opened.1 c.in-Ok.ensures (Err c.in-Err-edit.refusal)
    (subst (λ (p : List (List ℕ)). AnswersAs id_of old new (to_edit (edit_of c.args.verb p c.args.json.now)) k (Some (R.No c.in-Err-edit.refusal)) n) c.in-Ok.ensures.done.rest c.in-Err-edit.ensures.answers)
