use Rattle.std.proofs.Common.{ℕ, List, Some, sym, subst}
use Rattle.ild_data.specs.Spell.{id_of}
use Rattle.ild_script.specs.declared.reply.Reply.TheVariants as R
use Rattle.ild_script_meaning.specs.Ask.{to_edit}
use Rattle.ild_run_edit.specs.Edits.{edit_of}
use Rattle.ild_run_standing.specs.Answers.{AnswersAs}
use Rattle.ild_run_answers.proofs.asking.change.Goals as goal

pub returns-in-Ok : goal.returns-in-Ok
returns-in-Ok g c =
    subst (λ (b : List ℕ). AnswersAs id_of c.args.doc.now c.edit.new.doc (to_edit (edit_of c.args.verb c.args.path.now c.args.json.now)) (g.K.Store.moment c.args.store.now) (Some (R.Root (record { 0 = b }))) (g.K.Store.moment c.edit.new.store))
    (sym c.root.ensures) c.in-Ok.ensures.answers

pub returns-in-Err : goal.returns-in-Err
returns-in-Err g c = c.in-Err.ensures.answers
