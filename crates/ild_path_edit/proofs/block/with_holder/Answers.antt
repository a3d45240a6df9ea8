use Rattle.std.proofs.Common.{◌∙◌, subst}
use Rattle.std.proofs.lemmas.Result.{err_from_is_err_and}
use Rattle.ild_data.specs.Spell.{spell}
use Rattle.ild_path_edit.proofs.Making.{failed, made_block, replaced_made, replaced_short}
use Rattle.ild_schema.specs.Accept.{IsAccepted}
use Rattle.ild_schema.specs.Table.{IsTable}
use Rattle.ild_typed.specs.Schema.{IsSchema}
use Rattle.ild_view.specs.View.{slot_of, table_of}
use Rattle.ild_path_edit.proofs.block.with_holder.Goals as goal

pub returns-in_err-item : goal.returns-in_err-item
returns-in_err-item c = λ is_key f w x t u e held.
    let rows = table_of c.args.root.now in
    let schema : IsSchema rows = record { table = subst IsTable c.schema.ensures c.recall.ensures.table; accepted = subst IsAccepted c.schema.ensures c.recall.ensures.accepted } in
    let made = replaced_made c.args.root.now is_key c.args.path.now c.args.edit.now f w x t u schema e c.args.holder.now held in
    let r = err_from_is_err_and c.from_residual.result c.from_residual.ensures.1 in
    rw (r.1, r.2) (failed (spell held.new) (spell u) c.in_err-item.field-0.0 (replaced_short held.place t held.old held.new u held.item.part held.is) (c.in_err-item.ensures is_key f w x t u held.new e made))

pub returns : goal.returns
returns c = λ is_key f w x t u e held.
    let rows = table_of c.args.root.now in
    let schema : IsSchema rows = record { table = subst IsTable c.schema.ensures c.recall.ensures.table; accepted = subst IsAccepted c.schema.ensures c.recall.ensures.accepted } in
    let made = replaced_made c.args.root.now is_key c.args.path.now c.args.edit.now f w x t u schema e c.args.holder.now held in
    let it = c.in_ok-item.ensures is_key f w x t u held.new e made in
    made_block (spell u) c.block_with.result (c.block_with.ensures rows is_key c.args.edit.now w (slot_of c.args.root.now, f) c.args.path.now t u held (c.as_slice.ensures.same ∙ it.0))
