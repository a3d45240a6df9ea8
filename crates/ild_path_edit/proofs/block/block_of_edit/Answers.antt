use Rattle.std.proofs.lemmas.Result.{err_from_is_err_and}
use Rattle.ild_path_edit.proofs.Making.{answer_failed, made_block}
use Rattle.ild_data.specs.Spell.{spell}
use Rattle.std.specs.Prelude.{Ok}
use Rattle.ild_view.specs.View.{slot_of, table_of}
use Rattle.ild_path_edit.proofs.block.block_of_edit.Goals as goal

pub returns-in_err-block : goal.returns-in_err-block
returns-in_err-block c = λ is_key f w x t u e.
    let r = err_from_is_err_and c.from_residual.result c.from_residual.ensures.1 in
    rw (r.1, r.2) (answer_failed (table_of c.args.root.now) is_key c.args.edit.now w (slot_of c.args.root.now, f) c.args.path.now t u c.in_err-block.field-0.0 (c.in_err-block.ensures.answers is_key f w x t u e))

pub returns-in-Some-Block : goal.returns-in-Some-Block
returns-in-Some-Block c = λ is_key f w x t u e. made_block (spell u) (Ok c.in-Some-Block.block) (rw (c.in-Some-Block.is, c.in-Some-Block.field-0-is) at (c.in_ok-block.ensures.answers is_key f w x t u e))

pub returns-in-Some-Holder : goal.returns-in-Some-Holder
returns-in-Some-Holder c = λ is_key f w x t u e. c.with_holder.ensures is_key f w x t u e (rw (c.in-Some-Holder.is, c.in-Some-Holder.field-0-is) at (c.in_ok-block.ensures.answers is_key f w x t u e))

pub with_holder-requires : goal.with_holder-requires
with_holder-requires c = rw (c.in-Some-Holder.is, c.in-Some-Holder.field-0-is) at c.in_ok-block.ensures.beneath
