use Rattle.ild_run_edit.proofs.Naming.{clash_had}
use Rattle.ild_run_edit.proofs.Replying.{refused_edits, done_edits}
use Rattle.ild_run_edit.proofs.editing.edit_naming.Goals as goal

pub returns-in-Err-clause-edits : goal.returns-in-Err-clause-edits
returns-in-Err-clause-edits g c = refused_edits _ _ _ _ _ _ _ _ (clash_had c.new_root.new.clash _ c.in-Err.refusal c.in-Err.ensures.named) c.in-Err.ensures.makes

pub returns-clause-edits : goal.returns-clause-edits
returns-clause-edits g c = done_edits c.standing_are_at.ensures _ _ _ c.args.verb _ _ _ _ _ c.swap.ensures.table c.swap.ensures.ty c.swap.ensures.block c.in-Ok.ensures.makes
