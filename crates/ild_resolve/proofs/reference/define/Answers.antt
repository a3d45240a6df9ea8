use Rattle.ild_resolve.proofs.RowSteps.{define-between}
use Rattle.ild_resolve.proofs.reference.define.Goals as goal

pub returns : goal.returns
returns c = λ front after r size is. define-between c.args.rows.now.items front after r c.index_mut.result.now c.args.ty.0 c.args.def c.index_mut.ensures.value size is
