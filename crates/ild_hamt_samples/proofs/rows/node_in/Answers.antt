use Rattle.std.proofs.Common.{sym, subst}
use Rattle.ild_cbor.specs.Nodes.{HasData}
use Rattle.ild_data.specs.Data.{Data}
use Rattle.ild_node_slots.proofs.Trees.{spelled-value}
use Rattle.ild_hamt_samples.proofs.rows.node_in.Goals as goal

pub returns-in-Ok : goal.returns-in-Ok
returns-in-Ok c =
    let d = c.in-Ok.ensures.found in
    subst (λ (t : Data). HasData c.in-Ok.node t) (sym (spelled-value d.0 c.args.block.now d.1.within d.1.spelled)) d.2.stands
