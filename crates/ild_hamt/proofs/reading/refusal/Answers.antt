use Rattle.std.proofs.Common.{subst}
use Rattle.ild_data.specs.Data.{Data}
use Rattle.ild_cbor.specs.Block.{IsBlockOf}
use Rattle.ild_hamt.proofs.reading.refusal.Goals as goal

pub returns-in-Ok-node_of : goal.returns-in-Ok-node_of
returns-in-Ok-node_of c =
    let d = c.in-Ok.ensures.found in
    let s = c.in-Ok-node_of.ensures.found d.0 d.2.stands in
    record { slots = s.0; is = subst (λ (t : Data). IsBlockOf c.args.block.now t) s.1 d.1; form = s.2.form }
