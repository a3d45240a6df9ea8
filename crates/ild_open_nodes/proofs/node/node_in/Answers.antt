use Rattle.std.proofs.Common.{inr, refl, subst}
use Rattle.ild_cbor.specs.Block.{IsBlockOf}
use Rattle.ild_open_nodes.proofs.node.node_in.Goals as goal

pub returns-then-is_many : goal.returns-then-is_many
returns-then-is_many c =
    let d = c.in-Ok.ensures.found in
    let v = c.in-Ok-node_of.ensures.found d.0 d.2.stands in
    record { slots = v.0; node = record { is = subst (λ t. IsBlockOf c.args.block.now t) v.1 d.1; form = v.2.form }; has = v.2; many = c.is_many.ensures.many c.args.shape v.0 v.2 c.if-is_many.true }

pub returns-else-is_many : goal.returns-else-is_many
returns-else-is_many c =
    let d = c.in-Ok.ensures.found in
    let v = c.in-Ok-node_of.ensures.found d.0 d.2.stands in
    (refl, inr (record { slots = v.0; node = record { is = subst (λ t. IsBlockOf c.args.block.now t) v.1 d.1; form = v.2.form }; few = c.is_many.ensures.few c.args.shape v.0 v.2 c.if-is_many.false }))
