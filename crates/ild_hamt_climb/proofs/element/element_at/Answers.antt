use Rattle.std.proofs.Common.{sym, ◌∙◌, subst}
use Rattle.ild_cbor.specs.Nodes.{HasData}
use Rattle.ild_cbor.specs.declared.node.Node.{Node}
use Rattle.ild_data.specs.Trie.{node_data}
use Rattle.ild_hamt_climb.proofs.Standing.{element_found}
use Rattle.ild_hamt_climb.proofs.element.element_at.Goals as goal

pub returns : goal.returns
returns c = λ p slots has lt.
    let whole = c.apart.ensures (node_data slots) (subst (λ (n : Node). HasData n (node_data slots)) (sym c.node-node.ensures) has.stands) in
    element_found slots c.args.i c.count_before.result c.apart.result c.in_ok-list.list c.item-2.result c.nodes_are_at_places.ensures.item whole
    (c.in_ok-list.ensures (node_data slots) whole.stands) (c.count_before.ensures p slots has lt) (sym (c.is_used.ensures p slots has lt) ∙ c.if-not-is_used.false) c.item-2.ensures
