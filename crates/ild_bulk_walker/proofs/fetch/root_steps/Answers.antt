use Rattle.std.proofs.Common.{◌≡◌, refl, sym, ◌∙◌, subst}
use Rattle.std.proofs.Math.Logic.{∥∥₁_elim}
use Rattle.std.proofs.Props.{props}
use Rattle.std.proofs.lemmas.Bool.{false≢true}
use Rattle.ild_data.specs.Spell.{spell}
use Rattle.ild_data.specs.Trie.{node_data}
use Rattle.ild_data.specs.declared.hamt_shape.HamtShape.{HamtShape}
use Rattle.ild_node_slots.specs.Form.{IsNode}
use Rattle.ild_node_slots.proofs.Fits.{some-node, slots-at}
use Rattle.ild_typed.proofs.NodeRoots.{node-read}
use Rattle.ild_cbor.specs.Nodes.{HasData}
use Rattle.ild_cbor.specs.declared.node.Node.{Node}
use Rattle.ild_cbor.proofs.Blocks.{block_again}
use Rattle.ild_bulk_walker.proofs.Lying.{root-block}
use Rattle.ild_bulk_walker.proofs.fetch.root_steps.Goals as goal

pub known_root-requires : goal.known_root-requires
known_root-requires c =
    let n = c.in_ok-node.node in
    let same : c.as_slice.result.now ≡ spell n = c.as_slice.ensures.same ∙ c.deref.ensures ∙ c.in_ok-held.ensures.ok ∙ c.into_octets.ensures in
    block_again c.as_slice.result.now n (root-block c.as_slice.result.now n n c.in_ok-node.ensures.within same refl)

pub steps_in-requires : goal.steps_in-requires
steps_in-requires c =
    let n = c.in_ok-node.node in
    let held : c.as_slice.result.now ≡ c.in_ok-held.held.value = c.as_slice.ensures.same ∙ c.deref.ensures in
    let same : c.as_slice.result.now ≡ spell n = held ∙ c.in_ok-held.ensures.ok ∙ c.into_octets.ensures in
    let root = c.known_root.ensures n (root-block c.as_slice.result.now n n c.in_ok-node.ensures.within same refl) in
    record { of = n; stands = root.stands; here = root.block_is ∙ held }

pub returns : goal.returns
returns c = λ p slots has.
    let n = c.in_ok-node.node in
    let same : c.as_slice.result.now ≡ spell n = c.as_slice.ensures.same ∙ c.deref.ensures ∙ c.in_ok-held.ensures.ok ∙ c.into_octets.ensures in
    let is : n ≡ node_data slots = c.in_ok-node.ensures.same (node_data slots) (subst (λ (m : Node). HasData m (node_data slots)) (sym c.node.ensures) has.stands) in
    let root = c.known_root.ensures (node_data slots) (root-block c.as_slice.result.now n (node_data slots) c.in_ok-node.ensures.within same is) in
    let told = rw c.in-Some.is at c.in_ok-steps.ensures (node_data slots) root.stands in
    told.1 slots refl (subst (λ (q : HamtShape). IsNode q slots) (sym (c.shape.ensures ∙ has.shape)) has.form)

pub unreachable-requires : goal.unreachable-requires
unreachable-requires c =
    ∥∥₁_elim (some-node c.args.root) (hlevel props) (λ v.
    let n = c.in_ok-node.node in
    let has = slots-at c.shape.result c.args.root (sym c.shape.ensures) v in
    let same : c.as_slice.result.now ≡ spell n = c.as_slice.ensures.same ∙ c.deref.ensures ∙ c.in_ok-held.ensures.ok ∙ c.into_octets.ensures in
    let is : n ≡ node_data v.slots = c.in_ok-node.ensures.same (node_data v.slots) (subst (λ (m : Node). HasData m (node_data v.slots)) (sym c.node.ensures) has.stands) in
    let root = c.known_root.ensures (node_data v.slots) (root-block c.as_slice.result.now n (node_data v.slots) c.in_ok-node.ensures.within same is) in
    let told = rw c.in-None.is at c.in_ok-steps.ensures (node_data v.slots) root.stands in
    false≢true (sym told ∙ node-read c.shape.result v.slots c.shape.result.wide has.form.many has.form.each))
