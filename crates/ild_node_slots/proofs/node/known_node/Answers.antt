use Rattle.std.proofs.Common.{List}
use Rattle.std.proofs.Math.Logic.{∥∥₁_elim, ∥∥₁_map}
use Rattle.std.proofs.Props.{props}
use Rattle.ild_data.specs.Trie.{TrieSlot, node_data}
use Rattle.ild_cbor.specs.Nodes.{HasData}
use Rattle.ild_node_slots.specs.Form.{IsNode}
use Rattle.ild_node_slots.specs.Slotted.{IsSlotted}
use Rattle.ild_node_slots.proofs.Fits.{parts-of, slotted}
use Rattle.ild_node_slots.proofs.node.known_node.Goals as goal

pub unreachable-requires : goal.unreachable-requires
unreachable-requires c = ∥∥₁_elim c.requires (hlevel props) (λ x. c.in_default.ensures (node_data x.slots) x.stands)

pub unreachable-requires-in_default-bytes : goal.unreachable-requires-in_default-bytes
unreachable-requires-in_default-bytes c =
    ∥∥₁_elim c.requires (hlevel props) (λ x. let none = c.in_default-bytes.ensures _ (c.in-Some.ensures (node_data x.slots) x.stands).0.stands in absurd cc)

pub unreachable-requires-in_default-items : goal.unreachable-requires-in_default-items
unreachable-requires-in_default-items c =
    ∥∥₁_elim c.requires (hlevel props) (λ x. c.in_default-items.ensures _ (c.in-Some.ensures (node_data x.slots) x.stands).1.stands)

-- the parts of the item are those of the slots of a node that it is
parts_slotted : (c : goal.In-Some-items) (slots : List TrieSlot) → HasData c.args.node (node_data slots) → IsNode c.args.shape slots
    → IsSlotted c.args.shape c.args.shape c.args.node c.in-Some.data c.in-Some-bytes.map.now c.in-Some-items.elements slots
parts_slotted c slots h form =
    slotted c.args.shape c.args.node c.in-Some.data c.in-Some-bytes.map.now c.in-Some-items.elements slots
    (parts-of c.args.node (node_data slots) c.in-Some.ones c.in-Some.data _ _ (c.in-Some.ensures (node_data slots) h) c.in-Some-bytes.ensures c.in-Some-items.ensures) h form

pub invariant_of-result : goal.invariant_of-result
invariant_of-result c = record { stands = ∥∥₁_map c.requires (λ x. record { slots = x.slots; has = parts_slotted c x.slots x.stands x.form }) }

pub returns-clause-only : goal.returns-clause-only
returns-clause-only c = λ slots h form.
    slotted c.args.shape c.args.node c.in-Some.data c.in-Some-bytes.map.now c.in-Some-items.elements slots
    (parts-of c.args.node (node_data slots) c.in-Some.ones c.in-Some.data _ _ (c.in-Some.ensures (node_data slots) h) c.in-Some-bytes.ensures c.in-Some-items.ensures) h form
