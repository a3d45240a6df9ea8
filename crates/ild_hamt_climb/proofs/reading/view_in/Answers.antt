use Rattle.std.proofs.Common.{sym, List, ℕ, ◌∙◌, subst, ap}
use Rattle.ild_data.specs.Trie.{node_data}
use Rattle.ild_cbor.specs.Block.{IsBlockOf}
use Rattle.ild_cbor.specs.Reading.{fault_of}
use Rattle.ild_hamt_climb.proofs.NodeTests.{node-told, no-fault}
use Rattle.ild_hamt_climb.proofs.reading.view_in.Goals as goal

pub known_root-requires : goal.known_root-requires
known_root-requires c = ap fault_of c.as_slice.ensures.same ∙ no-fault c.args.shape _ c.requires

pub known_node-requires : goal.known_node-requires
known_node-requires c =
    let n = node-told c.args.shape _ c.as_slice.ensures.bytes c.requires in
    ∣ record {
      slots = n.slots;
      stands = (c.known_root.ensures (node_data n.slots) (subst (λ (b : List ℕ). IsBlockOf b (node_data n.slots)) (sym c.as_slice.ensures.same) n.is)).stands;
      form = n.form;
    } ∣₁

pub returns-clause-only : goal.returns-clause-only
returns-clause-only c = λ slots n.
    c.known_node.ensures.only slots (c.known_root.ensures (node_data slots) (subst (λ (b : List ℕ). IsBlockOf b (node_data slots)) (sym c.as_slice.ensures.same) n.is)).stands n.form

pub returns-clause-node : goal.returns-clause-node
returns-clause-node c = node-told c.args.shape _ c.as_slice.ensures.bytes c.requires
