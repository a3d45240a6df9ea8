use Rattle.std.proofs.Common.{◌≡◌, ℕ, List, sym, subst}
use Rattle.std.proofs.Math.Logic.{∥∥₁_map}
use Rattle.ild_cbor.specs.Block.{IsBlockOf}
use Rattle.ild_schema.specs.declared.number.Slot.{Slot}
use Rattle.ild_typed.specs.Fits.{Front}
use Rattle.ild_view_doc.proofs.Known.{rooted_faultless}
use Rattle.ild_view_doc.proofs.doc.Doc.view.Goals as goal

pub known_root-node-requires : goal.known_root-node-requires
known_root-node-requires c = rooted_faultless _ _ _ _ c.block.ensures c.args.self.now.stands

pub of-requires-clause-front : goal.of-requires-clause-front
of-requires-clause-front c = ∥∥₁_map c.args.self.now.stands (λ h.
    let block = subst (λ (b : List ℕ). IsBlockOf b h.root.tree) (sym c.block.ensures) h.root.block in
    record {
      value = h.value;
      room = 96;
      tree = h.root.tree;
      stands = (c.known_root-node.ensures h.root.tree block).stands;
      front = subst (λ (s : Slot). Front c.args.self.now.acc.now 96 s h.value h.root.tree) (sym c.slot_of_type.ensures) h.root.front;
    })

pub returns-clause-whole : goal.returns-clause-whole
returns-clause-whole c = λ t block.
    let at : IsBlockOf c.block.result.now t = subst (λ (b : List ℕ). IsBlockOf b t) (sym c.block.ensures) block in
    record { node = c.known_root-node.result; piece = c.of.ensures.piece; block = c.block.result.now; spelled = at; root = c.known_root-node.ensures t at }
