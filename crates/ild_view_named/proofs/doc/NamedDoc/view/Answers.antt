use Rattle.std.proofs.Common.{sym, subst}
use Rattle.std.proofs.Math.Logic.{∥∥₁_map}
use Rattle.ild_schema.specs.declared.number.Slot.{Slot}
use Rattle.ild_typed.specs.Fits.{Front}
use Rattle.ild_view_named.proofs.doc.NamedDoc.view.Goals as goal

pub of-requires-clause-front : goal.of-requires-clause-front
of-requires-clause-front c = ∥∥₁_map c.args.self.now.stands (λ h.
    record {
      value = h.value;
      room = 95;
      tree = h.tree;
      stands = (c.parts-parts.ensures h.name h.schema h.tree h.root).stands;
      front = subst (λ (s : Slot). Front c.args.self.now.acc.now 95 s h.value h.tree) (sym c.slot_of_type.ensures) h.front;
    })
