use Rattle.std.proofs.Common.{sym, ◌∙◌, rules}
use Rattle.std.proofs.Math.Logic.{∥∥₁_map}
use Rattle.ild_node_slots.proofs.Fits.{PartsOf, parts-of, not-fits, not-listed, taken}
use Rattle.ild_node_slots.specs.Views.{IsViewOf}
use Rattle.ild_node_slots.proofs.node.view_of.Goals as goal

pub returns-in_err-elements-clause-view : goal.returns-in_err-elements-clause-view
returns-in_err-elements-clause-view c = λ t h. not-listed c.args.shape c.args.node t _ _ _ (λ v. IsViewOf c.args.shape v t) (c.in_ok-ones.ensures t h) c.in_err-elements.ensures (search rules)

pub returns-then-not-parts_fit-clause-view : goal.returns-then-not-parts_fit-clause-view
returns-then-not-parts_fit-clause-view c = λ t h.
    let parts : PartsOf c.args.node t c.in_ok-map.map.now c.in_ok-ones.data c.in_ok-elements.elements = parts-of c.args.node t c.in_ok-ones.ones c.in_ok-ones.data _ _ (c.in_ok-ones.ensures t h) c.in_ok-map.ensures c.in_ok-elements.ensures in
    not-fits c.args.shape c.args.node t _ _ _ parts c.parts_fit.result (c.parts_fit.ensures parts.parts parts.items.left) c.if-not-parts_fit.true

pub invariant_of-result : goal.invariant_of-result
invariant_of-result c = record {
  stands = ∥∥₁_map c.args.node.stands (λ s.
      let parts : PartsOf c.args.node s.of c.in_ok-map.map.now c.in_ok-ones.data c.in_ok-elements.elements =
      parts-of c.args.node s.of c.in_ok-ones.ones c.in_ok-ones.data _ _ (c.in_ok-ones.ensures s.of s.spells) c.in_ok-map.ensures c.in_ok-elements.ensures in
      let k = taken c.args.shape c.args.node c.in_ok-ones.data _ _ s.of parts (sym (c.parts_fit.ensures parts.parts parts.items.left) ∙ c.if-not-parts_fit.false) s.spells in
      record { slots = k.slots; has = k.has });
}

pub returns-clause-view : goal.returns-clause-view
returns-clause-view c = λ t h.
    let parts : PartsOf c.args.node t c.in_ok-map.map.now c.in_ok-ones.data c.in_ok-elements.elements = parts-of c.args.node t c.in_ok-ones.ones c.in_ok-ones.data _ _ (c.in_ok-ones.ensures t h) c.in_ok-map.ensures c.in_ok-elements.ensures in
    let k = taken c.args.shape c.args.node c.in_ok-ones.data _ _ t parts (sym (c.parts_fit.ensures parts.parts parts.items.left) ∙ c.if-not-parts_fit.false) h in
    record { slots = k.slots; is = k.is; has = k.has }
