use Rattle.std.proofs.Common.{◌+◌, sym, ◌∙◌, subst, arith}
use Rattle.ild_cbor.specs.declared.items.Items.{Items as ItemsLeft}
use Rattle.ild_node_slots.proofs.Left.{ElementsLeft, elements_skip, elements_step, elements_other, elements_end, flipped}
use Rattle.ild_node_slots.proofs.parts.elements_fit.Goals as goal
use Rattle.ild_node_slots.proofs.parts.elements_fit.Goals.{then-on+else-not-next_element, else-on}

pub next-requires : goal.next-requires
next-requires c = tt

pub returns-then-not-next_element : goal.returns-then-not-next_element
returns-then-not-next_element c = λ ds h.
    elements_other _ _ _ _ _ _ ds c.next_element.result (c.loop-i.invariant ds h) (omega arith) (sym c.map_bit-on.ensures ∙ c.if-on.true) c.next_element.ensures c.if-not-next_element.true

pub loop-i-preserved : goal.loop-i-preserved
loop-i-preserved c = λ ds h.
    elim c.if-on.branch [
      | then-on+else-not-next_element w ↦ subst (λ (s : ItemsLeft). ElementsLeft s c.args.most c.args.ones.now c.args.slots (c.loop-i.i + 1) ds) (sym w.elements-is)
          (elements_step _ _ _ _ _ _ ds w.next_element.result (c.loop-i.invariant ds h) (omega arith) (sym c.map_bit-on.ensures ∙ w.if-on.true) w.next_element.ensures w.if-not-next_element.false)
      | else-on w ↦ subst (λ (s : ItemsLeft). ElementsLeft s c.args.most c.args.ones.now c.args.slots (c.loop-i.i + 1) ds) (sym w.elements-is)
          (elements_skip _ _ _ _ _ ds (c.loop-i.invariant ds h) (omega arith) (sym c.map_bit-on.ensures ∙ w.if-on.false))
    ]

pub returns : goal.returns
returns c = λ ds h. elements_end _ _ _ _ _ _ ds c.next.result c.is_none.result (c.loop-i.invariant ds h) (omega arith) c.next.ensures.steps (flipped _ _ c.is_none.ensures)
