use Rattle.ild_layer_parts.specs.Elements.{HasElements}
use Rattle.ild_layer_parts.proofs.Passing.{element_passes, passes_more, passes_none}
use Rattle.ild_layer_parts.proofs.behind.behind_elements.Goals as goal

pub loop-behind-init : goal.loop-behind-init
loop-behind-init c = λ rows ps fits h.
    passes_none rows ps (HasElements (record { slot = c.args.elements.slot; items = c.args.elements.items; place = c.args.elements.place })) (record { items = h.items; left = h.left; few = h.few; is = h.is })

pub loop-behind-preserved : goal.loop-behind-preserved
loop-behind-preserved c = λ rows ps fits h.
    passes_more rows ps (HasElements (record { slot = c.args.elements.slot; items = c.loop-behind.items; place = c.loop-behind.place })) _ (c.loop-behind.invariant rows ps fits h)
    (λ qs k. element_passes rows c.args.elements.slot c.args.wanted fits c.loop-behind.items c.in-Some.behind c.loop-behind.place _ c.saturating_add-place.ensures (λ ds left. c.in-Some.ensures.behind ds left) qs k)
