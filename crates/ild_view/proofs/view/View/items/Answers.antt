use Rattle.std.proofs.Common.{sym, ◌∙◌, refl}
use Rattle.std.proofs.Math.Logic.{∥∥₁_map}
use Rattle.ild_typed.specs.At.{seen}
use Rattle.ild_typed.specs.Named.{items_in}
use Rattle.ild_view.proofs.Entering.{null_elements, other_elements}
use Rattle.ild_view.proofs.Iterating.{items_found, items_none, items_some}
use Rattle.ild_view.proofs.Ordering.{elements_there}
use Rattle.ild_view.proofs.Parting.{any_there}
use Rattle.ild_view.proofs.Placing.{element_in, element_is_safe}
use Rattle.ild_view.specs.Ordered.{elements_in}
use Rattle.ild_view.proofs.view.View.items.Goals as goal

pub invariant_of-result-clause-within : goal.invariant_of-result-clause-within
invariant_of-result-clause-within c =
    let s = c.args.self.now in
    element_in s.acc.now c.recall.ensures.table c.recall.ensures.legible s.slot c.def.result.now c.def.ensures.within c.in-Some.slot (sym c.in-Some.ensures)

pub invariant_of-result-clause-safe : goal.invariant_of-result-clause-safe
invariant_of-result-clause-safe c =
    let s = c.args.self.now in
    element_is_safe s.acc.now c.recall.ensures.table c.recall.ensures.legible s.slot c.def.result.now c.def.ensures.same c.in-Some.slot (sym c.in-Some.ensures)

pub invariant_of-result-clause-stands : goal.invariant_of-result-clause-stands
invariant_of-result-clause-stands c = ∥∥₁_map c.args.self.now.stands (λ h.
    let s = c.args.self.now in
    let some = sym (c.is_null_there.ensures h.tree h.stands) ∙ c.if-is_null_there.false in
    items_some s.acc.now c.in-Some.slot (items_in h.tree) (elements_in (seen s.acc.now (s.slot, h.value))) c.in-Some-items.items
    (elements_there s.acc.now c.recall.ensures.legible.clear s.slot s.safe h.room h.value h.tree h.front some (any_there s.acc.now c.recall.ensures.table.prelude_first) c.def.result.now c.def.ensures.same c.in-Some.slot (sym c.in-Some.ensures))
    (c.in-Some-items.ensures s.acc.now h.tree h.stands))

pub returns-in-Some-items : goal.returns-in-Some-items
returns-in-Some-items c = λ f v.
    let s = c.args.self.now in
    let some = sym (c.is_null_there.ensures v.tree v.stands) ∙ c.if-is_null_there.false in
    items_found s.acc.now c.in-Some.slot (items_in v.tree) (elements_in (seen s.acc.now (s.slot, f))) _
    (elements_there s.acc.now c.recall.ensures.legible.clear s.slot s.safe v.room f v.tree v.front some (any_there s.acc.now c.recall.ensures.table.prelude_first) c.def.result.now c.def.ensures.same c.in-Some.slot (sym c.in-Some.ensures))
    (c.in-Some-items.ensures s.acc.now v.tree v.stands) refl refl

pub returns-in-None-items : goal.returns-in-None-items
returns-in-None-items c = λ f v.
    let s = c.args.self.now in
    let some = sym (c.is_null_there.ensures v.tree v.stands) ∙ c.if-is_null_there.false in
    items_none s.acc.now c.in-Some.slot (items_in v.tree) (elements_in (seen s.acc.now (s.slot, f)))
    (elements_there s.acc.now c.recall.ensures.legible.clear s.slot s.safe v.room f v.tree v.front some (any_there s.acc.now c.recall.ensures.table.prelude_first) c.def.result.now c.def.ensures.same c.in-Some.slot (sym c.in-Some.ensures))
    (c.in-None-items.ensures s.acc.now v.tree v.stands)

pub returns-then-is_null_there : goal.returns-then-is_null_there
returns-then-is_null_there c = λ f v.
    let s = c.args.self.now in
    null_elements s.acc.now c.recall.ensures.legible s.slot s.safe v.room f v.tree v.front (sym (c.is_null_there.ensures v.tree v.stands) ∙ c.if-is_null_there.true)

pub returns-in-None : goal.returns-in-None
returns-in-None c = λ f v.
    let s = c.args.self.now in
    let some = sym (c.is_null_there.ensures v.tree v.stands) ∙ c.if-is_null_there.false in
    other_elements s.acc.now c.recall.ensures.legible s.slot s.safe v.room f v.tree v.front some c.def.result.now c.def.ensures.same (sym c.in-None.ensures)
