use Rattle.std.proofs.Common.{length, sym, ◌∙◌}
use Rattle.std.proofs.Math.Logic.{∥∥₁_map}
use Rattle.ild_cbor.specs.Span.{item_of}
use Rattle.ild_typed.specs.At.{seen}
use Rattle.ild_view.proofs.Entering.{null_element, other_element}
use Rattle.ild_view.proofs.Finding.{element_there}
use Rattle.ild_view.proofs.Handing.{hands_none, hands_out, has_front}
use Rattle.ild_view.proofs.Parting.{any_there}
use Rattle.ild_view.proofs.Placing.{element_in, element_is_safe, free_numbered, free_placed}
use Rattle.ild_view.specs.Parts.{element_at}
use Rattle.ild_view.proofs.view.View.item.Goals as goal

pub placed-requires-clause-within : goal.placed-requires-clause-within
placed-requires-clause-within c =
    let s = c.args.self.now in
    element_in s.acc.now c.recall.ensures.table c.recall.ensures.legible s.slot c.def.result.now c.def.ensures.within c.in-Some.slot (sym c.in-Some.ensures)

pub placed-requires-clause-safe : goal.placed-requires-clause-safe
placed-requires-clause-safe c =
    let s = c.args.self.now in
    element_is_safe s.acc.now c.recall.ensures.table c.recall.ensures.legible s.slot c.def.result.now c.def.ensures.same c.in-Some.slot (sym c.in-Some.ensures)

pub placed-requires-clause-front : goal.placed-requires-clause-front
placed-requires-clause-front c = ∥∥₁_map c.args.self.now.stands (λ h.
    let s = c.args.self.now in
    let some = sym (c.is_null_there.ensures h.tree h.stands) ∙ c.if-is_null_there.false in
    has_front s.acc.now c.in-Some.slot (item_of h.tree c.args.i) (element_at (seen s.acc.now (s.slot, h.value)) c.args.i) c.in-Some-of.body
    (c.in-Some-of.ensures.embodies s.acc.now (item_of h.tree c.args.i) (c.item.ensures s.acc.now h.tree h.stands))
    (element_there s.acc.now c.recall.ensures.legible.clear s.slot s.safe h.room h.value h.tree h.front some (any_there s.acc.now c.recall.ensures.table.prelude_first)
    c.def.result.now c.def.ensures.same c.in-Some.slot (sym c.in-Some.ensures) c.args.i))

pub returns-in-Some-of : goal.returns-in-Some-of
returns-in-Some-of c = λ f v.
    let s = c.args.self.now in
    let some = sym (c.is_null_there.ensures v.tree v.stands) ∙ c.if-is_null_there.false in
    hands_out s.acc.now c.in-Some.slot (item_of v.tree c.args.i) (element_at (seen s.acc.now (s.slot, f)) c.args.i) c.in-Some-of.body c.placed.result
    (c.in-Some-of.ensures.embodies s.acc.now (item_of v.tree c.args.i) (c.item.ensures s.acc.now v.tree v.stands))
    (element_there s.acc.now c.recall.ensures.legible.clear s.slot s.safe v.room f v.tree v.front some (any_there s.acc.now c.recall.ensures.table.prelude_first)
    c.def.result.now c.def.ensures.same c.in-Some.slot (sym c.in-Some.ensures) c.args.i)
    c.placed.ensures.table c.placed.ensures.slot c.placed.ensures.body

pub returns-in-None-of : goal.returns-in-None-of
returns-in-None-of c = λ f v.
    let s = c.args.self.now in
    let some = sym (c.is_null_there.ensures v.tree v.stands) ∙ c.if-is_null_there.false in
    hands_none s.acc.now c.in-Some.slot (item_of v.tree c.args.i) (element_at (seen s.acc.now (s.slot, f)) c.args.i)
    (c.in-None-of.ensures.embodies s.acc.now (item_of v.tree c.args.i) (c.item.ensures s.acc.now v.tree v.stands))
    (element_there s.acc.now c.recall.ensures.legible.clear s.slot s.safe v.room f v.tree v.front some (any_there s.acc.now c.recall.ensures.table.prelude_first)
    c.def.result.now c.def.ensures.same c.in-Some.slot (sym c.in-Some.ensures) c.args.i)

pub placed-requires-clause-numbered : goal.placed-requires-clause-numbered
placed-requires-clause-numbered c = free_numbered (length c.args.self.now.acc.now) c.in-Some-of.body c.in-Some-of.ensures.free

pub placed-requires-clause-placed : goal.placed-requires-clause-placed
placed-requires-clause-placed c = free_placed c.args.self.now.acc.now c.in-Some.slot c.in-Some-of.body c.in-Some-of.ensures.free

pub returns-then-is_null_there : goal.returns-then-is_null_there
returns-then-is_null_there c = λ f v.
    let s = c.args.self.now in
    null_element s.acc.now c.recall.ensures.legible s.slot s.safe v.room f v.tree v.front (sym (c.is_null_there.ensures v.tree v.stands) ∙ c.if-is_null_there.true) c.args.i

pub returns-in-None : goal.returns-in-None
returns-in-None c = λ f v.
    let s = c.args.self.now in
    let some = sym (c.is_null_there.ensures v.tree v.stands) ∙ c.if-is_null_there.false in
    other_element s.acc.now c.recall.ensures.legible s.slot s.safe v.room f v.tree v.front some c.def.result.now c.def.ensures.same (sym c.in-None.ensures) c.args.i
