use Rattle.std.proofs.Common.{length, Some, None, sym, ◌∙◌, ap, subst}
use Rattle.std.specs.Prelude.{option_and_then}
use Rattle.std.proofs.Math.Logic.{∥∥₁_map}
use Rattle.ild_data.specs.Key.{value_at}
use Rattle.ild_schema.specs.Prelude.{anything}
use Rattle.ild_typed.specs.At.{seen}
use Rattle.ild_typed.specs.Strings.{members_in}
use Rattle.ild_view.proofs.Entering.{null_entry, other_entry, own_numbered, part_numbered, part_placed, scalar_entry, value_in}
use Rattle.ild_view.proofs.Finding.{any_entry_there}
use Rattle.ild_view.proofs.Handing.{hands_none, hands_out, has_front, held_embodied}
use Rattle.ild_view.proofs.Mapped.{entry_there, map_delims}
use Rattle.ild_view.proofs.Parting.{any_low, any_there}
use Rattle.ild_view.proofs.Placing.{anything_safe, value_is_safe}
use Rattle.ild_view.specs.Body.{BodyStands}
use Rattle.ild_view.specs.Parts.{entry_at}
use Rattle.ild_view.specs.declared.body.Body.{Body}
use Rattle.ild_view.specs.declared.body.Body.TheVariants as B
use Rattle.ild_view.proofs.view.View.entry.Goals as goal

pub form_entry-requires-clause-delims : goal.form_entry-requires-clause-delims
form_entry-requires-clause-delims c =
    map_delims c.args.self.now.acc.now c.recall.ensures.legible c.args.self.now.slot c.in-Map.key c.in-Map.key_at c.in-Map.value c.in-Map.at c.in-Map.form (c.def.ensures.same ∙ ap Some c.in-Map.is)

pub placed-requires-clause-safe : goal.placed-requires-clause-safe
placed-requires-clause-safe c =
    value_is_safe c.args.self.now.acc.now c.recall.ensures.table c.recall.ensures.legible c.args.self.now.slot c.in-Map.key c.in-Map.key_at c.in-Map.value c.in-Map.at c.in-Map.form (c.def.ensures.same ∙ ap Some c.in-Map.is)

pub placed-requires-clause-front : goal.placed-requires-clause-front
placed-requires-clause-front c = ∥∥₁_map c.args.self.now.stands (λ h.
    let s = c.args.self.now in
    let some = sym (c.is_null_there.ensures h.tree h.stands) ∙ c.if-is_null_there.false in
    let stands = subst (λ (b : Body). BodyStands s.acc.now b h.tree) c.in-Held.is h.stands in
    let x = entry_there s.acc.now c.recall.ensures.legible s.slot s.safe h.room h.value h.tree h.front some c.in-Map.key c.in-Map.key_at c.in-Map.value c.in-Map.at c.in-Map.form (c.def.ensures.same ∙ ap Some c.in-Map.is) c.args.key.now in
    has_front s.acc.now c.in-Map.value (value_at c.args.key.now x.entries) (entry_at (seen s.acc.now (s.slot, h.value)) c.args.key.now) (B.Held c.in-Some.part) (held_embodied s.acc.now (value_at c.args.key.now x.entries) (Some c.in-Some.part) (c.in-Some.ensures.found h.tree x.entries stands x.shows)) x.beside)

pub placed-requires-in-Some-map_entry-clause-front : goal.placed-requires-in-Some-map_entry-clause-front
placed-requires-in-Some-map_entry-clause-front c = ∥∥₁_map c.args.self.now.stands (λ h.
    let s = c.args.self.now in
    let some = sym (c.is_null_there.ensures h.tree h.stands) ∙ c.if-is_null_there.false in
    let stands = subst (λ (b : Body). BodyStands s.acc.now b h.tree) c.in-Held.is h.stands in
    has_front s.acc.now anything (option_and_then (value_at c.args.key.now) (members_in h.tree)) (entry_at (seen s.acc.now (s.slot, h.value)) c.args.key.now) (B.Held c.in-Some-map_entry.part) (held_embodied s.acc.now (option_and_then (value_at c.args.key.now) (members_in h.tree)) (Some c.in-Some-map_entry.part) (c.in-Some-map_entry.ensures.found h.tree stands))
    (any_entry_there s.acc.now c.recall.ensures.legible.clear s.slot s.safe h.room h.value h.tree h.front some (any_there s.acc.now c.recall.ensures.table.prelude_first) (c.def.ensures.same ∙ ap Some c.in-Any.is) c.args.key.now))

pub returns-in-Some : goal.returns-in-Some
returns-in-Some c = λ f v.
    let s = c.args.self.now in
    let some = sym (c.is_null_there.ensures v.tree v.stands) ∙ c.if-is_null_there.false in
    let stands = subst (λ (b : Body). BodyStands s.acc.now b v.tree) c.in-Held.is v.stands in
    let x = entry_there s.acc.now c.recall.ensures.legible s.slot s.safe v.room f v.tree v.front some c.in-Map.key c.in-Map.key_at c.in-Map.value c.in-Map.at c.in-Map.form (c.def.ensures.same ∙ ap Some c.in-Map.is) c.args.key.now in
    hands_out s.acc.now c.in-Map.value (value_at c.args.key.now x.entries) (entry_at (seen s.acc.now (s.slot, f)) c.args.key.now) (B.Held c.in-Some.part) c.placed.result (held_embodied s.acc.now (value_at c.args.key.now x.entries) (Some c.in-Some.part) (c.in-Some.ensures.found v.tree x.entries stands x.shows)) x.beside
    c.placed.ensures.table c.placed.ensures.slot c.placed.ensures.body

pub returns-in-None : goal.returns-in-None
returns-in-None c = λ f v.
    let s = c.args.self.now in
    let some = sym (c.is_null_there.ensures v.tree v.stands) ∙ c.if-is_null_there.false in
    let stands = subst (λ (b : Body). BodyStands s.acc.now b v.tree) c.in-Held.is v.stands in
    let x = entry_there s.acc.now c.recall.ensures.legible s.slot s.safe v.room f v.tree v.front some c.in-Map.key c.in-Map.key_at c.in-Map.value c.in-Map.at c.in-Map.form (c.def.ensures.same ∙ ap Some c.in-Map.is) c.args.key.now in
    hands_none s.acc.now c.in-Map.value (value_at c.args.key.now x.entries) (entry_at (seen s.acc.now (s.slot, f)) c.args.key.now) (held_embodied s.acc.now (value_at c.args.key.now x.entries) None (c.in-None.ensures.found v.tree x.entries stands x.shows)) x.beside

pub returns-in-Some-map_entry : goal.returns-in-Some-map_entry
returns-in-Some-map_entry c = λ f v.
    let s = c.args.self.now in
    let some = sym (c.is_null_there.ensures v.tree v.stands) ∙ c.if-is_null_there.false in
    let stands = subst (λ (b : Body). BodyStands s.acc.now b v.tree) c.in-Held.is v.stands in
    hands_out s.acc.now anything (option_and_then (value_at c.args.key.now) (members_in v.tree)) (entry_at (seen s.acc.now (s.slot, f)) c.args.key.now) (B.Held c.in-Some-map_entry.part) c.placed-in-Some-map_entry.result
    (held_embodied s.acc.now (option_and_then (value_at c.args.key.now) (members_in v.tree)) (Some c.in-Some-map_entry.part) (c.in-Some-map_entry.ensures.found v.tree stands))
    (any_entry_there s.acc.now c.recall.ensures.legible.clear s.slot s.safe v.room f v.tree v.front some (any_there s.acc.now c.recall.ensures.table.prelude_first) (c.def.ensures.same ∙ ap Some c.in-Any.is) c.args.key.now)
    c.placed-in-Some-map_entry.ensures.table c.placed-in-Some-map_entry.ensures.slot c.placed-in-Some-map_entry.ensures.body

pub form_entry-requires-clause-numbered : goal.form_entry-requires-clause-numbered
form_entry-requires-clause-numbered c = own_numbered c.args.self.now.acc.now c.args.self.now.body c.in-Held.piece c.in-Held.is c.args.self.now.numbered

pub map_entry-requires : goal.map_entry-requires
map_entry-requires c = own_numbered c.args.self.now.acc.now c.args.self.now.body c.in-Held.piece c.in-Held.is c.args.self.now.numbered

pub placed-requires-clause-within : goal.placed-requires-clause-within
placed-requires-clause-within c =
    value_in (length c.args.self.now.acc.now) c.def.result.now c.in-Map.key c.in-Map.key_at c.in-Map.value c.in-Map.at c.in-Map.form c.in-Map.is c.def.ensures.within

pub placed-requires-clause-numbered : goal.placed-requires-clause-numbered
placed-requires-clause-numbered c = part_numbered (length c.args.self.now.acc.now) c.in-Some.part c.in-Some.ensures.free

pub placed-requires-clause-placed : goal.placed-requires-clause-placed
placed-requires-clause-placed c = part_placed c.args.self.now.acc.now c.in-Map.value c.in-Some.part c.in-Some.ensures.free

pub placed-requires-in-Some-map_entry-clause-within : goal.placed-requires-in-Some-map_entry-clause-within
placed-requires-in-Some-map_entry-clause-within c = any_low c.args.self.now.acc.now c.recall.ensures.table.prelude_first

pub placed-requires-in-Some-map_entry-clause-safe : goal.placed-requires-in-Some-map_entry-clause-safe
placed-requires-in-Some-map_entry-clause-safe c = anything_safe c.args.self.now.acc.now c.recall.ensures.table c.recall.ensures.legible c.args.self.now.slot

pub placed-requires-in-Some-map_entry-clause-numbered : goal.placed-requires-in-Some-map_entry-clause-numbered
placed-requires-in-Some-map_entry-clause-numbered c = part_numbered (length c.args.self.now.acc.now) c.in-Some-map_entry.part c.in-Some-map_entry.ensures.free

pub placed-requires-in-Some-map_entry-clause-placed : goal.placed-requires-in-Some-map_entry-clause-placed
placed-requires-in-Some-map_entry-clause-placed c = part_placed c.args.self.now.acc.now anything c.in-Some-map_entry.part c.in-Some-map_entry.ensures.free

pub returns-then-is_null_there : goal.returns-then-is_null_there
returns-then-is_null_there c = λ f v.
    let s = c.args.self.now in
    null_entry s.acc.now c.recall.ensures.legible s.slot s.safe v.room f v.tree v.front (sym (c.is_null_there.ensures v.tree v.stands) ∙ c.if-is_null_there.true) c.args.key.now

pub returns-in_default : goal.returns-in_default
returns-in_default c = λ f v.
    let s = c.args.self.now in
    let some = sym (c.is_null_there.ensures v.tree v.stands) ∙ c.if-is_null_there.false in
    scalar_entry s.acc.now c.recall.ensures.legible s.slot s.safe v.room f v.tree v.front some s.body s.placed c.in_default.not-Held c.args.key.now

pub returns-in_default-def : goal.returns-in_default-def
returns-in_default-def c = λ f v.
    let s = c.args.self.now in
    let some = sym (c.is_null_there.ensures v.tree v.stands) ∙ c.if-is_null_there.false in
    other_entry s.acc.now c.recall.ensures.legible s.slot s.safe v.room f v.tree v.front some c.def.result.now c.def.ensures.same c.in_default-def.not-Any c.in_default-def.not-Map c.args.key.now

pub returns-in-None-map_entry : goal.returns-in-None-map_entry
returns-in-None-map_entry c = λ f v.
    let s = c.args.self.now in
    let some = sym (c.is_null_there.ensures v.tree v.stands) ∙ c.if-is_null_there.false in
    let stands = subst (λ (b : Body). BodyStands s.acc.now b v.tree) c.in-Held.is v.stands in
    let o = option_and_then (value_at c.args.key.now) (members_in v.tree) in
    hands_none s.acc.now anything o (entry_at (seen s.acc.now (s.slot, f)) c.args.key.now) (held_embodied s.acc.now o None (c.in-None-map_entry.ensures.found v.tree stands))
    (any_entry_there s.acc.now c.recall.ensures.legible.clear s.slot s.safe v.room f v.tree v.front some (any_there s.acc.now c.recall.ensures.table.prelude_first) (c.def.ensures.same ∙ ap Some c.in-Any.is) c.args.key.now)
