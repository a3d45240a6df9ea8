use Rattle.std.proofs.Common.{length, Some, sym, ◌∙◌, ap, refl, subst}
use Rattle.std.proofs.Math.Logic.{∥∥₁_map}
use Rattle.ild_schema.specs.Prelude.{anything}
use Rattle.ild_typed.specs.At.{seen}
use Rattle.ild_typed.specs.Strings.{members_in}
use Rattle.ild_view.proofs.Entering.{null_entries, other_entries, own_numbered, scalar_entries, value_in}
use Rattle.ild_view.proofs.Iterating.{entries_found, entries_none, entries_some, form_found, form_none, form_some}
use Rattle.ild_view.proofs.Mapped.{map_delims}
use Rattle.ild_view.proofs.Ordering.{any_map_beside, map_at}
use Rattle.ild_view.proofs.Parting.{any_low, any_there}
use Rattle.ild_view.proofs.Placing.{anything_safe, value_is_safe}
use Rattle.ild_view.specs.Body.{BodyStands}
use Rattle.ild_view.specs.Ordered.{entries_in}
use Rattle.ild_view.specs.declared.body.Body.{Body}
use Rattle.ild_view.proofs.view.View.entries.Goals as goal

pub form_entries-requires-clause-delims : goal.form_entries-requires-clause-delims
form_entries-requires-clause-delims c =
    map_delims c.args.self.now.acc.now c.recall.ensures.legible c.args.self.now.slot c.in-Map.key c.in-Map.key_at c.in-Map.value c.in-Map.at c.in-Map.form (c.def.ensures.same ∙ ap Some c.in-Map.is)

pub invariant_of-result-clause-safe : goal.invariant_of-result-clause-safe
invariant_of-result-clause-safe c =
    value_is_safe c.args.self.now.acc.now c.recall.ensures.table c.recall.ensures.legible c.args.self.now.slot c.in-Map.key c.in-Map.key_at c.in-Map.value c.in-Map.at c.in-Map.form (c.def.ensures.same ∙ ap Some c.in-Map.is)

pub invariant_of-result-clause-stands : goal.invariant_of-result-clause-stands
invariant_of-result-clause-stands c = ∥∥₁_map c.args.self.now.stands (λ h.
    let s = c.args.self.now in
    let some = sym (c.is_null_there.ensures h.tree h.stands) ∙ c.if-is_null_there.false in
    let stands = subst (λ (b : Body). BodyStands s.acc.now b h.tree) c.in-Held.is h.stands in
    let x = map_at s.acc.now c.recall.ensures.legible s.slot s.safe h.room h.value h.tree h.front some c.in-Map.key c.in-Map.key_at c.in-Map.value c.in-Map.at c.in-Map.form (c.def.ensures.same ∙ ap Some c.in-Map.is) in
    form_some s.acc.now c.in-Map.value c.in-Map.form x.parts (seen s.acc.now (s.slot, h.value)) c.in-Some.rest x.keyed (c.in-Some.ensures h.tree x.parts stands x.shows))

pub invariant_of-result-in-Some-map_entries-clause-stands : goal.invariant_of-result-in-Some-map_entries-clause-stands
invariant_of-result-in-Some-map_entries-clause-stands c = ∥∥₁_map c.args.self.now.stands (λ h.
    let s = c.args.self.now in
    let some = sym (c.is_null_there.ensures h.tree h.stands) ∙ c.if-is_null_there.false in
    let stands = subst (λ (b : Body). BodyStands s.acc.now b h.tree) c.in-Held.is h.stands in
    entries_some s.acc.now anything (members_in h.tree) (entries_in (seen s.acc.now (s.slot, h.value))) c.in-Some-map_entries.rest
    (any_map_beside s.acc.now c.recall.ensures.legible s.slot s.safe h.room h.value h.tree h.front some (any_there s.acc.now c.recall.ensures.table.prelude_first) (c.def.ensures.same ∙ ap Some c.in-Any.is))
    (c.in-Some-map_entries.ensures h.tree stands))

pub returns-in-Some : goal.returns-in-Some
returns-in-Some c = λ f v.
    let s = c.args.self.now in
    let some = sym (c.is_null_there.ensures v.tree v.stands) ∙ c.if-is_null_there.false in
    let stands = subst (λ (b : Body). BodyStands s.acc.now b v.tree) c.in-Held.is v.stands in
    let x = map_at s.acc.now c.recall.ensures.legible s.slot s.safe v.room f v.tree v.front some c.in-Map.key c.in-Map.key_at c.in-Map.value c.in-Map.at c.in-Map.form (c.def.ensures.same ∙ ap Some c.in-Map.is) in
    form_found s.acc.now c.in-Map.value c.in-Map.form x.parts (seen s.acc.now (s.slot, f)) _ x.keyed (c.in-Some.ensures v.tree x.parts stands x.shows) refl refl

pub returns-in-None : goal.returns-in-None
returns-in-None c = λ f v.
    let s = c.args.self.now in
    let some = sym (c.is_null_there.ensures v.tree v.stands) ∙ c.if-is_null_there.false in
    let stands = subst (λ (b : Body). BodyStands s.acc.now b v.tree) c.in-Held.is v.stands in
    let x = map_at s.acc.now c.recall.ensures.legible s.slot s.safe v.room f v.tree v.front some c.in-Map.key c.in-Map.key_at c.in-Map.value c.in-Map.at c.in-Map.form (c.def.ensures.same ∙ ap Some c.in-Map.is) in
    form_none s.acc.now c.in-Map.value c.in-Map.form x.parts (seen s.acc.now (s.slot, f)) x.keyed (c.in-None.ensures v.tree x.parts stands x.shows)

pub returns-in-Some-map_entries : goal.returns-in-Some-map_entries
returns-in-Some-map_entries c = λ f v.
    let s = c.args.self.now in
    let some = sym (c.is_null_there.ensures v.tree v.stands) ∙ c.if-is_null_there.false in
    let stands = subst (λ (b : Body). BodyStands s.acc.now b v.tree) c.in-Held.is v.stands in
    entries_found s.acc.now anything (members_in v.tree) (entries_in (seen s.acc.now (s.slot, f))) _
    (any_map_beside s.acc.now c.recall.ensures.legible s.slot s.safe v.room f v.tree v.front some (any_there s.acc.now c.recall.ensures.table.prelude_first) (c.def.ensures.same ∙ ap Some c.in-Any.is))
    (c.in-Some-map_entries.ensures v.tree stands) refl refl

pub form_entries-requires-clause-numbered : goal.form_entries-requires-clause-numbered
form_entries-requires-clause-numbered c = own_numbered c.args.self.now.acc.now c.args.self.now.body c.in-Held.piece c.in-Held.is c.args.self.now.numbered

pub map_entries-requires : goal.map_entries-requires
map_entries-requires c = own_numbered c.args.self.now.acc.now c.args.self.now.body c.in-Held.piece c.in-Held.is c.args.self.now.numbered

pub invariant_of-result-clause-within : goal.invariant_of-result-clause-within
invariant_of-result-clause-within c =
    value_in (length c.args.self.now.acc.now) c.def.result.now c.in-Map.key c.in-Map.key_at c.in-Map.value c.in-Map.at c.in-Map.form c.in-Map.is c.def.ensures.within

pub invariant_of-result-in-Some-map_entries-clause-within : goal.invariant_of-result-in-Some-map_entries-clause-within
invariant_of-result-in-Some-map_entries-clause-within c = any_low c.args.self.now.acc.now c.recall.ensures.table.prelude_first

pub invariant_of-result-in-Some-map_entries-clause-safe : goal.invariant_of-result-in-Some-map_entries-clause-safe
invariant_of-result-in-Some-map_entries-clause-safe c = anything_safe c.args.self.now.acc.now c.recall.ensures.table c.recall.ensures.legible c.args.self.now.slot

pub returns-then-is_null_there : goal.returns-then-is_null_there
returns-then-is_null_there c = λ f v.
    let s = c.args.self.now in
    null_entries s.acc.now c.recall.ensures.legible s.slot s.safe v.room f v.tree v.front (sym (c.is_null_there.ensures v.tree v.stands) ∙ c.if-is_null_there.true)

pub returns-in_default : goal.returns-in_default
returns-in_default c = λ f v.
    let s = c.args.self.now in
    let some = sym (c.is_null_there.ensures v.tree v.stands) ∙ c.if-is_null_there.false in
    scalar_entries s.acc.now c.recall.ensures.legible s.slot s.safe v.room f v.tree v.front some s.body s.placed c.in_default.not-Held

pub returns-in_default-def : goal.returns-in_default-def
returns-in_default-def c = λ f v.
    let s = c.args.self.now in
    let some = sym (c.is_null_there.ensures v.tree v.stands) ∙ c.if-is_null_there.false in
    other_entries s.acc.now c.recall.ensures.legible s.slot s.safe v.room f v.tree v.front some c.def.result.now c.def.ensures.same c.in_default-def.not-Any c.in_default-def.not-Map

pub returns-in-None-map_entries : goal.returns-in-None-map_entries
returns-in-None-map_entries c = λ f v.
    let s = c.args.self.now in
    let some = sym (c.is_null_there.ensures v.tree v.stands) ∙ c.if-is_null_there.false in
    let stands = subst (λ (b : Body). BodyStands s.acc.now b v.tree) c.in-Held.is v.stands in
    entries_none s.acc.now anything (members_in v.tree) (entries_in (seen s.acc.now (s.slot, f)))
    (any_map_beside s.acc.now c.recall.ensures.legible s.slot s.safe v.room f v.tree v.front some (any_there s.acc.now c.recall.ensures.table.prelude_first) (c.def.ensures.same ∙ ap Some c.in-Any.is))
    (c.in-None-map_entries.ensures v.tree stands)
