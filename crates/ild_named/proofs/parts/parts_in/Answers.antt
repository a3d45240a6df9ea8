use Rattle.std.proofs.Common.{refl, sym, ◌∙◌}
use Rattle.std.proofs.lemmas.Bool.{false≢true}
use Rattle.std.proofs.lemmas.Option.{none-some}
use Rattle.ild_named.specs.Named.{named_data}
use Rattle.ild_named.proofs.Parting.{none_behind, parts_found}
use Rattle.ild_named.proofs.parts.parts_in.Goals as goal

pub returns-in_err-entries-clause-only : goal.returns-in_err-entries-clause-only
returns-in_err-entries-clause-only c = λ name id d wide h. absurd (c.in_err-entries.ensures (named_data name id d) h)

pub returns-in_err-ty-clause-only : goal.returns-in_err-ty-clause-only
returns-in_err-ty-clause-only c = λ name id d wide h.
    let e0 = (c.in_ok-entries.ensures (named_data name id d) h).left in
    absurd (c.in_err-ty.ensures _ e0 refl)

pub returns-in_err-value-clause-only : goal.returns-in_err-value-clause-only
returns-in_err-value-clause-only c = λ name id d wide h.
    let e0 = (c.in_ok-entries.ensures (named_data name id d) h).left in
    let e1 = (c.in_ok-ty.ensures _ e0).left in
    absurd (c.in_err-value.ensures _ e1 refl)

pub returns-in_err-schema-clause-only : goal.returns-in_err-schema-clause-only
returns-in_err-schema-clause-only c = λ name id d wide h.
    let e0 = (c.in_ok-entries.ensures (named_data name id d) h).left in
    let e1 = (c.in_ok-ty.ensures _ e0).left in
    let e2 = (c.in_ok-value.ensures _ e1).left in
    absurd (c.in_err-schema.ensures _ e2 refl)

pub returns-then-is_some-clause-only : goal.returns-then-is_some-clause-only
returns-then-is_some-clause-only c = λ name id d wide h.
    let e0 = (c.in_ok-entries.ensures (named_data name id d) h).left in
    let e1 = (c.in_ok-ty.ensures _ e0).left in
    let e2 = (c.in_ok-value.ensures _ e1).left in
    let e3 = (c.in_ok-schema.ensures _ e2).left in
    absurd (none_behind c.next_at-3.new.entries c.next.new.self c.next.result (c.next.ensures.steps _ e3) (sym c.is_some.ensures ∙ c.if-is_some.true))

pub returns-in_err-name-clause-only : goal.returns-in_err-name-clause-only
returns-in_err-name-clause-only c = λ name id d wide h.
    let e0 = (c.in_ok-entries.ensures (named_data name id d) h).left in
    let first = (c.in_ok-ty.ensures _ e0).stands in
    absurd (none-some name (c.in_err-name.ensures _ first))

pub returns-in_err-schema-2-clause-only : goal.returns-in_err-schema-2-clause-only
returns-in_err-schema-2-clause-only c = λ name id d wide h.
    let e0 = (c.in_ok-entries.ensures (named_data name id d) h).left in
    let e1 = (c.in_ok-ty.ensures _ e0).left in
    let e2 = (c.in_ok-value.ensures _ e1).left in
    let last = (c.in_ok-schema.ensures _ e2).stands in
    absurd (false≢true (c.in_err-schema-2.ensures.only id wide last))

pub returns-clause-found : goal.returns-clause-found
returns-clause-found c = λ t h.
    let x = parts_found t c.args.root.now _ _ _ _ _ c.in_ok-ty.ty c.in_ok-value.value c.in_ok-schema.schema c.in_ok-name.name.now c.in_ok-schema-2.schema.0 c.next.result (c.in_ok-entries.ensures t h)
    c.in_ok-ty.ensures c.in_ok-value.ensures c.in_ok-schema.ensures c.next.ensures.steps (sym c.is_some.ensures ∙ c.if-is_some.false) (λ d s. sym (c.in_ok-name.ensures d s)) c.in_ok-schema-2.ensures.found in
    record { value = x.tree; is = x.is; wide = c.in_ok-schema-2.ensures.wide; part = x.part }
