use Rattle.std.proofs.Common.{◌≡◌, Some, None, sym, ◌∙◌, ap}
use Rattle.ild_schema.specs.Marks.{mark_text}
use Rattle.ild_schema.specs.declared.def.UnionForm.TheVariants as U
use Rattle.ild_path_steps.proofs.Standing.{envelope_leads, inline_leads, keyed_leads, member_is, no_mark, no_text}
use Rattle.ild_path_steps.proofs.union.union_steps.Goals as goal

pub returns-in-Text-clause-leads : goal.returns-in-Text-clause-leads
returns-in-Text-clause-leads c = λ m d t there made apart.
    let is = member_is _ c.args.def.now.members c.args.number c.index-as_slice-number.result m c.as_slice.ensures c.index-as_slice-number.is there in
    let mark : mark_text m.mark ≡ Some c.as_str.result.now = ap (λ x. mark_text x.mark) (sym is) ∙ ap (λ x. mark_text x.mark) c.index-as_slice-number.is ∙ ap mark_text c.in-Text.is ∙ ap Some (sym c.as_str.ensures.same) in
    keyed_leads m d t c.args.def.now.form c.as_str.result.now c.in-Keyed.is mark made

pub returns-in-Bare-clause-lifts : goal.returns-in-Bare-clause-lifts
returns-in-Bare-clause-lifts c = λ m d t there made.
    let is = member_is _ c.args.def.now.members c.args.number c.index-as_slice-number.result m c.as_slice.ensures c.index-as_slice-number.is there in
    let mark : mark_text m.mark ≡ None = ap (λ x. mark_text x.mark) (sym is) ∙ ap (λ x. mark_text x.mark) c.index-as_slice-number.is ∙ no_text _ c.in-Bare.is in
    no_mark m d t c.args.def.now.form c.in-Keyed.is mark made

pub returns-in-Envelope-clause-leads : goal.returns-in-Envelope-clause-leads
returns-in-Envelope-clause-leads c = λ m d t there made apart.
    envelope_leads m d t c.args.def.now.form _ c.in-Envelope.content c.as_str-in-Envelope.result.now c.in-Envelope.is c.as_str-in-Envelope.ensures.same made apart

pub returns-in-Inline-clause-leads : goal.returns-in-Inline-clause-leads
returns-in-Inline-clause-leads c = λ m d t there made apart. inline_leads m d t c.args.def.now.form c.as_str-in-Inline.result.now (c.in-Inline.is ∙ ap U.Inline (sym c.as_str-in-Inline.ensures.same)) made
