use Rattle.std.proofs.Common.{◌≡◌, List, [], ◌∷◌, get_or, length, Some, refl, sym, ◌∙◌, ap, subst, arith}
use Rattle.std.specs.Prelude.{slice_get}
use Rattle.ild_data.proofs.Gets.{got_at}
use Rattle.ild_schema.specs.declared.def.Field.{Field}
use Rattle.ild_union.specs.Forms.{passes_over}
use Rattle.ild_layer_parts.specs.declared.part.Part.{Part}
use Rattle.ild_layer_parts.specs.Ready.{IsReady}
use Rattle.ild_layer_parts.proofs.FieldSteps.{field_found, field_given, field_low, field_passed, field_there, plain_numbered}
use Rattle.ild_layer_parts.proofs.fields.Fields.split_first.Goals as goal

pub returns-in-Some-clause-step : goal.returns-in-Some-clause-step
returns-in-Some-clause-step c = λ rows ps h.
    let s = c.args.self.now in
    let fs : List Field = s.def.now.fields in
    let f : Field = c.index-as_slice-self.result in
    let is : f ≡ get_or fs s.next f = c.index-as_slice-self.is ∙ ap (λ (gs : List Field). get_or gs s.next f) c.as_slice.ensures in
    let known : slice_get fs s.next ≡ Some f = got_at fs s.next f (omega (arith, c.if-self-len.false, c.len.ensures)) is in
    let x = field_there rows s.def.now s.parts s.next ps h f known c.field-held.result (c.field-held.ensures.part rows h.ty h.tree h.held h.are) in
    let g = field_given rows s.def.now s.parts s.next ps h f x.content known x.at c.in-Some.piece c.value_part.result _ c.value_part.ensures (c.in-Some.ensures.part rows f x.content x.is) in
    record { taken = g.first ∷ []; others = g.others; is = g.is; first = (g.first, refl, g.spotted); left = g.left }

pub returns-in-Some-clause-ready : goal.returns-in-Some-clause-ready
returns-in-Some-clause-ready c = λ rows all.
    let s = c.args.self.now in
    let fs : List Field = s.def.now.fields in
    let f : Field = c.index-as_slice-self.result in
    let is : f ≡ get_or fs s.next f = c.index-as_slice-self.is ∙ ap (λ (gs : List Field). get_or gs s.next f) c.as_slice.ensures in
    let known : slice_get fs s.next ≡ Some f = got_at fs s.next f (omega (arith, c.if-self-len.false, c.len.ensures)) is in
    let plain = c.in-Some.ensures.plain (c.field-held.ensures.numbered []) in (
      subst (IsReady rows) (sym c.value_part.ensures) (record {
        within = field_low (length rows) c.args.self.now.def.now.fields c.args.self.now.next c.index-as_slice-self.result all known;
        numbered = plain_numbered rows c.in-Some.piece plain;
        inlined = λ over. absurd (cc (sym over ∙ plain));
      }),
      all,
    )

pub returns-in-None-clause-step : goal.returns-in-None-clause-step
returns-in-None-clause-step c = λ rows ps h.
    let s = c.args.self.now in
    let fs : List Field = s.def.now.fields in
    let f : Field = c.index-as_slice-self.result in
    let is : f ≡ get_or fs s.next f = c.index-as_slice-self.is ∙ ap (λ (gs : List Field). get_or gs s.next f) c.as_slice.ensures in
    let known : slice_get fs s.next ≡ Some f = got_at fs s.next f (omega (arith, c.if-self-len.false, c.len.ensures)) is in
    let x = field_there rows s.def.now s.parts s.next ps h f known c.field-held.result (c.field-held.ensures.part rows h.ty h.tree h.held h.are) in
    let g = field_passed rows s.def.now s.parts s.next ps h f x.content known x.at (c.in-None.ensures.part rows f x.content x.is) in
    record { taken = g.taken; others = g.others; is = g.is; first = g.fit; left = g.left }

pub returns-in-Some-clause-way : goal.returns-in-Some-clause-way
returns-in-Some-clause-way c = λ rows ps left h.
    let s = c.args.self.now in
    let fs : List Field = s.def.now.fields in
    let f : Field = c.index-as_slice-self.result in
    let is : f ≡ get_or fs s.next f = c.index-as_slice-self.is ∙ ap (λ (gs : List Field). get_or gs s.next f) c.as_slice.ensures in
    let known : slice_get fs s.next ≡ Some f = got_at fs s.next f (omega (arith, c.if-self-len.false, c.len.ensures)) is in
    let x = field_there rows s.def.now s.parts s.next ps h f known c.field-held.result (c.field-held.ensures.part rows h.ty h.tree h.held h.are) in
    field_found rows s.def.now s.parts s.next ps h f x.content known x.at c.in-Some.piece (c.in-Some.ensures.part rows f x.content x.is)

pub returns-in-Some-clause-whole : goal.returns-in-Some-clause-whole
returns-in-Some-clause-whole c = ap (λ (x : Part). passes_over x.piece) c.value_part.ensures ∙ c.in-Some.ensures.plain (c.field-held.ensures.numbered [])
