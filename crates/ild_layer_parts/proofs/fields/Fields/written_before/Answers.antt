use Rattle.std.proofs.Common.{List, ◌∙◌, ap, arith}
use Rattle.ild_schema.specs.declared.def.Field.{Field}
use Rattle.ild_layer_parts.specs.Fields.{written_in}
use Rattle.ild_layer_parts.proofs.FieldSteps.{count_on}
use Rattle.ild_layer_parts.proofs.fields.Fields.written_before.Goals as goal

pub loop-i-preserved : goal.loop-i-preserved
loop-i-preserved c =
    let s = c.args.self.now in (
      omega (arith, c.loop-i-test.true),
      omega (arith, c.loop-i.invariant.1, c.count-written.ensures.most),
      λ rows ps h. count_on rows s.def.now s.parts s.next ps h c.loop-i.i c.loop-i.written c.count-written.result c.field-held.result (c.field-held.ensures.part rows h.ty h.tree h.held h.are)
          (λ f o part. c.count-written.ensures.there rows f o part) (c.loop-i.invariant.2 rows ps h),
    )

pub returns : goal.returns
returns c = λ rows ps h.
    let fs : List Field = c.args.self.now.def.now.fields in
    c.loop-i.invariant.2 rows ps h ∙ ap (λ n. written_in n fs h.held) (omega (arith, c.loop-i-test.false, c.loop-i.invariant.0))
