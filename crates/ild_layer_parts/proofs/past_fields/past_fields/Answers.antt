use Rattle.std.proofs.Common.{arith}
use Rattle.ild_layer_parts.proofs.Passing.{passes_none}
use Rattle.ild_layer_parts.proofs.Sweeping.{fields_pass, sweep_begins, sweep_ends, sweep_on}
use Rattle.ild_layer_parts.specs.Fields.{HasFields}
use Rattle.ild_layer_parts.proofs.past_fields.past_fields.Goals as goal

pub returns-then-fields-gt0-clause-passes : goal.returns-then-fields-gt0-clause-passes
returns-then-fields-gt0-clause-passes c = λ ps h. passes_none c.args.acc.now ps (HasFields c.args.acc.now c.args.fields) h

pub loop-i-init : goal.loop-i-init
loop-i-init c = (omega (arith, c.len-first.ensures), λ all has. sweep_begins c.args.acc.now c.args.fields.def.now.fields all c.len-first.result c.present-present.result has)

pub loop-i-preserved : goal.loop-i-preserved
loop-i-preserved c = (
  omega (arith, c.least-first.ensures.less, c.loop-i.invariant.0),
  λ all has. sweep_on c.args.acc.now c.args.fields.def.now.fields all c.loop-i.first c.least-first.result c.loop-i.present c.next.new.self (c.in-Some.i, c.in-Some.piece) (c.loop-i.invariant.1 all has) c.in-Some.ensures.steps
      c.least-first.ensures.less c.least-first.ensures.fits,
)

pub returns-clause-passes : goal.returns-clause-passes
returns-clause-passes c = λ ps h.
    let w = c.present-present.ensures c.args.acc.now h.ty h.tree h.held h.are in
    fields_pass c.args.acc.now c.args.fields.def.now c.args.fields.parts c.args.fields.next (omega (arith, c.if-fields-gt0.false)) c.loop-i.first ps h w.parts w.present
    (sweep_ends c.args.acc.now c.args.fields.def.now.fields w.parts c.loop-i.first c.loop-i.present c.next.new.self (c.loop-i.invariant.1 w.parts w.left) c.in_default.ensures.steps)
