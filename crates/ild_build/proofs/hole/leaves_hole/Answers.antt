use Rattle.std.proofs.Common.{◌+◌, sym, subst, arith}
use Rattle.ild_schema.specs.ValueSeen.{value_of}
use Rattle.ild_build.proofs.Holes.{IsMet, met_absent, met_present, met_hole, met_all}
use Rattle.ild_build.proofs.hole.leaves_hole.Goals as goal
use Rattle.ild_build.proofs.hole.leaves_hole.Goals.{in-Some+else-absent, in-None}

pub returns-then-absent : goal.returns-then-absent
returns-then-absent c = sym (met_hole c.args.fields.now (value_of c.in-Some.field-0.now) c.loop-i.i c.loop-i.absent c.if-absent.true (sym c.in-Some.ensures) c.loop-i.invariant)

pub loop-i-preserved : goal.loop-i-preserved
loop-i-preserved c =
    elim c.match-field_at.branch [
      | in-Some+else-absent w ↦ subst (λ b. IsMet c.args.fields.now b (c.loop-i.i + 1)) (sym w.absent-is)
          (met_present c.args.fields.now (value_of w.in-Some.field-0.now) c.loop-i.i c.loop-i.absent w.if-absent.false (sym w.in-Some.ensures) c.loop-i.invariant)
      | in-None w ↦ subst (λ b. IsMet c.args.fields.now b (c.loop-i.i + 1)) (sym w.absent-is) (met_absent c.args.fields.now c.loop-i.absent c.loop-i.i (sym w.in-None.ensures) c.loop-i.invariant)
    ]

pub returns : goal.returns
returns c = sym (met_all c.args.fields.now c.loop-i.absent c.loop-i.i (omega arith) c.loop-i.invariant)
