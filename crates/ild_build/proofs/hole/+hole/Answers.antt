use Rattle.std.proofs.Common.{◌≡◌, Some, false, sym, ◌∙◌, arith, length}
use Rattle.ild_schema.specs.ValueSeen.{value_of}
use Rattle.ild_typed.specs.Judged.{is_hole, has_hole}
use Rattle.ild_build.specs.PartAt.{places}
use Rattle.ild_build.proofs.PartTests.{part_lower, by_part, by_parts, parts_next, parts_absent}
use Rattle.ild_build.proofs.hole.+hole.Goals as goal
use Rattle.ild_build.proofs.hole.+hole.Goals.{in-Some+else-has_hole, in_default}

pub has_hole-requires : goal.has_hole-requires
has_hole-requires t c =
    let lower = part_lower (Some c.form_of-def.result.now) (value_of c.args.val.now) c.loop-i.i c.in-Some.slot (value_of c.in-Some.part.now) (sym c.in-Some.ensures.same) in
    (omega arith, c.in-Some.ensures.within (length c.args.acc.now) c.form_of-def.ensures.within)

pub returns-then-has_hole : goal.returns-then-has_hole
returns-then-has_hole t c =
    sym (by_part is_hole c.args.acc.now c.args.slot (value_of c.args.val.now) c.form_of-def.result.now c.form_of-def.ensures.same c.loop-i.i c.in-Some.slot (value_of c.in-Some.part.now)
    (sym c.in-Some.ensures.same) (sym c.has_hole.ensures ∙ c.if-has_hole.true))

pub loop-i-preserved : goal.loop-i-preserved
loop-i-preserved t c =
    elim c.match-part_at.branch [
      | in-Some+else-has_hole w ↦ parts_next (λ u x. has_hole c.args.acc.now u x ≡ false) c.form_of-def.result.now (value_of c.args.val.now) c.loop-i.i w.in-Some.slot (value_of w.in-Some.part.now)
          (sym w.in-Some.ensures.same) (sym w.has_hole.ensures ∙ w.if-has_hole.false) c.loop-i.invariant
      | in_default w ↦ parts_absent (λ u x. has_hole c.args.acc.now u x ≡ false) c.form_of-def.result.now (value_of c.args.val.now) c.loop-i.i (sym w.in_default.ensures.same) c.loop-i.invariant
    ]

pub returns-then-has_leaves : goal.returns-then-has_leaves
returns-then-has_leaves t c =
    let v = value_of c.args.val.now in
    let leaves = c.has_leaves.ensures c.if-has_leaves.true in
    sym (by_parts is_hole c.args.acc.now c.args.slot v c.form_of-def.result.now c.form_of-def.ensures.same (sym c.is_hole.ensures ∙ c.if-is_hole.false) (places v) (omega arith) (λ j u w less at. (leaves.each v j u w at).hole))

pub returns : goal.returns
returns t c =
    sym (by_parts is_hole c.args.acc.now c.args.slot (value_of c.args.val.now) c.form_of-def.result.now c.form_of-def.ensures.same (sym c.is_hole.ensures ∙ c.if-is_hole.false) c.loop-i.i (omega arith) c.loop-i.invariant)
