use Rattle.std.proofs.Common.{◌≡◌, Some, false, length, sym, ◌∙◌, arith}
use Rattle.ild_schema.specs.declared.number.Slot.{Slot}
use Rattle.ild_schema.specs.Value.{Value}
use Rattle.ild_schema.specs.ValueSeen.{value_of}
use Rattle.ild_typed.specs.Judged.{breaks, breaks_delimiter, has_hole}
use Rattle.ild_typed.specs.Typed.{Typed}
use Rattle.ild_build.specs.PartAt.{places}
use Rattle.ild_build.proofs.PartTests.{part_lower, by_part, by_parts, parts_next, parts_absent}
use Rattle.ild_build.proofs.PartFits.{answer_joined, text_layer, no_break_here, part_is_typed, part_free}
use Rattle.ild_build.proofs.joined.+joined.Goals as goal
use Rattle.ild_build.proofs.joined.+joined.Goals.{in-Some+in_ok-breaks_delimiter+else-branch, in_default}

pub returns-then-is_text_layer : goal.returns-then-is_text_layer
returns-then-is_text_layer t c =
    let rows = c.args.acc.now in
    let v = value_of c.args.val.now in
    let layer = text_layer rows c.args.slot v c.form_of-def.result.now c.form_of-def.ensures.same (sym c.is_text_layer.ensures ∙ c.if-is_text_layer.true) in
    λ typed hole. answer_joined rows c.recall.ensures.legible.made c.args.slot v layer typed hole _ _ c.in_ok-add_text.field-0 c.in_ok-add_text.ensures

pub breaks_delimiter-requires : goal.breaks_delimiter-requires
breaks_delimiter-requires t c =
    let lower = part_lower (Some c.form_of-def.result.now) (value_of c.args.val.now) c.loop-i.i c.in-Some.slot (value_of c.in-Some.part.now) (sym c.in-Some.ensures.same) in
    (omega arith, c.in-Some.ensures.within (length c.args.acc.now) c.form_of-def.ensures.within)

pub returns-then-branch : goal.returns-then-branch
returns-then-branch t c = λ typed hole.
    let rows = c.args.acc.now in
    let v = value_of c.args.val.now in
    let d = c.form_of-def.result.now in
    let w = value_of c.in-Some.part.now in
    let at = sym c.in-Some.ensures.same in
    let part = c.in_ok-breaks_delimiter.ensures (part_is_typed rows c.args.slot v d c.form_of-def.ensures.same typed c.loop-i.i c.in-Some.slot w at) (part_free rows c.args.slot v d c.form_of-def.ensures.same hole c.loop-i.i c.in-Some.slot w at) in
    sym (by_part (breaks rows) rows c.args.slot v d c.form_of-def.ensures.same c.loop-i.i c.in-Some.slot w at (sym part ∙ c.if-branch.true))

pub loop-i-preserved : goal.loop-i-preserved
loop-i-preserved t c =
    let rows = c.args.acc.now in
    let Q : Slot → Value → Type 0 = λ u x. Typed rows u x → has_hole rows u x ≡ false → breaks_delimiter rows u x ≡ false in
    elim c.match-part_at.branch [
      | in-Some+in_ok-breaks_delimiter+else-branch w ↦ parts_next Q c.form_of-def.result.now (value_of c.args.val.now) c.loop-i.i w.in-Some.slot (value_of w.in-Some.part.now) (sym w.in-Some.ensures.same)
          (λ typed hole. sym (w.in_ok-breaks_delimiter.ensures typed hole) ∙ w.if-branch.false) c.loop-i.invariant
      | in_default w ↦ parts_absent Q c.form_of-def.result.now (value_of c.args.val.now) c.loop-i.i (sym w.in_default.ensures.same) c.loop-i.invariant
    ]

pub returns-then-has_leaves : goal.returns-then-has_leaves
returns-then-has_leaves t c = λ typed hole.
    let rows = c.args.acc.now in
    let v = value_of c.args.val.now in
    let d = c.form_of-def.result.now in
    let leaves = c.has_leaves.ensures c.if-has_leaves.true in
    sym (by_parts (breaks rows) rows c.args.slot v d c.form_of-def.ensures.same (no_break_here rows d v (sym c.is_text_layer.ensures ∙ c.if-is_text_layer.false)) (places v) (omega arith)
    (λ j u w less at. (leaves.each v j u w at).delimiter))

pub returns : goal.returns
returns t c = λ typed hole.
    let rows = c.args.acc.now in
    let v = value_of c.args.val.now in
    let d = c.form_of-def.result.now in
    sym (by_parts (breaks rows) rows c.args.slot v d c.form_of-def.ensures.same (no_break_here rows d v (sym c.is_text_layer.ensures ∙ c.if-is_text_layer.false)) c.loop-i.i (omega arith)
    (λ j u w less at. c.loop-i.invariant j u w less at (part_is_typed rows c.args.slot v d c.form_of-def.ensures.same typed j u w at) (part_free rows c.args.slot v d c.form_of-def.ensures.same hole j u w at)))
