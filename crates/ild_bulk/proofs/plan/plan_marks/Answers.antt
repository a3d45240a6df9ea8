use Rattle.std.proofs.Common.{List, arith, sym, subst, map}
use Rattle.std.proofs.lemmas.Result.{err_from_is_err_and}
use Rattle.ild_data.specs.Trie.{at_depth, part}
use Rattle.ild_node.specs.Hashed.{AreHashed}
use Rattle.ild_node.specs.declared.hashed.HashedEntry.{HashedEntry}
use Rattle.ild_node_slots.proofs.Shapes.{pow_few}
use Rattle.ild_bulk.specs.Keyed.{AreMarked, mark_behind}
use Rattle.ild_bulk.specs.declared.entries.BorrowedMark.{BorrowedMark}
use Rattle.ild_bulk.proofs.Apart.{marks-in}
use Rattle.ild_bulk.proofs.Building.{plans-step, plans-stop, plans-done}
use Rattle.ild_bulk.proofs.Keys.{rows-part}
use Rattle.ild_bulk.proofs.plan.plan_marks.Goals as goal

pub overflow_cast-i : goal.overflow_cast-i
overflow_cast-i c = omega (arith, pow_few c.args.shape)

pub loop-i-preserved : goal.loop-i-preserved
loop-i-preserved c = λ h es are rows.
    let was = c.loop-i.invariant h es are rows in
    let marks = marks-in c.args.shape h c.args.depth c.args.bytes.now es c.args.parts.now c.loop-i.i c.index-parts-i.result are (omega arith) c.index-parts-i.is in
    let here = c.in_ok-part.ensures h (part (at_depth h c.args.shape c.args.depth) es c.loop-i.i)
    (subst (λ (ms : List BorrowedMark). AreMarked h c.args.bytes.now (part (at_depth h c.args.shape c.args.depth) es c.loop-i.i) (map mark_behind ms)) (sym c.deref.ensures.value) marks) in
    plans-step h c.args.shape c.args.depth es c.loop-i.i c.loop-i.draft c.plan_part.new.draft c.args.blocks.now.items c.loop-i.blocks.items c.plan_part.new.blocks.items was
    (c.in_ok-plan_part.ensures h (part (at_depth h c.args.shape c.args.depth) es c.loop-i.i) (subst (λ (ks : List HashedEntry). AreHashed h (part (at_depth h c.args.shape c.args.depth) es c.loop-i.i) ks) (sym c.deref-in-loop-i.ensures.value) here)
    (rows-part (at_depth h c.args.shape c.args.depth) es c.loop-i.i rows) was.slots was.written was.many)

pub returns-in_err-plan_part : goal.returns-in_err-plan_part
returns-in_err-plan_part c = λ h es are rows.
    let p = err_from_is_err_and c.from_residual-in_err-plan_part.result c.from_residual-in_err-plan_part.ensures.1 in
    let was = c.loop-i.invariant h es are rows in
    let marks = marks-in c.args.shape h c.args.depth c.args.bytes.now es c.args.parts.now c.loop-i.i c.index-parts-i.result are (omega arith) c.index-parts-i.is in
    let here = c.in_ok-part.ensures h (part (at_depth h c.args.shape c.args.depth) es c.loop-i.i)
    (subst (λ (ms : List BorrowedMark). AreMarked h c.args.bytes.now (part (at_depth h c.args.shape c.args.depth) es c.loop-i.i) (map mark_behind ms)) (sym c.deref.ensures.value) marks) in
    rw (p.1, p.2) (plans-stop h c.args.shape c.args.depth es c.loop-i.i c.in_err-plan_part.field-0.0 c.args.blocks.now.items c.plan_part.new.blocks.items c.loop-i.blocks.items c.plan_part.new.blocks.items (omega arith) (omega arith) was.slots c.plan_part.new.draft
    (c.in_err-plan_part.ensures h (part (at_depth h c.args.shape c.args.depth) es c.loop-i.i) (subst (λ (ks : List HashedEntry). AreHashed h (part (at_depth h c.args.shape c.args.depth) es c.loop-i.i) ks) (sym c.deref-in-loop-i.ensures.value) here)
    (rows-part (at_depth h c.args.shape c.args.depth) es c.loop-i.i rows) was.slots was.written was.many))

pub returns : goal.returns
returns c = λ h es are rows.
    let was = c.loop-i.invariant h es are rows in
    let many = was.many in
    let written = c.in_ok-finish.ensures c.args.shape was.slots was.written (omega (arith, many)) in
    plans-done h c.args.shape c.args.depth es c.loop-i.i c.loop-i.draft _ _ c.in_ok-finish.field-0 (omega arith) (omega arith) was written.spelled
