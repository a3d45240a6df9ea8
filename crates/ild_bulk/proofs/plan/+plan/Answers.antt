use Rattle.std.proofs.Common.{rules, List, ◌-◌, ◌+◌, ◌^◌, ◌∙◌, arith, sym, subst}
use Rattle.std.proofs.lemmas.Result.{err_from_is_err_and}
use Rattle.ild_data.specs.Trie.{at_depth, part}
use Rattle.ild_data.specs.TrieShape.{trie_levels}
use Rattle.ild_node.specs.Hashed.{AreHashed}
use Rattle.ild_node.specs.declared.hashed.HashedEntry.{HashedEntry}
use Rattle.ild_node.proofs.Drafting.{hashed-many, written-skip}
use Rattle.ild_node_slots.proofs.Shapes.{pow_few}
use Rattle.ild_bulk.proofs.Building.{plans-exhausted, plans-first, plans-step, plans-skip, plans-stop, plans-done, into-empty, into-few, into-many, into-stop, fills}
use Rattle.ild_bulk.proofs.Keys.{hashed-part, hashed-in, parted-has, rows-part}
use Rattle.ild_bulk.proofs.plan.+plan.Goals as goal

pub plan_node-returns-then-not-has_level : goal.plan_node-returns-then-not-has_level
plan_node-returns-then-not-has_level t c = λ h es are rows. plans-exhausted h c.args.shape c.args.depth es (c.has_level.ensures.no c.if-not-has_level.true)

pub plan_many-returns : goal.plan_many-returns
plan_many-returns t c = λ h es are rows. c.in_ok-block.ensures h es (parted-has h c.args.shape c.args.depth es c.args.entries.now _ _ are c.in_ok-parts.ensures c.deref.ensures.value) rows

pub plan_many-returns-in_err-block : goal.plan_many-returns-in_err-block
plan_many-returns-in_err-block t c = λ h es are rows.
    let p = err_from_is_err_and c.from_residual-in_err-block.result c.from_residual-in_err-block.ensures.1 in
    rw (p.1, p.2) (c.in_err-block.ensures h es (parted-has h c.args.shape c.args.depth es c.args.entries.now _ _ are c.in_ok-parts.ensures c.deref.ensures.value) rows)

pub plan_parts-overflow_cast-i : goal.plan_parts-overflow_cast-i
plan_parts-overflow_cast-i t c = omega (arith, pow_few c.args.shape)

pub plan_parts-loop-i-init : goal.plan_parts-loop-i-init
plan_parts-loop-i-init t c = λ h es are rows. plans-first h c.args.shape c.args.depth es _ _ c.in_ok-draft.ensures

pub plan_parts-loop-i-preserved : goal.plan_parts-loop-i-preserved
plan_parts-loop-i-preserved t c = λ h es are rows.
    let was = c.loop-i.invariant h es are rows in
    let here = hashed-in h c.args.shape c.args.depth (2 ^ c.args.shape.width) es are.pieces c.args.parts.now c.loop-i.i c.index-parts-i.result are.are are.parted (omega arith) c.index-parts-i.is in
    plans-step h c.args.shape c.args.depth es c.loop-i.i c.loop-i.draft c.plan_part.new.draft c.args.blocks.now.items c.loop-i.blocks.items c.plan_part.new.blocks.items was
    (c.in_ok-plan_part.ensures h (part (at_depth h c.args.shape c.args.depth) es c.loop-i.i) (subst (λ (ks : List HashedEntry). AreHashed h (part (at_depth h c.args.shape c.args.depth) es c.loop-i.i) ks) (sym c.deref.ensures.value) here)
    (rows-part (at_depth h c.args.shape c.args.depth) es c.loop-i.i rows) was.slots was.written was.many)

pub plan_parts-returns-in_err-plan_part : goal.plan_parts-returns-in_err-plan_part
plan_parts-returns-in_err-plan_part t c = λ h es are rows.
    let p = err_from_is_err_and c.from_residual-in_err-plan_part.result c.from_residual-in_err-plan_part.ensures.1 in
    let was = c.loop-i.invariant h es are rows in
    let here = hashed-in h c.args.shape c.args.depth (2 ^ c.args.shape.width) es are.pieces c.args.parts.now c.loop-i.i c.index-parts-i.result are.are are.parted (omega arith) c.index-parts-i.is in
    rw (p.1, p.2) (plans-stop h c.args.shape c.args.depth es c.loop-i.i c.in_err-plan_part.field-0.0 c.args.blocks.now.items c.plan_part.new.blocks.items c.loop-i.blocks.items c.plan_part.new.blocks.items (omega arith) (omega arith) was.slots c.plan_part.new.draft
    (c.in_err-plan_part.ensures h (part (at_depth h c.args.shape c.args.depth) es c.loop-i.i) (subst (λ (ks : List HashedEntry). AreHashed h (part (at_depth h c.args.shape c.args.depth) es c.loop-i.i) ks) (sym c.deref.ensures.value) here)
    (rows-part (at_depth h c.args.shape c.args.depth) es c.loop-i.i rows) was.slots was.written was.many))

pub plan_parts-returns : goal.plan_parts-returns
plan_parts-returns t c = λ h es are rows.
    let was = c.loop-i.invariant h es are rows in
    let many = was.many in
    let written = c.in_ok-finish.ensures c.args.shape was.slots was.written (omega (arith, many)) in
    plans-done h c.args.shape c.args.depth es c.loop-i.i c.loop-i.draft _ _ c.in_ok-finish.field-0 (omega arith) (omega arith) was written.spelled

pub plan_few-overflow_cast-i : goal.plan_few-overflow_cast-i
plan_few-overflow_cast-i t c = omega (arith, pow_few c.args.shape)

pub plan_few-loop-i-init : goal.plan_few-loop-i-init
plan_few-loop-i-init t c = record {
  most = c.next_index-i.ensures.most;
  plans = λ h es are rows.
      plans-skip h c.args.shape c.args.depth es c.args.entries.now 0 c.next_index-i.result c.in_ok-draft.draft c.args.blocks.now.items c.args.blocks.now.items are (plans-first h c.args.shape c.args.depth es _ _ c.in_ok-draft.ensures) (omega arith)
      c.next_index-i.ensures.most c.next_index-i.ensures.none;
}

pub plan_few-loop-i-preserved : goal.plan_few-loop-i-preserved
plan_few-loop-i-preserved t c = record {
  most = c.next_index-i-in-loop-i.ensures.most;
  plans = λ h es are rows.
      let was = c.loop-i.invariant.plans h es are rows in
      let here = hashed-part h c.args.shape c.args.depth es c.args.entries.now c.loop-i.i are in
      let step = plans-step h c.args.shape c.args.depth es c.loop-i.i c.loop-i.draft c.plan_part.new.draft c.args.blocks.now.items c.loop-i.blocks.items c.plan_part.new.blocks.items was
      (c.in_ok-plan_part.ensures h (part (at_depth h c.args.shape c.args.depth) es c.loop-i.i)
      (subst (λ (ks : List HashedEntry). AreHashed h (part (at_depth h c.args.shape c.args.depth) es c.loop-i.i) ks) (sym (c.deref.ensures.value ∙ c.in_ok-part_of.ensures)) here)
      (rows-part (at_depth h c.args.shape c.args.depth) es c.loop-i.i rows) was.slots was.written was.many) in
      plans-skip h c.args.shape c.args.depth es c.args.entries.now (c.loop-i.i + 1) c.next_index-i-in-loop-i.result c.plan_part.new.draft c.args.blocks.now.items c.plan_part.new.blocks.items are step
      (c.next_index-i-in-loop-i.ensures.from (omega arith)) c.next_index-i-in-loop-i.ensures.most c.next_index-i-in-loop-i.ensures.none;
}

pub plan_few-returns-in_err-plan_part : goal.plan_few-returns-in_err-plan_part
plan_few-returns-in_err-plan_part t c = λ h es are rows.
    let p = err_from_is_err_and c.from_residual-in_err-plan_part.result c.from_residual-in_err-plan_part.ensures.1 in
    let was = c.loop-i.invariant.plans h es are rows in
    let here = hashed-part h c.args.shape c.args.depth es c.args.entries.now c.loop-i.i are in
    rw (p.1, p.2) (plans-stop h c.args.shape c.args.depth es c.loop-i.i c.in_err-plan_part.field-0.0 c.args.blocks.now.items c.plan_part.new.blocks.items c.loop-i.blocks.items c.plan_part.new.blocks.items (omega arith) (omega arith) was.slots c.plan_part.new.draft
    (c.in_err-plan_part.ensures h (part (at_depth h c.args.shape c.args.depth) es c.loop-i.i)
    (subst (λ (ks : List HashedEntry). AreHashed h (part (at_depth h c.args.shape c.args.depth) es c.loop-i.i) ks) (sym (c.deref.ensures.value ∙ c.in_ok-part_of.ensures)) here)
    (rows-part (at_depth h c.args.shape c.args.depth) es c.loop-i.i rows) was.slots was.written was.many))

pub plan_few-returns : goal.plan_few-returns
plan_few-returns t c = λ h es are rows.
    let was = c.loop-i.invariant.plans h es are rows in
    let most = c.loop-i.invariant.most in
    let many = was.many in
    let written = c.in_ok-finish.ensures c.args.shape was.slots was.written (omega (arith, many, most)) in
    plans-done h c.args.shape c.args.depth es c.loop-i.i c.loop-i.draft _ _ c.in_ok-finish.field-0 (omega arith) (omega (arith, most)) was written.spelled

pub plan_part-returns-then-is_empty : goal.plan_part-returns-then-is_empty
plan_part-returns-then-is_empty t c = λ h es are rows slots was at.
    let many = hashed-many h es c.args.entries.now are in
    into-empty h c.args.shape (trie_levels c.args.shape - c.args.depth) c.args.depth es slots _ _ (grind (arith, many)) (written-skip c.args.shape _ slots was (omega (arith, at, c.requires)))

pub plan_part-returns-then-entries-shape : goal.plan_part-returns-then-entries-shape
plan_part-returns-then-entries-shape t c = λ h es are rows slots was at.
    let many = hashed-many h es c.args.entries.now are in
    into-few h c.args.shape (trie_levels c.args.shape - c.args.depth) c.args.depth es slots _ _ (grind (arith, many)) (omega (arith, many))
    (c.in_ok-bucket.ensures c.args.shape h es are (fills c.args.shape h es c.args.entries.now are rows (grind arith) (omega arith)) slots was at c.requires)

pub plan_child-returns-in_err-plan_node : goal.plan_child-returns-in_err-plan_node
plan_child-returns-in_err-plan_node t c = λ h es are rows slots was at.
    let p = err_from_is_err_and c.from_residual.result c.from_residual.ensures.1 in
    let many = hashed-many h es c.args.entries.now are in
    rw (p.1, p.2) (into-stop h c.args.shape (trie_levels c.args.shape - c.args.depth) c.args.depth es c.in_err-plan_node.field-0.0 slots _ c.args.blocks.now.items c.plan_node.new.blocks.items c.plan_node.new.blocks.items
    (omega (arith, c.requires.many, many)) (c.in_err-plan_node.ensures h es are rows))

pub plan_child-returns : goal.plan_child-returns
plan_child-returns t c = λ h es are rows slots was at.
    let many = hashed-many h es c.args.entries.now are in
    into-many h c.args.shape (trie_levels c.args.shape - c.args.depth) c.args.depth es slots _ c.args.blocks.now.items c.plan_node.new.blocks.items _ c.in_ok-plan_node.field-0 c.id.result
    (omega (arith, c.requires.many, many)) (c.in_ok-plan_node.ensures h es are rows) (search rules) (search rules) (search rules)
