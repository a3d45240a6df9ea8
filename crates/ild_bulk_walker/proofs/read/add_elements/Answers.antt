use Rattle.std.proofs.Common.{arith}
use Rattle.ild_node_slots.proofs.Left.{flipped}
use Rattle.ild_bulk_walker.proofs.Adding.{elements-first, elements-on, elements-off, elements-end}
use Rattle.ild_bulk_walker.proofs.read.add_elements.Goals as goal

pub next-requires : goal.next-requires
next-requires c = tt

pub loop-i-init : goal.loop-i-init
loop-i-init c = λ ds h. elements-first c.args.shape c.args.elements c.args.map.now c.args.held.now.value ds c.args.steps.now.items h c.requires.here

pub add_slot-requires-clause-items : goal.add_slot-requires-clause-items
add_slot-requires-clause-items c = let l = c.loop-i.invariant c.requires.of c.requires.has in record { of = l.more; has = l.left; here = l.here }

pub loop-i-preserved : goal.loop-i-preserved
loop-i-preserved c = λ ds h.
    elements-on c.args.shape c.loop-i.items c.add_slot.new.items c.args.map.now c.loop-i.i _ ds c.args.steps.now.items c.loop-i.steps.items c.add_slot.new.steps.items c.in_ok-add_slot.field-0 (c.loop-i.invariant ds h) (omega arith) c.in_ok-add_slot.ensures
    c.if-not-branch.false

pub returns-then-not-branch : goal.returns-then-not-branch
returns-then-not-branch c = λ ds h.
    elements-off c.args.shape c.loop-i.items c.add_slot.new.items c.args.map.now c.loop-i.i _ ds c.args.steps.now.items c.loop-i.steps.items c.add_slot.new.steps.items c.in_ok-add_slot.field-0 (c.loop-i.invariant ds h) (omega arith) c.in_ok-add_slot.ensures
    c.if-not-branch.true

pub returns : goal.returns
returns c = λ ds h.
    elements-end c.args.shape c.loop-i.items c.next.new.self c.args.map.now c.loop-i.i _ ds c.args.steps.now.items c.loop-i.steps.items c.next.result c.is_none.result (c.loop-i.invariant ds h) (omega arith) c.next.ensures.steps (flipped _ _ c.is_none.ensures)
