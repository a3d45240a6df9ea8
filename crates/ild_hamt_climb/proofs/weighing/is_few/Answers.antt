use Rattle.std.proofs.Common.{◌+◌, ◌^◌, arith}
use Rattle.ild_data.specs.Trie.{node_of, at_depth}
use Rattle.ild_node.specs.NewSlots.{slot_seen}
use Rattle.ild_hamt_climb.proofs.Weights.{exchanged, count-first, count-more, count-done, count-stops}
use Rattle.ild_hamt_climb.proofs.weighing.is_few.Goals as goal

pub loop-j-init : goal.loop-j-init
loop-j-init c = (
  λ ss has. c.slots-slots.ensures c.args.shape ss has,
  λ h left depth ss gs has lt is.
      count-first c.args.shape.bucket (at_depth h c.args.shape depth) (node_of h c.args.shape left (depth + 1)) (2 ^ c.args.shape.width) c.args.i c.new_weight-count.result ss (slot_seen c.args.slot.now) gs
      (exchanged h c.args.shape left depth c.args.i ss (slot_seen c.args.slot.now) gs has.form.many (let e = has.form.many in omega (arith, e, lt)) is) c.new_weight-count.ensures,
)

pub returns-then-count-shape : goal.returns-then-count-shape
returns-then-count-shape c = λ h left depth ss gs has lt is.
    count-stops c.args.shape.bucket (at_depth h c.args.shape depth) c.args.i c.loop-j.j c.loop-j.count gs (c.loop-j.invariant.1 h left depth ss gs has lt is) c.if-count-shape.true

pub loop-j-preserved : goal.loop-j-preserved
loop-j-preserved c = (
  λ ss has. c.next_weight.ensures.walks c.args.view ss has (c.loop-j.invariant.0 ss has) (let e = has.form.many in omega arith),
  λ h left depth ss gs has lt is.
      let sum = c.saturating_add-count.ensures in
      let e = has.form.many in
      count-more c.args.shape.bucket (at_depth h c.args.shape depth) (node_of h c.args.shape left (depth + 1)) (2 ^ c.args.shape.width) c.args.i c.loop-j.j c.loop-j.count c.next_weight.result c.saturating_add-count.result ss (slot_seen c.args.slot.now) gs
      (exchanged h c.args.shape left depth c.args.i ss (slot_seen c.args.slot.now) gs has.form.many (let e = has.form.many in omega (arith, e, lt)) is) (c.loop-j.invariant.1 h left depth ss gs has lt is) (omega arith) c.if-count-shape.false
      (λ apart. c.next_weight.ensures.weighs c.args.view ss has (c.loop-j.invariant.0 ss has) (omega arith) apart) c.next_weight.ensures.passes
      (omega (arith, sum)) (λ few. omega (arith, sum, few)),
)

pub returns : goal.returns
returns c = λ h left depth ss gs has lt is.
    count-done c.args.shape.bucket (at_depth h c.args.shape depth) (node_of h c.args.shape left (depth + 1)) (2 ^ c.args.shape.width) c.args.i c.loop-j.j c.loop-j.count ss (slot_seen c.args.slot.now) gs
    (exchanged h c.args.shape left depth c.args.i ss (slot_seen c.args.slot.now) gs has.form.many (let e = has.form.many in omega (arith, e, lt)) is) (c.loop-j.invariant.1 h left depth ss gs has lt is) (omega arith)
