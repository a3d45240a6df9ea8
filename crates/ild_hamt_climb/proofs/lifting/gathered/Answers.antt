use Rattle.std.proofs.Common.{◌+◌, ◌^◌, arith}
use Rattle.std.proofs.Math.Logic.{∥∥₁_map}
use Rattle.ild_data.specs.Trie.{node_of, at_depth}
use Rattle.ild_node.specs.NewSlots.{slot_seen}
use Rattle.ild_node_slots.proofs.Fits.{some-node, slots-at}
use Rattle.ild_hamt_climb.proofs.Weights.{exchanged, gather-first, gather-more, gather-done}
use Rattle.ild_hamt_climb.proofs.lifting.gathered.Goals as goal

pub loop-j-init : goal.loop-j-init
loop-j-init c = (
  λ ss has. c.slots-slots.ensures c.args.shape ss has,
  λ h left depth ss gs has lt order is le.
      gather-first c.args.shape.bucket (at_depth h c.args.shape depth) (node_of h c.args.shape left (depth + 1)) (2 ^ c.args.shape.width) c.args.i ss (slot_seen c.args.slot) gs c.rows_of-rows.result
      (exchanged h c.args.shape left depth c.args.i ss (slot_seen c.args.slot) gs has.form.many (let e = has.form.many in omega (arith, e, lt)) is) le c.rows_of-rows.ensures,
)

pub put_next-requires : goal.put_next-requires
put_next-requires c = ∥∥₁_map (some-node c.args.view) (λ n.
    let has = slots-at c.args.shape c.args.view c.requires n in
    record { shape = c.args.shape; view = c.args.view; slots = n.slots; has = has; at = c.loop-j.invariant.0 n.slots has })

pub loop-j-preserved : goal.loop-j-preserved
loop-j-preserved c = (
  λ ss has. c.in_ok-put_next.ensures.walks c.args.shape c.args.view ss has (c.loop-j.invariant.0 ss has) (let e = has.form.many in omega arith),
  λ h left depth ss gs has lt order is le.
      let e = has.form.many in
      gather-more c.args.shape.bucket (at_depth h c.args.shape depth) (node_of h c.args.shape left (depth + 1)) (2 ^ c.args.shape.width) c.args.i c.loop-j.j ss (slot_seen c.args.slot) gs c.loop-j.rows c.put_next.new.rows
      (exchanged h c.args.shape left depth c.args.i ss (slot_seen c.args.slot) gs has.form.many (let e = has.form.many in omega (arith, e, lt)) is) order le (omega arith) (c.loop-j.invariant.1 h left depth ss gs has lt order is le)
      (λ apart. c.in_ok-put_next.ensures.puts c.args.shape c.args.view ss has (c.loop-j.invariant.0 ss has) (omega arith) apart) c.in_ok-put_next.ensures.stays,
)

pub returns-clause-same : goal.returns-clause-same
returns-clause-same c = λ h left depth ss gs has lt order is le.
    gather-done c.args.shape.bucket (at_depth h c.args.shape depth) (node_of h c.args.shape left (depth + 1)) (2 ^ c.args.shape.width) c.args.i c.loop-j.j ss (slot_seen c.args.slot) gs c.loop-j.rows (slot_seen c.few_slot.result)
    (exchanged h c.args.shape left depth c.args.i ss (slot_seen c.args.slot) gs has.form.many (let e = has.form.many in omega (arith, e, lt)) is) le (c.loop-j.invariant.1 h left depth ss gs has lt order is le) (omega arith) c.few_slot.ensures.same
