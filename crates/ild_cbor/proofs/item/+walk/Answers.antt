use Rattle.std.proofs.Common.{Ok, Err, sym, ap, ◌∙◌, arith}
use Rattle.std.specs.Prelude.{option_map}
use Rattle.std.proofs.lemmas.Result.{err_from_is_err_and}
use Rattle.ild_cbor.specs.Reading.{part_at}
use Rattle.ild_cbor.proofs.Walks.{part_rest, items_step, items_stop, items_end, members_step, members_no_key, members_no_order, members_no_part, members_end}
use Rattle.ild_cbor.proofs.item.+walk.Goals as goal

pub items-loop-preserved : goal.items-loop-preserved
items-loop-preserved t c =
    let first = part_rest c.args.room c.loop.rest.now (Ok c.in_ok-rest.rest.now) c.requires c.in_ok-rest.ensures in
    items_step (part_at c.args.room) c.args.n c.loop.counter c.loop.rest.now c.in_ok-rest.rest.now _ (omega arith) first c.loop.invariant

pub items-returns-in_err-rest : goal.items-returns-in_err-rest
items-returns-in_err-rest t c =
    let p = err_from_is_err_and c.from_residual.result c.from_residual.ensures.1 in
    let first = part_rest c.args.room c.loop.rest.now (Err c.in_err-rest.field-0.0) c.requires c.in_err-rest.ensures in
    rw (p.1, p.2) (items_stop (part_at c.args.room) c.args.n c.loop.counter c.loop.rest.now c.in_err-rest.field-0.0 _ (omega arith) first c.loop.invariant)

pub items-returns : goal.items-returns
items-returns t c = items_end (part_at c.args.room) c.args.n c.loop.counter c.loop.rest.now _ (omega arith) c.loop.invariant

pub members-returns-in_err-next : goal.members-returns-in_err-next
members-returns-in_err-next t c =
    let p = err_from_is_err_and c.from_residual.result c.from_residual.ensures.1 in
    rw (p.1, p.2) (members_no_key (part_at c.args.room) (option_map (λ k. k.now) c.loop.before) c.args.n c.loop.counter c.loop.rest.now c.in_err-next.field-0.0 _ (omega arith) c.in_err-next.ensures c.loop.invariant)

pub members-returns-then-not-in_order : goal.members-returns-then-not-in_order
members-returns-then-not-in_order t c =
    members_no_order (part_at c.args.room) (option_map (λ k. k.now) c.loop.before) c.args.n c.loop.counter c.loop.rest.now c.in_ok-next.next.now c.in_ok-next.value.now _ (omega arith)
    c.in_ok-next.ensures (sym c.if-not-in_order.ensures) c.loop.invariant ∙ ap Err (sym c.stop_before.ensures)

pub members-returns-in_err-rest : goal.members-returns-in_err-rest
members-returns-in_err-rest t c =
    let p = err_from_is_err_and c.from_residual-in_err-rest.result c.from_residual-in_err-rest.ensures.1 in
    let first = part_rest c.args.room c.in_ok-next.value.now (Err c.in_err-rest.field-0.0) c.requires c.in_err-rest.ensures in
    rw (p.1, p.2) (members_no_part (part_at c.args.room) (option_map (λ k. k.now) c.loop.before) c.args.n c.loop.counter c.loop.rest.now c.in_ok-next.next.now c.in_ok-next.value.now c.in_err-rest.field-0.0 _ (omega arith)
    c.in_ok-next.ensures (sym c.if-not-in_order.ensures) first c.loop.invariant)

pub members-loop-preserved : goal.members-loop-preserved
members-loop-preserved t c =
    let first = part_rest c.args.room c.in_ok-next.value.now (Ok c.in_ok-rest.rest.now) c.requires c.in_ok-rest.ensures in
    members_step (part_at c.args.room) (option_map (λ k. k.now) c.loop.before) c.args.n c.loop.counter c.loop.rest.now c.in_ok-next.next.now c.in_ok-next.value.now c.in_ok-rest.rest.now _ (omega arith)
    c.in_ok-next.ensures (sym c.if-not-in_order.ensures) first c.loop.invariant

pub members-returns : goal.members-returns
members-returns t c = members_end (part_at c.args.room) (option_map (λ k. k.now) c.loop.before) c.args.n c.loop.counter c.loop.rest.now _ (omega arith) c.loop.invariant
