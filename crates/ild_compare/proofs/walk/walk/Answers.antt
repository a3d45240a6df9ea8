use Rattle.std.proofs.Common.{map, arith}
use Rattle.std.proofs.lemmas.List.{length-map}
use Rattle.std.proofs.lemmas.Result.{err_from_is_err_and}
use Rattle.ild_dirty.specs.Beneath.{child_seen}
use Rattle.ild_open_parts.proofs.Turning.{only_refl}
use Rattle.ild_compare.proofs.Growing.{seen_at}
use Rattle.ild_compare.proofs.Walking.{walk_ends, walk_parts, walk_stops, walked_more, walked_none}
use Rattle.ild_compare.proofs.walk.walk.Goals as goal

pub loop-passed-init : goal.loop-passed-init
loop-passed-init g c =
    walked_none c.args.acc.now c.args.ty c.args.root.now (g.K.Store.moment c.args.left.now) (g.L.Store.moment c.args.right.now) (map child_seen c.add_told.new.list.items) (only_refl _) (only_refl _)
    (rw c.new-list.ensures.items at c.in_ok-add_told.ensures)

pub returns-in_err-parted : goal.returns-in_err-parted
returns-in_err-parted g c =
    let m = g.K.Store.moment c.args.left.now in
    let n = g.L.Store.moment c.args.right.now in
    let x = c.index-child.result.now in
    let y = seen_at c.loop-passed.list.items c.loop-passed.passed x (omega (arith, c.loop-passed-test.true, c.len.ensures)) c.index-child.ensures in
    let p = err_from_is_err_and c.from_residual-in_err-parted.result c.from_residual-in_err-parted.ensures.1 in
    rw (p.1, p.2) (walk_stops c.args.acc.now c.args.ty c.args.root.now m n c.loop-passed.passed (map child_seen c.loop-passed.list.items) _ _ c.loop-passed.invariant (child_seen x) y.0 y.1
    (map child_seen c.step.new.list.items) (g.K.Store.moment c.step.new.left) (g.L.Store.moment c.step.new.right) c.in_err-parted.field-0.0 c.in_err-parted.ensures)

pub returns-in-Some : goal.returns-in-Some
returns-in-Some g c =
    let m = g.K.Store.moment c.args.left.now in
    let n = g.L.Store.moment c.args.right.now in
    let x = c.index-child.result.now in
    let y = seen_at c.loop-passed.list.items c.loop-passed.passed x (omega (arith, c.loop-passed-test.true, c.len.ensures)) c.index-child.ensures in
    walk_parts c.args.acc.now c.args.ty c.args.root.now m n c.loop-passed.passed (map child_seen c.loop-passed.list.items) _ _ c.loop-passed.invariant (child_seen x) y.0 y.1
    (map child_seen c.step.new.list.items) (g.K.Store.moment c.step.new.left) (g.L.Store.moment c.step.new.right) c.in-Some.pair (rw c.in-Some.is at c.in_ok-parted.ensures)

pub loop-passed-preserved : goal.loop-passed-preserved
loop-passed-preserved g c =
    let m = g.K.Store.moment c.args.left.now in
    let n = g.L.Store.moment c.args.right.now in
    let x = c.index-child.result.now in
    let y = seen_at c.loop-passed.list.items c.loop-passed.passed x (omega (arith, c.loop-passed-test.true, c.len.ensures)) c.index-child.ensures in
    walked_more c.args.acc.now c.args.ty c.args.root.now m n c.loop-passed.passed (map child_seen c.loop-passed.list.items) _ _ c.loop-passed.invariant (child_seen x) y.0 y.1
    (map child_seen c.step.new.list.items) (g.K.Store.moment c.step.new.left) (g.L.Store.moment c.step.new.right) (rw c.in-None.is at c.in_ok-parted.ensures)

pub returns : goal.returns
returns g c =
    walk_ends c.args.acc.now c.args.ty c.args.root.now (g.K.Store.moment c.args.left.now) (g.L.Store.moment c.args.right.now) c.loop-passed.passed (map child_seen c.loop-passed.list.items) _ _
    (let same = length-map c.loop-passed.list.items child_seen in omega (arith, c.loop-passed-test.false, c.len.ensures, same)) c.loop-passed.invariant
