use Rattle.std.proofs.Common.{◌≡◌, ◌<◌, length, refl, ap, arith}
use Rattle.ild_view.specs.View.{slot_of, table_of}
use Rattle.ild_inclusion.specs.declared.answer.Answer.TheVariants as A
use Rattle.ild_inclusion.proofs.Onward.{arrives, begins, goes_on, leaves, segment_at, stops}
use Rattle.ild_inclusion.proofs.following.follow.Goals as goal

pub loop-k-init : goal.loop-k-init
loop-k-init g c = λ f is. begins g.H.KeyHash.hash_of c.args.root f c.args.path.now is

pub returns-in-Ok-Off : goal.returns-in-Ok-Off
returns-in-Ok-Off g c = λ f is memory.
    let x = c.args.root in
    let path = c.args.path.now in
    let count : length c.as_slice-segments.result.now ≡ length path = ap length c.as_slice-segments.ensures in
    let less : c.loop-k.k < length path = omega (arith, c.loop-k-test.true, count) in
    let here = segment_at c.as_slice-segments.result.now path c.loop-k.k _ c.as_str.result.now c.index-segments-k.result c.as_str.ensures.same c.index-segments-k.is c.as_slice-segments.ensures less in
    leaves g.H.KeyHash.hash_of (table_of x.view) x.room x.at (slot_of x.view, f) path x.left.now c.loop-k.k c.loop-k.stand (c.loop-k.invariant f is) c.as_str.result.now here c.in-Ok-Off.end
    (rw c.in-Ok-Off.field-0-is at c.in-Ok-Off.ensures) c.ended.result (c.ended.ensures (A.Absent c.loop-k.k) refl)

pub returns-in-Err : goal.returns-in-Err
returns-in-Err g c = λ f is memory.
    let x = c.args.root in
    let path = c.args.path.now in
    let count : length c.as_slice-segments.result.now ≡ length path = ap length c.as_slice-segments.ensures in
    let less : c.loop-k.k < length path = omega (arith, c.loop-k-test.true, count) in
    let here = segment_at c.as_slice-segments.result.now path c.loop-k.k _ c.as_str.result.now c.index-segments-k.result c.as_str.ensures.same c.index-segments-k.is c.as_slice-segments.ensures less in
    stops g.H.KeyHash.hash_of (table_of x.view) x.room x.at (slot_of x.view, f) path x.left.now c.loop-k.k c.loop-k.stand (c.loop-k.invariant f is) c.as_str.result.now here c.in-Err.fault c.in-Err.ensures memory

pub loop-k-preserved : goal.loop-k-preserved
loop-k-preserved g c = λ f is.
    let x = c.args.root in
    let path = c.args.path.now in
    let count : length c.as_slice-segments.result.now ≡ length path = ap length c.as_slice-segments.ensures in
    let less : c.loop-k.k < length path = omega (arith, c.loop-k-test.true, count) in
    let here = segment_at c.as_slice-segments.result.now path c.loop-k.k _ c.as_str.result.now c.index-segments-k.result c.as_str.ensures.same c.index-segments-k.is c.as_slice-segments.ensures less in
    goes_on g.H.KeyHash.hash_of (table_of x.view) x.room x.at (slot_of x.view, f) path x.left.now c.loop-k.k c.loop-k.stand (c.loop-k.invariant f is) c.as_str.result.now here c.in-Ok-On.next
    (rw c.in-Ok-On.field-0-is at c.in-Ok-On.ensures)

pub returns : goal.returns
returns g c = λ f is memory.
    let x = c.args.root in
    let path = c.args.path.now in
    let count : length c.as_slice-segments.result.now ≡ length path = ap length c.as_slice-segments.ensures in
    arrives g.H.KeyHash.hash_of (table_of x.view) x.room x.at (slot_of x.view, f) path x.left.now c.loop-k.k c.loop-k.stand (c.loop-k.invariant f is)
    (λ lt. let past = c.loop-k-test.false in omega (arith, past, count, lt)) c.ended-2.result (λ a found. c.ended-2.ensures a found)
