use Rattle.std.proofs.Common.{◌≡◌, ◌<◌, ◌≤◌, ◌+◌, length, refl, ap, arith}
use Rattle.ild_view.proofs.Indexing.{segment_at}
use Rattle.ild_view.proofs.Reaching.{walked_begins, walked_ends, walked_on, walked_stops}
use Rattle.ild_view.proofs.view.View.at.Goals as goal

pub loop-k-init : goal.loop-k-init
loop-k-init c = λ f v. walked_begins c.args.self.now f c.args.from c.args.path.now v

pub returns-in-None : goal.returns-in-None
returns-in-None c = λ f v.
    let all = c.as_slice-segments.result.now in
    let path = c.args.path.now in
    let count : length all ≡ length path = ap length c.as_slice-segments.ensures in
    let less : c.loop-k.k < length path = omega (arith, c.loop-k-test.true, count) in
    let is = segment_at all path c.loop-k.k c.as_str.result.now c.index-segments-k.result c.as_str.ensures.same c.index-segments-k.is c.as_slice-segments.ensures in
    walked_stops _ c.args.from c.loop-k.k _ path c.loop-k.view (c.loop-k.invariant f v) c.as_str.result.now less is c.in-None.ensures c.stop.result c.stop.ensures

pub loop-k-preserved : goal.loop-k-preserved
loop-k-preserved c = λ f v.
    let all = c.as_slice-segments.result.now in
    let path = c.args.path.now in
    let count : length all ≡ length path = ap length c.as_slice-segments.ensures in
    let less : c.loop-k.k < length path = omega (arith, c.loop-k-test.true, count) in
    let is = segment_at all path c.loop-k.k c.as_str.result.now c.index-segments-k.result c.as_str.ensures.same c.index-segments-k.is c.as_slice-segments.ensures in
    walked_on _ c.args.from c.loop-k.k _ path c.loop-k.view (c.loop-k.invariant f v) c.as_str.result.now less is c.in-Some.part (c.loop-k.k + 1) refl c.in-Some.ensures

pub returns : goal.returns
returns c = λ f v.
    let path = c.args.path.now in
    let count : length c.as_slice-segments.result.now ≡ length path = ap length c.as_slice-segments.ensures in
    let far : length path ≤ c.loop-k.k = omega (arith, c.loop-k-test.false, count) in
    walked_ends _ c.args.from c.loop-k.k _ path c.loop-k.view (c.loop-k.invariant f v) far
