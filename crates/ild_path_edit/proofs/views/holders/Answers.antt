use Rattle.std.proofs.Common.{◌<◌, length, ap, subst, arith}
use Rattle.ild_view.proofs.Indexing.{segment_at}
use Rattle.ild_path_edit.proofs.Viewing.{viewed_ends, viewed_on}
use Rattle.ild_view.specs.View.{slot_of, table_of}
use Rattle.ild_path_edit.proofs.views.holders.Goals as goal

pub returns-in_default : goal.returns-in_default
returns-in_default c = λ f is.
    let path = c.args.path.now in
    let k = c.loop-k.k in
    let less : k < length path = subst (λ xs. k < length xs) c.as_slice-segments.ensures c.loop-k-test.true in
    let v = c.loop-k.invariant.1 f is in
    viewed_ends (table_of c.args.root.now) (slot_of c.args.root.now, f) path k c.loop-k.views.items c.push.new.self.items c.loop-k.view v c.as_str.result.now less (segment_at c.as_slice-segments.result.now path k c.as_str.result.now c.index-segments-k.result c.as_str.ensures.same c.index-segments-k.is c.as_slice-segments.ensures) c.in_ok-push.ensures.items c.in_default.ensures

pub loop-k-preserved : goal.loop-k-preserved
loop-k-preserved c = (
  omega (arith, c.loop-k-test.true, ap length c.as_slice-segments.ensures),
  λ f is.
      let path = c.args.path.now in
      let k = c.loop-k.k in
      let less : k < length path = subst (λ xs. k < length xs) c.as_slice-segments.ensures c.loop-k-test.true in
      let v = c.loop-k.invariant.1 f is in
      viewed_on (table_of c.args.root.now) (slot_of c.args.root.now, f) path k c.loop-k.views.items c.push.new.self.items c.loop-k.view v c.as_str.result.now less (segment_at c.as_slice-segments.result.now path k c.as_str.result.now c.index-segments-k.result c.as_str.ensures.same c.index-segments-k.is c.as_slice-segments.ensures) c.in-Some.part c.in_ok-push.ensures.items c.in-Some.ensures,
)

pub returns : goal.returns
returns c = λ f is n q below a.
    let path = c.args.path.now in
    let v = c.loop-k.invariant.1 f is in
    v.holders n q (omega (arith, below, c.loop-k-test.false, ap length c.as_slice-segments.ensures, c.loop-k.invariant.0)) a
