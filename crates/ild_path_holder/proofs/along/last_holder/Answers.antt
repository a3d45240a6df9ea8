use Rattle.std.proofs.Common.{◌≡◌, ◌<◌, ◌≤◌, ◌+◌, ◌-◌, length, refl, ap, subst, arith}
use Rattle.ild_view.proofs.Indexing.{segment_at}
use Rattle.ild_schema.specs.Legible.{IsLegible}
use Rattle.ild_view.specs.View.{table_of}
use Rattle.ild_path_holder.proofs.Walking.{no_steps, no_view, walked_begins, walked_ends, walked_holder, walked_on}
use Rattle.ild_path_holder.proofs.along.last_holder.Goals as goal

pub loop-k-init : goal.loop-k-init
loop-k-init c = (omega arith, λ f s ss to v is at holds. walked_begins c.args.root.now f to s ss c.args.path.now c.new-steps.result.items c.new-steps.ensures.items v is at)

pub returns-in_default : goal.returns-in_default
returns-in_default c = λ f s ss to v is at holds.
    let legible : IsLegible (table_of c.args.root.now) = subst IsLegible c.schema.ensures c.recall.ensures.legible in
    let path = c.args.path.now in
    let count : length c.as_slice-segments.result.now ≡ length path = ap length c.as_slice-segments.ensures in
    let one = c.loop-k.invariant.0 in
    let less : c.loop-k.k < length path = omega (arith, c.loop-k-test.true, count) in
    let seg = segment_at c.as_slice-segments.result.now path (c.loop-k.k - 1) c.as_str-segment.result.now c.index-segments-k.result c.as_str-segment.ensures.same c.index-segments-k.is c.as_slice-segments.ensures in
    no_view (table_of c.args.root.now) legible _ to s ss path c.loop-k.k c.loop-k.steps.items c.loop-k.view (c.loop-k.invariant.1 f s ss to v is at holds) holds one less c.as_str-segment.result.now seg c.in_default.ensures

pub returns-in_default-part_steps : goal.returns-in_default-part_steps
returns-in_default-part_steps c = λ f s ss to v is at holds.
    let legible : IsLegible (table_of c.args.root.now) = subst IsLegible c.schema.ensures c.recall.ensures.legible in
    let path = c.args.path.now in
    let count : length c.as_slice-segments.result.now ≡ length path = ap length c.as_slice-segments.ensures in
    let one = c.loop-k.invariant.0 in
    let less : c.loop-k.k < length path = omega (arith, c.loop-k-test.true, count) in
    let seg = segment_at c.as_slice-segments.result.now path (c.loop-k.k - 1) c.as_str-segment.result.now c.index-segments-k.result c.as_str-segment.ensures.same c.index-segments-k.is c.as_slice-segments.ensures in
    no_steps (table_of c.args.root.now) legible _ to s ss path c.loop-k.k c.loop-k.steps.items c.loop-k.view (c.loop-k.invariant.1 f s ss to v is at holds) holds one less c.as_str-segment.result.now seg c.in-Some.part c.in-Some.ensures
    c.in_default-part_steps.ensures.lifts

pub loop-k-preserved : goal.loop-k-preserved
loop-k-preserved c = (
  omega (arith, c.loop-k.invariant.0),
  λ f s ss to v is at holds.
      let legible : IsLegible (table_of c.args.root.now) = subst IsLegible c.schema.ensures c.recall.ensures.legible in
      let path = c.args.path.now in
      let count : length c.as_slice-segments.result.now ≡ length path = ap length c.as_slice-segments.ensures in
      let one = c.loop-k.invariant.0 in
      let less : c.loop-k.k < length path = omega (arith, c.loop-k-test.true, count) in
      let seg = segment_at c.as_slice-segments.result.now path (c.loop-k.k - 1) c.as_str-segment.result.now c.index-segments-k.result c.as_str-segment.ensures.same c.index-segments-k.is c.as_slice-segments.ensures in
      walked_on (table_of c.args.root.now) legible _ to s ss path c.loop-k.k c.loop-k.steps.items c.loop-k.view (c.loop-k.invariant.1 f s ss to v is at holds) holds one less c.as_str-segment.result.now seg c.in-Some.part c.in-Some-part_steps.next
      c.in-Some.ensures c.in-Some-part_steps.ensures.lifts c.in-Some-part_steps.ensures.leads (c.loop-k.k + 1) refl _ c.in_ok-push.ensures.items,
)

pub returns : goal.returns
returns c = λ f s ss to v is at holds.
    let path = c.args.path.now in
    let count : length c.as_slice-segments.result.now ≡ length path = ap length c.as_slice-segments.ensures in
    let far : length path ≤ c.loop-k.k = omega (arith, c.loop-k-test.false, count) in
    let walked = c.loop-k.invariant.1 f s ss to v is at holds in
    record {
      lead = walked_ends (table_of c.args.root.now) _ to s ss path c.loop-k.k c.loop-k.steps.items c.loop-k.view walked c.loop-k.invariant.0 far;
      view = walked_holder (table_of c.args.root.now) _ to s ss path c.loop-k.k c.loop-k.steps.items c.loop-k.view walked c.loop-k.invariant.0 far;
    }
