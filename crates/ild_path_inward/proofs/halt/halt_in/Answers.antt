use Rattle.std.proofs.Common.{◌-◌, length, List, ℕ, ◌∷◌, refl, sym, ◌∙◌, ap, arith}
use Rattle.ild_view.specs.View.{slot_of, table_of}
use Rattle.ild_path_inward.proofs.Halting.{begins, table_kept, goes, halts_at, halts_end, none_left}
use Rattle.ild_path_inward.proofs.halt.halt_in.Goals as goal

pub loop-segment-init : goal.loop-segment-init
loop-segment-init c = (λ f is. begins c.args.root.now f c.args.segments.now c.args.room is, omega arith, refl)

pub returns-in_default-part-clause-halts : goal.returns-in_default-part-clause-halts
returns-in_default-part-clause-halts c = λ f is.
    let v = c.args.root.now in
    let first = c.in-Some.ensures.cases.0 ∙ ap (λ (x : List ℕ). x ∷ c.in-Some.behind.now) (sym c.as_str.ensures.same) in
    halts_at (table_of v) c.args.room (slot_of v, f) c.args.segments.now c.loop-segment.view c.loop-segment.free c.as_str.result.now c.in-Some.behind.now c.loop-segment.left.now _ refl refl refl first
    c.in_default-part.ensures (c.loop-segment.invariant.0 f is)

pub loop-segment-preserved : goal.loop-segment-preserved
loop-segment-preserved c = (
  λ f is.
      let v = c.args.root.now in
      let first = c.in-Some.ensures.cases.0 ∙ ap (λ (x : List ℕ). x ∷ c.in-Some.behind.now) (sym c.as_str.ensures.same) in
      let less = c.saturating_sub-free.ensures ∙ ap (λ n. c.loop-segment.free - n) c.levels.ensures in
      goes (table_of v) c.args.room (slot_of v, f) c.args.segments.now c.loop-segment.view c.loop-segment.free c.as_str.result.now c.in-Some.behind.now c.loop-segment.left.now first c.in-Some-part.part c.saturating_sub-free.result less
      c.in-Some-part.ensures (c.loop-segment.invariant.0 f is),
  (let less = ap (λ (xs : List (List ℕ)). length xs) c.in-Some.ensures.cases.0 in let all = c.loop-segment.invariant.1 in omega (arith, less, all)),
  table_kept c.loop-segment.view c.as_str.result.now c.in-Some-part.part c.in-Some-part.ensures ∙ c.loop-segment.invariant.2,
)

pub returns-clause-halts : goal.returns-clause-halts
returns-clause-halts c = λ f is.
    let v = c.args.root.now in
    halts_end (table_of v) c.args.room (slot_of v, f) c.args.segments.now c.loop-segment.view c.loop-segment.free c.loop-segment.left.now _ refl refl refl
    (none_left c.loop-segment.left.now c.in_default.ensures.cases) (c.loop-segment.invariant.0 f is)
