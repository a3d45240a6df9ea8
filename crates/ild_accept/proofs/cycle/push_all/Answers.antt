use Rattle.std.proofs.Common.{◌≡◌, ◌<◌, ℕ, length, get_or, arith}
use Rattle.std.proofs.lemmas.List.{get_or_default}
use Rattle.ild_accept.proofs.Searches.{pushed_next, seen_next}
use Rattle.ild_accept.proofs.cycle.push_all.Goals as goal

pub loop-t-preserved : goal.loop-t-preserved
loop-t-preserved c =
    let steps = c.args.steps.now in
    let i : ℕ = c.loop-t.t-index in
    let x : ℕ = get_or steps i 0 in
    let within : i < length steps = omega arith in
    let here : x ≡ get_or steps i x = get_or_default steps i 0 x within in
    record {
      grown = pushed_next steps i x _ _ _ _ _ _ within here c.loop-t.invariant.grown c.in_ok-push_new.ensures.grown;
      within = λ k d h. omega (arith, c.loop-t.invariant.within k d h, c.in_ok-push_new.ensures.grown.size);
      all = seen_next steps i x _ _ _ _ here within c.loop-t.invariant.all c.in_ok-push_new.ensures.grown c.in_ok-push_new.ensures.here;
    }
