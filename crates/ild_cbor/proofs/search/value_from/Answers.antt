use Rattle.std.proofs.Common.{ℕ, ◌≡◌, ◌-◌, ◌+◌, subst, arith}
use Rattle.ild_cbor.proofs.Searches.{Left, all_left, meets, hit, miss, too_long, none_left}
use Rattle.ild_cbor.proofs.search.value_from.Goals as goal

pub loop-init : goal.loop-init
loop-init c =
    let all : c.args.n ≡ c.args.n - 0 = omega arith in
    λ ms h. subst (λ (k : ℕ). Left c.args.entries.now c.args.entries.now c.args.key.now k ms) all (all_left c.args.entries.now c.args.key.now c.args.n ms h)

pub returns-then-same : goal.returns-then-same
returns-then-same c = λ ms h.
    let l = c.loop.invariant ms h in
    let m = meets c.args.entries.now c.loop.rest.now c.args.key.now c.first_key.result.0.now c.first_key.result.1.now _ ms l (omega arith) c.first_key.ensures.key c.first_key.ensures.value in
    hit _ _ _ _ _ _ ms l.front m c.if-same.ensures

pub returns-then-found-key : goal.returns-then-found-key
returns-then-found-key c = λ ms h.
    let l = c.loop.invariant ms h in
    let m = meets c.args.entries.now c.loop.rest.now c.args.key.now c.first_key.result.0.now c.first_key.result.1.now _ ms l (omega arith) c.first_key.ensures.key c.first_key.ensures.value in
    too_long _ _ _ _ _ _ ms l.front m (omega arith)

pub loop-preserved : goal.loop-preserved
loop-preserved c =
    let fewer : c.args.n - c.loop.counter - 1 ≡ c.args.n - (c.loop.counter + 1) = omega arith in
    λ ms h.
    let l = c.loop.invariant ms h in
    let m = meets c.args.entries.now c.loop.rest.now c.args.key.now c.first_key.result.0.now c.first_key.result.1.now _ ms l (omega arith) c.first_key.ensures.key c.first_key.ensures.value in
    subst (λ (k : ℕ). Left c.args.entries.now c.skip-rest.result.now c.args.key.now k ms) fewer (miss _ _ _ _ _ _ _ ms l.front m c.skip-rest.ensures c.if-same.ensures)

pub returns : goal.returns
returns c = λ ms h. none_left c.args.entries.now c.loop.rest.now c.args.key.now _ ms (c.loop.invariant ms h) (omega arith)
