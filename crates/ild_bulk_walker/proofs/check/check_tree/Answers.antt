use Rattle.std.proofs.Common.{sym, ◌∙◌, arith}
use Rattle.std.proofs.lemmas.Result.{err_from_is_err_and}
use Rattle.ild_bulk_walker.proofs.Ending.{begun, walked-more, walked-end, walked-stop, check-memory, any-more}
use Rattle.ild_bulk_walker.proofs.Shaped.{nexts-at}
use Rattle.ild_bulk_walker.proofs.check.check_tree.Goals as goal

pub returns-in_err-walker : goal.returns-in_err-walker
returns-in_err-walker g c = λ p slots has.
    let f = err_from_is_err_and c.from_residual.result c.from_residual.ensures.1 in
    rw (f.1, f.2) (check-memory p g.H.KeyHash.hash_of slots c.args.at.0 (g.K.Store.moment c.args.store.now))

pub returns-in_err-advance : goal.returns-in_err-advance
returns-in_err-advance g c = λ p slots has.
    let f = err_from_is_err_and c.from_residual-in_err-advance.result c.from_residual-in_err-advance.ensures.1 in
    rw (f.1, f.2) (walked-stop p g.H.KeyHash.hash_of slots c.args.at.0 (λ done. Unit {0}) _ _ _ c.loop-walker.walker c.advance.new.self c.in_err-advance.field-0.0 (c.loop-walker.invariant.1 p slots has) (nexts-at (c.loop-walker.invariant.0 ∙ has.shape) c.in_err-advance.ensures.nexts))

pub loop-walker-init : goal.loop-walker-init
loop-walker-init g c = (
  c.in_ok-walker.ensures.shape,
  λ p slots has.
      begun p g.H.KeyHash.hash_of slots c.args.at.0 (λ done. Unit {0}) _ c.in_ok-walker.walker tt (c.in_ok-walker.ensures.ahead p slots has) (c.in_ok-walker.ensures.on p slots has) (c.in_ok-walker.ensures.reads p slots has) c.in_ok-walker.ensures.given,
)

pub loop-walker-preserved : goal.loop-walker-preserved
loop-walker-preserved g c = (
  c.in_ok-advance.ensures.shape ∙ c.loop-walker.invariant.0,
  λ p slots has.
      let next = rw c.if-branch.true at c.in_ok-advance.ensures.nexts in
      walked-more p g.H.KeyHash.hash_of slots c.args.at.0 (λ done. Unit {0}) (λ done. Unit {0}) _ _ _ c.loop-walker.walker c.advance.new.self next.0 (any-more next.0) (c.loop-walker.invariant.1 p slots has) (nexts-at (c.loop-walker.invariant.0 ∙ has.shape) next.1),
)

pub loop-walker-smaller : goal.loop-walker-smaller
loop-walker-smaller g c = let next = rw c.if-branch.true at c.in_ok-advance.ensures.nexts in let more = next.1.counts.0 in let most = next.1.counts.1 in omega arith

pub returns : goal.returns
returns g c = λ p slots has.
    let next = rw c.if-branch.false at c.in_ok-advance.ensures.nexts in
    walked-end p g.H.KeyHash.hash_of slots c.args.at.0 _ _ _ c.loop-walker.walker c.advance.new.self c.given.result (c.loop-walker.invariant.1 p slots has) (nexts-at (c.loop-walker.invariant.0 ∙ has.shape) next) (sym c.given.ensures)
