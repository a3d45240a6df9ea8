use Rattle.std.proofs.Common.{◌∙◌, arith}
use Rattle.std.proofs.lemmas.Result.{err_from_is_err_and}
use Rattle.ild_bulk_walker.proofs.Ending.{listed-none, listed-more, listed-end, listed-stop, listed-full, walk-memory, no-reads, none-of}
use Rattle.ild_bulk_walker.proofs.Shaped.{nexts-at}
use Rattle.ild_bulk_walker.proofs.list.walk.Goals as goal

pub returns-in_err-walker : goal.returns-in_err-walker
returns-in_err-walker g c = λ p slots has.
    let f = err_from_is_err_and c.from_residual.result c.from_residual.ensures.1 in
    rw (f.1, f.2) (walk-memory p g.H.KeyHash.hash_of slots c.args.at.0 (g.K.Store.moment c.args.store.now) _ (no-reads p slots _))

pub returns-in_err-row : goal.returns-in_err-row
returns-in_err-row g c = λ p slots has.
    let f = err_from_is_err_and c.from_residual-in_err-row.result c.from_residual-in_err-row.ensures.1 in
    rw (f.1, f.2) (listed-stop p g.H.KeyHash.hash_of slots c.args.at.0 c.loop-rows.rows.items _ _ _ c.loop-rows.walker c.next.new.self c.in_err-row.field-0.0 (c.loop-rows.invariant.1 p slots has) (nexts-at (c.loop-rows.invariant.0 ∙ has.shape) c.in_err-row.ensures.nexts))

pub returns-in_err-push : goal.returns-in_err-push
returns-in_err-push g c = λ p slots has.
    let f = err_from_is_err_and c.from_residual-in_err-push.result c.from_residual-in_err-push.ensures.1 in
    rw (f.1, f.2) (listed-full p g.H.KeyHash.hash_of slots c.args.at.0 c.loop-rows.rows.items _ _ _ c.loop-rows.walker c.next.new.self c.in-Some.row (c.loop-rows.invariant.1 p slots has) (nexts-at (c.loop-rows.invariant.0 ∙ has.shape) (rw c.in-Some.is at c.in_ok-row.ensures.nexts)))

pub loop-rows-init : goal.loop-rows-init
loop-rows-init g c = (
  c.in_ok-walker.ensures.shape,
  λ p slots has.
      rw c.new-rows.ensures.items (listed-none p g.H.KeyHash.hash_of slots c.args.at.0 _ c.in_ok-walker.walker (c.in_ok-walker.ensures.ahead p slots has) (c.in_ok-walker.ensures.on p slots has) (c.in_ok-walker.ensures.reads p slots has) c.in_ok-walker.ensures.given),
)

pub loop-rows-preserved : goal.loop-rows-preserved
loop-rows-preserved g c = (
  c.next.ensures.shape ∙ c.loop-rows.invariant.0,
  λ p slots has.
      listed-more p g.H.KeyHash.hash_of slots c.args.at.0 c.loop-rows.rows.items c.push.new.self.items _ _ _ c.loop-rows.walker c.next.new.self c.in-Some.row c.in_ok-push.ensures.items (c.loop-rows.invariant.1 p slots has) (nexts-at (c.loop-rows.invariant.0 ∙ has.shape) (rw c.in-Some.is at c.in_ok-row.ensures.nexts)),
)

pub loop-rows-smaller : goal.loop-rows-smaller
loop-rows-smaller g c = let next = rw c.in-Some.is at c.in_ok-row.ensures.nexts in let more = next.counts.0 in let most = next.counts.1 in omega arith

pub returns : goal.returns
returns g c = λ p slots has.
    let none = none-of c.in_ok-row.field-0 c.in_default.not-Some in
    listed-end p g.H.KeyHash.hash_of slots c.args.at.0 c.loop-rows.rows.items _ _ _ c.loop-rows.walker c.next.new.self c.sort_rows.new.rows has.form (c.loop-rows.invariant.1 p slots has) (nexts-at (c.loop-rows.invariant.0 ∙ has.shape) (rw none at c.in_ok-row.ensures.nexts)) c.sort_rows.ensures.same c.sort_rows.ensures.order
