use Rattle.std.proofs.Common.{◌∙◌}
use Rattle.std.proofs.lemmas.Result.{err_from_is_err_and}
use Rattle.ild_bulk_walker.proofs.Nexting.{given-next}
use Rattle.ild_bulk_walker.proofs.Shaped.{gives-at}
use Rattle.ild_bulk_walker.proofs.walker.Walker.next.Goals as goal

pub returns-in_err-ready-clause-nexts : goal.returns-in_err-ready-clause-nexts
returns-in_err-ready-clause-nexts g c =
    let p = err_from_is_err_and c.from_residual.result c.from_residual.ensures.1 in
    rw (p.1, p.2) (c.in_err-ready.ensures.readies g.H.KeyHash.hash_of)

pub returns-clause-nexts : goal.returns-clause-nexts
returns-clause-nexts g c =
    given-next c.args.self.now.shape g.H.KeyHash.hash_of (g.K.Store.moment c.args.store.now) (g.K.Store.moment c.ready.new.store) c.args.self.now c.ready.new.self c.give.new.self c.give.result c.in_ok-ready.ensures.readies (gives-at c.in_ok-ready.ensures.shape c.give.ensures.gives)

pub returns-clause-shape : goal.returns-clause-shape
returns-clause-shape g c = c.give.ensures.shape ∙ c.in_ok-ready.ensures.shape
