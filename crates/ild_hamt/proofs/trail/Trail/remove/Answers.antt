use Rattle.ild_hamt.proofs.After.{removes-after}
use Rattle.ild_hamt.proofs.Giving.{removal-given}
use Rattle.ild_hamt.proofs.Shaped.{removes-at, removes-along}
use Rattle.ild_hamt.proofs.trail.Trail.remove.Goals as goal

pub returns-clause-held : goal.returns-clause-held
returns-clause-held g c = λ p k slots es from.
    removes-after p g.H.KeyHash.hash_of k c.args.root slots es _ _ c.remove_way.result from.has from.trail.root (removes-at g.H.KeyHash.hash_of p c.args.root c.args.self k _ _ _ slots es (λ f. c.remove_way.ensures.removes g.H.KeyHash.hash_of k slots es f) from)

pub returns-clause-removes : goal.returns-clause-removes
returns-clause-removes g c = λ p k slots es from.
    removes-at g.H.KeyHash.hash_of p c.args.root c.args.self k _ _ _ slots es (λ f. c.remove_way.ensures.removes g.H.KeyHash.hash_of k slots es f) from

pub returns-clause-edits : goal.returns-clause-edits
returns-clause-edits g c = λ p k slots last leads.
    removes-along g.H.KeyHash.hash_of p c.args.root c.args.self k _ _ _ slots last (λ l. c.remove_way.ensures.edits g.H.KeyHash.hash_of k slots last l) leads

pub returns-clause-gives : goal.returns-clause-gives
returns-clause-gives g c = λ p k slots es from. removal-given p g.H.KeyHash.hash_of k es _ _ c.remove_way.result (removes-at g.H.KeyHash.hash_of p c.args.root c.args.self k _ _ _ slots es (λ f. c.remove_way.ensures.removes g.H.KeyHash.hash_of k slots es f) from)
