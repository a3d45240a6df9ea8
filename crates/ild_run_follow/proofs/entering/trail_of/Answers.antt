use Rattle.std.proofs.Common.{Err, Result, sym, ap, ◌∙◌, subst}
use Rattle.ild_hamt.proofs.Failing.{descent_reads}
use Rattle.ild_hamt.specs.declared.trail.Trail.{Trail}
use Rattle.ild_run_follow.specs.inside.Enters.{EntersTrie}
use Rattle.ild_run_follow.specs.declared.fault.ReadFault.{ReadFault}
use Rattle.ild_run_follow.specs.inside.Faults.{entered_as}
use Rattle.ild_run_follow.proofs.Tracing.{enters}
use Rattle.ild_run_follow.proofs.entering.trail_of.Goals as goal

pub returns-in-Ok-clause-enters : goal.returns-in-Ok-clause-enters
returns-in-Ok-clause-enters g c = λ p slots has.
    subst (λ (r : Result Trail ReadFault). EntersTrie g.H.KeyHash.hash_of p c.args.key.now slots (g.K.Store.moment c.args.store.now) r (g.K.Store.moment c.descend.new.store)) (ap entered_as c.in-Ok.is)
    (enters g.H.KeyHash.hash_of p c.args.key.now slots (g.K.Store.moment c.args.store.now) (g.K.Store.moment c.descend.new.store) c.descend.result (c.descend.ensures p slots has))

pub returns-in-Err-clause-enters : goal.returns-in-Err-clause-enters
returns-in-Err-clause-enters g c = λ p slots has.
    subst (λ (r : Result Trail ReadFault). EntersTrie g.H.KeyHash.hash_of p c.args.key.now slots (g.K.Store.moment c.args.store.now) r (g.K.Store.moment c.descend.new.store)) (ap entered_as c.in-Err.is ∙ ap Err (sym c.of_hamt.ensures))
    (enters g.H.KeyHash.hash_of p c.args.key.now slots (g.K.Store.moment c.args.store.now) (g.K.Store.moment c.descend.new.store) c.descend.result (c.descend.ensures p slots has))

pub returns-in-Ok-clause-walks : goal.returns-in-Ok-clause-walks
returns-in-Ok-clause-walks g c = λ p slots has. record { found = c.descend.result; is = sym (ap entered_as c.in-Ok.is); walk = c.descend.ensures p slots has }

pub returns-in-Err-clause-walks : goal.returns-in-Err-clause-walks
returns-in-Err-clause-walks g c = λ p slots has. record { found = c.descend.result; is = sym (ap entered_as c.in-Err.is ∙ ap Err (sym c.of_hamt.ensures)); walk = c.descend.ensures p slots has }

pub of_hamt-requires : goal.of_hamt-requires
of_hamt-requires g c = descent_reads g.H.KeyHash.hash_of c.args.root c.args.key.now (g.K.Store.moment c.args.store.now) (g.K.Store.moment c.descend.new.store) c.in-Err.fault c.in-Err.ensures
