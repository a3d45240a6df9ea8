use Rattle.std.proofs.Common.{◌∙◌, ap, sym}
use Rattle.ild_run_commit.proofs.Flushed.{commits_along}
use Rattle.ild_run_commit.proofs.along.commit_along.Goals as goal

pub returns-clause-commits : goal.returns-clause-commits
returns-clause-commits g c = commits_along c.carried_agree.ensures c.flushes_commit.ensures c.args.doc.now c.args.kind (g.B.Beneath.children c.args.beneath.now) c.root-root.result.0 c.args.own.now c.new-batch.result.own.now
    (g.K.Store.moment c.args.store.now) (g.K.Store.moment c.new-batch.result.store.now) (g.K.Store.moment c.store-1.given.0) (g.K.Store.moment c.flush.new.self.store.now) c.flush.result
    (ap g.K.Store.moment c.new-batch.ensures.same_store.1) c.new-batch.ensures.same_own.1 (ap g.K.Store.moment (c.store-1.given.1 (sym (c.flush.ensures.same_references.0 ∙ c.new-batch.ensures.same_store.0))))
    c.root-root.ensures c.flush.ensures.flushes c.flush.ensures.asks
