use Rattle.std.proofs.Common.{◌∙◌}
use Rattle.ild_data.specs.Spell.{id_of}
use Rattle.ild_run_commit.specs.Commits.{Commits}
use Rattle.ild_run_beneath.proofs.Built.{committed}
use Rattle.ild_run_beneath.proofs.committing.commit.Goals as goal

pub returns-clause-commits : goal.returns-clause-commits
returns-clause-commits g c = committed c.trees_stand.ensures c.args.doc.now c.schema.result.now c.of.result.acc.now c.of.result.ty
    (Commits id_of c.args.doc.now c.args.own.now (g.K.Store.moment c.args.store.now) c.commit_along.result (g.K.Store.moment c.commit_along.new.store)) c.recall.ensures.table
    c.recall.ensures.accepted c.schema.ensures (c.of.ensures.table ∙ c.schema-2.ensures) (c.of.ensures.of_type ∙ c.ty.ensures) c.commit_along.ensures.commits
