use Rattle.ild_script_batch.proofs.Commits.{flushes_commit}
use Rattle.ild_script_batch.proofs.laws.flushes_commit.Goals as goal

pub returns : goal.returns
returns c = flushes_commit
