use Rattle.ild_run.proofs.Roots.{need_no_schema}
use Rattle.ild_run.proofs.laws.roots_need_no_schema.Goals as goal

pub returns : goal.returns
returns c = need_no_schema
