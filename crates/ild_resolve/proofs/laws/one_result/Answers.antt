use Rattle.ild_resolve.proofs.Results.{one_result_lem}
use Rattle.ild_resolve.proofs.laws.one_result.Goals as goal

pub returns : goal.returns
returns c = one_result_lem
