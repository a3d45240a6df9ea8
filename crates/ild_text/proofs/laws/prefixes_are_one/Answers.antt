use Rattle.ild_text.proofs.Behind.{one_prefixed_lem}
use Rattle.ild_text.proofs.laws.prefixes_are_one.Goals as goal

pub returns : goal.returns
returns c = one_prefixed_lem
