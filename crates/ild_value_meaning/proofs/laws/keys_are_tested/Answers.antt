use Rattle.ild_value_meaning.proofs.KeyTests.{keys_are_tested}
use Rattle.ild_value_meaning.proofs.laws.keys_are_tested.Goals as goal

pub returns : goal.returns
returns c = keys_are_tested
