use Rattle.ild_named_scripts.proofs.Testing.{structs_tested}
use Rattle.ild_named_scripts.proofs.structs_are_tested.Goals as goal

pub returns : goal.returns
returns c = structs_tested
