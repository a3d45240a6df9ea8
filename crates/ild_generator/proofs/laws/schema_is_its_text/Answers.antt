use Rattle.ild_generator.proofs.Compiled.{compiled}
use Rattle.ild_generator.proofs.laws.schema_is_its_text.Goals as goal

pub returns : goal.returns
returns c = compiled
