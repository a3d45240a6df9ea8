use Rattle.ild_value_meaning.proofs.Showing.{shown_is_meant}
use Rattle.ild_value_meaning.proofs.laws.shown_is_meant.Goals as goal

pub returns : goal.returns
returns c = shown_is_meant
