use Rattle.ild_heads_script.proofs.Spelled.{spelled}
use Rattle.ild_heads_script.proofs.laws.lines_spell_events.Goals as goal

pub returns : goal.returns
returns g c = spelled _ _ _ _ _ _ _
