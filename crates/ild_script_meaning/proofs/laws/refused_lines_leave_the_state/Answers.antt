use Rattle.ild_script_meaning.proofs.Leaving.{refused_leave}
use Rattle.ild_script_meaning.proofs.laws.refused_lines_leave_the_state.Goals as goal

pub returns : goal.returns
returns c = refused_leave
