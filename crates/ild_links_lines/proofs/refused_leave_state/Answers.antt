use Rattle.ild_links_lines.proofs.Refusing.{refused_leave_state}
use Rattle.ild_links_lines.proofs.refused_leave_state.Goals as goal

pub returns : goal.returns
returns c = refused_leave_state
