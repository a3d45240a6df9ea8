use Rattle.ild_script_session.proofs.Cuts.{cut_some, cut_none}
use Rattle.ild_heads_run.proofs.lines.cut_line.Goals as goal

pub returns-in-Some-clause-cut : goal.returns-in-Some-clause-cut
returns-in-Some-clause-cut c = cut_some c.args.bytes.now c.in-Some.i c.in-Some.ensures

pub returns-in-None-clause-cut : goal.returns-in-None-clause-cut
returns-in-None-clause-cut c = cut_none c.args.bytes.now c.in-None.ensures
