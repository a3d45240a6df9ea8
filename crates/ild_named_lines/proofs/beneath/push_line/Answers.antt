use Rattle.std.proofs.Common.{append_assoc, rules}
use Rattle.ild_named_lines.proofs.Scripts.{line_cut}
use Rattle.ild_named_lines.proofs.beneath.push_line.Goals as goal

pub returns-in_ok-extend_from_slice-in-Some : goal.returns-in_ok-extend_from_slice-in-Some
returns-in_ok-extend_from_slice-in-Some c = search (rules, line_cut c.args.line.now c.in-Some.at c.in-Some.ensures, append_assoc)
