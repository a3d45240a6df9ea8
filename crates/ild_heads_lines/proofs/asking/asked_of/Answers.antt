use Rattle.std.proofs.Common.{sym, ◌∙◌}
use Rattle.ild_heads_lines.proofs.Lines.{asks_utf8}
use Rattle.ild_heads_lines.proofs.asking.asked_of.Goals as goal

pub returns-in_ok-asked-in-Ok : goal.returns-in_ok-asked-in-Ok
returns-in_ok-asked-in-Ok c =
    let whole = asks_utf8 c.args.line.now c.in-Ok.ensures.cases.1 (sym c.if-is_empty.ensures) in
    let read = rw c.in-Ok.ensures.cases.0 at c.in_ok-asked-in-Ok.ensures in
    whole ∙ read
