use Rattle.std.proofs.Common.{sym, ◌∙◌}
use Rattle.ild_script.proofs.Lines.{fault_of_line, reads_utf8}
use Rattle.ild_script.proofs.line.line_of.Goals as goal

pub returns-in-Ok-line_of_text : goal.returns-in-Ok-line_of_text
returns-in-Ok-line_of_text c =
    let whole = reads_utf8 c.args.line.now c.in-Ok.ensures.cases.1 (sym c.if-is_empty.ensures) in
    let read = rw c.in-Ok.ensures.cases.0 at c.in-Ok-line_of_text.ensures in
    (read.0, whole ∙ read.1)

pub returns-in-Err-line_of_text : goal.returns-in-Err-line_of_text
returns-in-Err-line_of_text c = fault_of_line c.args.line.now _ c.in-Ok.ensures.cases.1 (sym c.if-is_empty.ensures) (rw c.in-Ok.ensures.cases.0 at c.in-Err-line_of_text.ensures)
