use Rattle.std.proofs.Common.{Some, None, subst, ◌∙◌}
use Rattle.std.specs.Prelude.{IsUtf8}
use Rattle.std.proofs.lemmas.Str.{IsUtf8-string_bytes}
use Rattle.ild_script_path.proofs.Lines.{asked, outside_none}
use Rattle.ild_script_path.proofs.reading.path_of_text.Goals as goal

pub returns-in-Ok-Some : goal.returns-in-Ok-Some
returns-in-Ok-Some c =
    asked c.args.text.now c.as_bytes.result.now (c.as_bytes.ensures.value ∙ c.in_ok-line.ensures) (subst IsUtf8 c.in_ok-line.ensures (IsUtf8-string_bytes c.in_ok-line.line)) (Some c.in-Ok-Some.command) (rw c.in-Ok-Some.field-0-is at c.in-Ok-Some.ensures)

pub returns-in-Ok-None : goal.returns-in-Ok-None
returns-in-Ok-None c =
    asked c.args.text.now c.as_bytes.result.now (c.as_bytes.ensures.value ∙ c.in_ok-line.ensures) (subst IsUtf8 c.in_ok-line.ensures (IsUtf8-string_bytes c.in_ok-line.line)) None (rw c.in-Ok-None.field-0-is at c.in-Ok-None.ensures)

pub returns-in-Err-Line : goal.returns-in-Err-Line
returns-in-Err-Line c =
    outside_none c.args.text.now c.as_bytes.result.now (c.as_bytes.ensures.value ∙ c.in_ok-line.ensures) (subst IsUtf8 c.in_ok-line.ensures (IsUtf8-string_bytes c.in_ok-line.line)) (rw c.in-Err-Line.field-0-is at c.in-Err-Line.ensures)
