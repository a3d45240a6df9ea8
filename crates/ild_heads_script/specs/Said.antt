-- The text of what a line is answered.
use Rattle.std.specs.Prelude.{ℕ, List, []}
use Rattle.ild_script.specs.Reply.{no_text}
use Rattle.ild_heads_lines.specs.Told.{told_text}
use Rattle.ild_heads_script.specs.declared.answering.Said.{Said}
use Rattle.ild_heads_script.specs.declared.answering.Said.TheVariants as S

abbrev pub said_text : Said → List ℕ
said_text S.Nothing = []
said_text (S.No refusal) = no_text refusal
said_text (S.Told session outcome) = told_text session outcome
