use Rattle.std.proofs.Common.{subst, List, ℕ}
use Rattle.ild_lex.specs.Lex.{Reads}
use Rattle.ild_lex.proofs.Once.{only_answer}
use Rattle.ild_lex.proofs.lex.tokens.Goals as goal

pub returns-clause-only : goal.returns-clause-only
returns-clause-only c = only_answer c.args.src.now c.lexed.result (subst (λ (src : List ℕ). Reads (λ v. v) src c.lexed.result) c.as_bytes.ensures.value c.lexed.ensures)
