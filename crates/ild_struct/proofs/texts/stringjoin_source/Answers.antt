use Rattle.std.proofs.Common.{sym, ◌∙◌}
use Rattle.ild_text.specs.Parts.{parts}
use Rattle.ild_struct.proofs.Splitting.{join_answer, unjoined_answer, only_text}
use Rattle.ild_struct.proofs.texts.stringjoin_source.Goals as goal

pub returns-in-Ok-clause-answers : goal.returns-in-Ok-clause-answers
returns-in-Ok-clause-answers c = λ rows fields t count stands.
    join_answer c.args.delim.now c.in-Some.text.now c.requires (parts c.in-Ok.split) c.in-Ok.ensures.join.0 fields (c.in-Ok.ensures.join.1 ∙ count) t
    (only_text t c.in-Some.text.now (c.in-Some.ensures rows t stands))

pub returns-in-Err-clause-answers : goal.returns-in-Err-clause-answers
returns-in-Err-clause-answers c = λ rows fields t count stands.
    unjoined_answer c.args.delim.now c.in-Some.text.now c.requires fields (λ ps is n. c.in-Err.ensures.complete ps is (n ∙ sym count)) t (only_text t c.in-Some.text.now (c.in-Some.ensures rows t stands))
