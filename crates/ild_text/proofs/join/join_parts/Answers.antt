use Rattle.std.proofs.Common.{length, sym, ap, ◌∙◌}
use Rattle.ild_text.specs.Cut.{cut}
use Rattle.ild_text.proofs.Apart.{one_join_lem, joins_apart}
use Rattle.ild_text.proofs.join.join_parts.Goals as goal

pub returns-in_err-count-clause-complete : goal.returns-in_err-count-clause-complete
returns-in_err-count-clause-complete c = λ ps join n. absurd (joins_apart c.args.delim.now c.args.text.now ps join c.in_err-count.ensures.overlap.1)

pub returns-then-count-n-clause-overlap : goal.returns-then-count-n-clause-overlap
returns-then-count-n-clause-overlap c =
    (λ e. absurd cc, λ o. absurd (joins_apart c.args.delim.now c.args.text.now (cut c.args.delim.now c.args.text.now) c.in_ok-count.ensures.parts.0 o))

pub returns-else-count-n-clause-complete : goal.returns-else-count-n-clause-complete
returns-else-count-n-clause-complete c =
    λ ps join n.
    let same = one_join_lem c.args.delim.now c.args.text.now ps (cut c.args.delim.now c.args.text.now) c.requires join c.in_ok-count.ensures.parts.0 in
    absurd (c.if-count-n.false (sym c.in_ok-count.ensures.parts.1 ∙ ap length (sym same) ∙ n))

pub returns-else-count-n-clause-overlap : goal.returns-else-count-n-clause-overlap
returns-else-count-n-clause-overlap c =
    (λ e. absurd cc, λ o. absurd (joins_apart c.args.delim.now c.args.text.now (cut c.args.delim.now c.args.text.now) c.in_ok-count.ensures.parts.0 o))
