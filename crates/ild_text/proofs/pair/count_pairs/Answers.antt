use Rattle.std.proofs.Common.{sym, ◌∙◌, length}
use Rattle.ild_text.specs.Cut.{cut}
use Rattle.ild_text.proofs.Apart.{joins_apart}
use Rattle.ild_text.proofs.Keyed.{some_from_test, paired, pairs_keyed, pairs_apart}
use Rattle.ild_text.proofs.pair.count_pairs.Goals as goal

pub returns-in_err-count-clause-complete : goal.returns-in_err-count-clause-complete
returns-in_err-count-clause-complete c =
    λ ps is. absurd (pairs_apart c.args.inner.now c.args.entry.now c.args.text.now ps (some_from_test (length c.args.text.now) _ c.is_empty.ensures c.if-is_empty.false) is c.in_err-count.ensures.overlap.1)

pub returns-then-are_keyed-clause-pairs : goal.returns-then-are_keyed-clause-pairs
returns-then-are_keyed-clause-pairs c =
    (paired c.args.inner.now c.args.entry.now c.args.text.now c.in_ok-count.count c.requires.inner_some (some_from_test (length c.args.text.now) _ c.is_empty.ensures c.if-is_empty.false) c.in_ok-count.ensures.parts.0 c.in_ok-count.ensures.parts.1 (sym c.are_keyed.ensures ∙ c.if-are_keyed.true)).1.pairs

pub returns-then-are_keyed-clause-overlap : goal.returns-then-are_keyed-clause-overlap
returns-then-are_keyed-clause-overlap c =
    (λ e. absurd cc, λ o. absurd (joins_apart c.args.entry.now c.args.text.now (cut c.args.entry.now c.args.text.now) c.in_ok-count.ensures.parts.0 o))

pub returns-else-are_keyed-clause-complete : goal.returns-else-are_keyed-clause-complete
returns-else-are_keyed-clause-complete c =
    λ ps is.
    let all = pairs_keyed c.args.inner.now c.args.entry.now c.args.text.now ps c.requires.inner_some c.requires.entry_some (some_from_test (length c.args.text.now) _ c.is_empty.ensures c.if-is_empty.false) c.in_ok-count.ensures.parts.0 is in
    let test = c.are_keyed.ensures ∙ all in
    let other = c.if-are_keyed.false in
    absurd cc

pub returns-else-are_keyed-clause-overlap : goal.returns-else-are_keyed-clause-overlap
returns-else-are_keyed-clause-overlap c =
    (λ e. absurd cc, λ o. absurd (joins_apart c.args.entry.now c.args.text.now (cut c.args.entry.now c.args.text.now) c.in_ok-count.ensures.parts.0 o))
