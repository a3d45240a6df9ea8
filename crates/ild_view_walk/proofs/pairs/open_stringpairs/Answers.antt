use Rattle.std.proofs.Common.{sym, ◌∙◌, arith}
use Rattle.ild_text.specs.Parts.{pairs_in}
use Rattle.ild_view_walk.proofs.Finding.{under_one}
use Rattle.ild_view_walk.proofs.Texting.{text_deep, text_opens, text_repeats, text_unsplit, split_never}
use Rattle.ild_view_walk.proofs.pairs.open_stringpairs.Goals as goal

pub returns-in-Err-clause-opens : goal.returns-in-Err-clause-opens
returns-in-Err-clause-opens c = λ rows key_at at t stands.
    text_unsplit c.args.room c.args.key key_at c.args.value at c.args.inner.now c.args.entry.now c.in-Some.whole.now c.requires.inner_some c.requires.entry_some t (c.in-Some.ensures rows t stands)
    (λ ps are. split_never (c.in-Err.ensures.complete ps are))

pub returns-then-twice-clause-opens : goal.returns-then-twice-clause-opens
returns-then-twice-clause-opens c = λ rows key_at at t stands.
    text_repeats c.args.room c.args.key key_at c.args.value at c.args.inner.now c.args.entry.now c.in-Some.whole.now c.requires.inner_some c.requires.entry_some t (c.in-Some.ensures rows t stands)
    (pairs_in c.in-Ok.split) c.in-Ok.ensures.pairs (sym c.if-twice.true ∙ c.in-Ok-repeats_text.ensures)

pub returns-in_default-checked_sub-clause-opens : goal.returns-in_default-checked_sub-clause-opens
returns-in_default-checked_sub-clause-opens c = λ rows key_at at t stands.
    text_deep c.args.room c.args.key key_at c.args.value at c.args.inner.now c.args.entry.now c.in-Some.whole.now c.requires.inner_some c.requires.entry_some t (c.in-Some.ensures rows t stands)
    (pairs_in c.in-Ok.split) c.in-Ok.ensures.pairs (sym c.if-twice.false ∙ c.in-Ok-repeats_text.ensures) (under_one c.args.room c.in_default-checked_sub.ensures)

pub returns-clause-opens : goal.returns-clause-opens
returns-clause-opens c = λ rows key_at at t stands.
    text_opens c.args.room c.args.key key_at c.args.value at c.args.inner.now c.args.entry.now c.in-Some.whole.now c.requires.inner_some c.requires.entry_some t (c.in-Some.ensures rows t stands)
    (pairs_in c.in-Ok.split) c.in-Ok.ensures.pairs (sym c.if-twice.false ∙ c.in-Ok-repeats_text.ensures) rows c.in-Some-checked_sub.room c.of.result (omega (arith, c.in-Some-checked_sub.ensures))
    (c.of.ensures.has c.args.inner.now c.args.entry.now)
