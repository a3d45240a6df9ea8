use Rattle.std.proofs.Common.{rules, ◌∙◌}
use Rattle.ild_text.specs.Cut.{cut}
use Rattle.ild_text.specs.Pairs.{are_keyed}
use Rattle.ild_text.proofs.Keyed.{keyed_goes, keyed_fails, keyed_ends, back_shorter}
use Rattle.ild_text.proofs.place.are_keyed.Goals as goal

pub returns-then-not-has : goal.returns-then-not-has
returns-then-not-has c =
    keyed_fails c.args.inner.now c.args.entry.now c.loop-first.rest.now c.in-Some.first.now c.in-Some.behind.now (are_keyed c.args.inner.now (cut c.args.entry.now c.args.text.now)) c.requires.entry_some c.in-Some.ensures (search rules) c.loop-first.invariant.1

pub loop-first-smaller : goal.loop-first-smaller
loop-first-smaller c = back_shorter c.args.entry.now c.loop-first.rest.now c.in-Some.first.now c.in-Some.behind.now c.requires.entry_some c.in-Some.ensures

pub loop-first-preserved : goal.loop-first-preserved
loop-first-preserved c = (
  search rules,
  keyed_goes c.args.inner.now c.args.entry.now c.loop-first.rest.now c.in-Some.first.now c.in-Some.behind.now (are_keyed c.args.inner.now (cut c.args.entry.now c.args.text.now)) c.requires.entry_some c.in-Some.ensures (search rules) c.loop-first.invariant.1,
)

pub returns : goal.returns
returns c = c.has-2.ensures ∙ keyed_ends c.args.inner.now c.args.entry.now c.loop-first.rest.now (are_keyed c.args.inner.now (cut c.args.entry.now c.args.text.now)) c.requires.entry_some c.in_default.ensures c.loop-first.invariant.1
