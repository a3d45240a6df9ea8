use Rattle.ild_layer_parts.specs.PairEntries.{HasPairs}
use Rattle.ild_layer_parts.proofs.Passing.{From, pair_passes, pairs_begin, passes_more, passes_none}
use Rattle.ild_layer_parts.proofs.behind.behind_pairs.Goals as goal

pub loop-behind-init : goal.loop-behind-init
loop-behind-init c = λ rows ps keys fits h. passes_none rows ps (HasPairs (From c.args.pairs c.args.pairs.items c.args.pairs.place)) (pairs_begin c.args.pairs ps c.requires h)

pub loop-behind-preserved : goal.loop-behind-preserved
loop-behind-preserved c = λ rows ps keys fits h.
    passes_more rows ps (HasPairs (From c.args.pairs c.loop-behind.items c.loop-behind.place)) _ (c.loop-behind.invariant rows ps keys fits h)
    (λ qs k. pair_passes rows c.args.pairs c.args.wanted keys fits c.loop-behind.items c.in-Some.behind c.loop-behind.place _ c.saturating_add-place.ensures (λ es left. c.in-Some.ensures.behind es left) qs k)
