use Rattle.ild_layer_parts.specs.Entries.{HasEntries}
use Rattle.ild_layer_parts.proofs.Passing.{Open, entries_begin, entry_passes, passes_more, passes_none}
use Rattle.ild_layer_parts.proofs.behind.behind_entries.Goals as goal

pub loop-behind-init : goal.loop-behind-init
loop-behind-init c = λ rows ps keys fits h. passes_none rows ps (HasEntries (Open c.args.entries c.args.entries.left)) (entries_begin c.args.entries ps c.requires h)

pub loop-behind-preserved : goal.loop-behind-preserved
loop-behind-preserved c = λ rows ps keys fits h.
    passes_more rows ps (HasEntries (Open c.args.entries c.loop-behind.left)) _ (c.loop-behind.invariant rows ps keys fits h)
    (λ qs k. entry_passes rows c.args.entries c.args.wanted keys fits c.loop-behind.left c.in-Some.behind (λ es left. c.in-Some.ensures.behind es left) qs k)
