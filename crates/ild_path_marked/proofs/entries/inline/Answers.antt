use Rattle.std.proofs.Common.{sym, ◌∙◌}
use Rattle.ild_path_marked.proofs.Inlining.{inlined_tells}
use Rattle.ild_path_marked.proofs.entries.inline.Goals as goal

pub returns : goal.returns
returns c = λ d stands.
    inlined_tells c.args.part.now d c.entry_count.result c.saturating_add-count.result c.entries_around.result.0.now c.entries_around.result.1.now c.args.key.now c.args.name.now c.made.result stands
    (sym (c.has_place.ensures d stands) ∙ c.if-not-has_place.false) (λ k. c.entry_count.ensures d k stands) c.saturating_add-count.ensures c.entries_around.ensures c.made.ensures
