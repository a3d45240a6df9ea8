use Rattle.ild_splice.proofs.Joining.{splices}
use Rattle.ild_splice.proofs.Mapped.{comes}
use Rattle.ild_splice.proofs.change.insert_entry.Goals as goal

pub returns : goal.returns
returns c = λ e stands.
    splices c.args.map.now _ _ _ _ c.made.result c.made.ensures c.around.ensures.front c.around.ensures.behind (λ d here.
    comes c.args.map.now d e c.part_count.result c.saturating_add.result _ _ c.args.key.now _ here (c.requires.map d here) (c.requires.absent d here) (λ k. c.part_count.ensures d k here)
    c.saturating_add.ensures c.entries_around.ensures (c.spelling.ensures e stands))
