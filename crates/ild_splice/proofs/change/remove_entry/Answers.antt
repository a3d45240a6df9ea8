use Rattle.ild_splice.proofs.Joining.{splices}
use Rattle.ild_splice.proofs.Mapped.{goes}
use Rattle.ild_splice.proofs.change.remove_entry.Goals as goal

pub returns : goal.returns
returns c =
    splices c.args.map.now _ _ _ _ c.made.result c.made.ensures c.around.ensures.front c.around.ensures.behind (λ d here.
    goes c.args.map.now d c.part_count.result c.saturating_sub.result _ _ c.args.key.now here (c.requires.map d here) (c.requires.there d here) (λ k. c.part_count.ensures d k here)
    c.saturating_sub.ensures c.entries_around.ensures)
