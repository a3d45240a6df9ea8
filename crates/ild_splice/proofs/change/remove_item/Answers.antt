use Rattle.ild_splice.proofs.Joining.{splices}
use Rattle.ild_splice.proofs.Listed.{goes}
use Rattle.ild_splice.proofs.change.remove_item.Goals as goal

pub returns : goal.returns
returns c =
    splices c.args.list.now _ _ _ _ c.made.result c.made.ensures c.around.ensures.front c.around.ensures.behind (λ d here.
    goes c.args.list.now d c.args.at c.part_count.result c.saturating_sub.result _ _ here (c.requires.list d here) (λ k. c.requires.place d k here) (λ k. c.part_count.ensures d k here)
    c.saturating_sub.ensures c.items_around.ensures)
