use Rattle.ild_splice.proofs.Joining.{splices}
use Rattle.ild_splice.proofs.Listed.{comes_led}
use Rattle.ild_splice.proofs.change.with_item.Goals as goal

pub returns : goal.returns
returns c = λ e u stands both.
    splices c.args.list.now _ _ _ _ c.made.result c.made.ensures c.around.ensures.front c.around.ensures.behind (λ d here.
    comes_led c.args.list.now d e u c.args.at c.part_count.result c.saturating_add.result _ _ _ _ here (c.requires.list d here) (λ k. c.requires.place d k here) (λ k. c.part_count.ensures d k here)
    c.saturating_add.ensures c.items_around.ensures (c.spelling.ensures e stands) both)
