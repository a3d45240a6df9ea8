use Rattle.std.proofs.Common.{sym, ◌∙◌}
use Rattle.ild_view.proofs.Opening.{front_null, null_front}
use Rattle.ild_view.proofs.view.View.is_null.Goals as goal

pub returns : goal.returns
returns c = λ f v.
    let s = c.args.self.now in
    let is = c.is_null_there.ensures v.tree v.stands in (
      λ e. front_null s.acc.now c.recall.ensures.legible.clear s.slot s.safe v.room f v.tree v.front (sym is ∙ e),
      λ e. is ∙ null_front s.acc.now c.recall.ensures.legible.clear s.slot s.safe v.room f v.tree v.front e,
    )
