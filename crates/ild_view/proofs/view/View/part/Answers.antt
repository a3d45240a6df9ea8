use Rattle.ild_typed.specs.At.{seen}
use Rattle.ild_view.proofs.Parting.{any_there}
use Rattle.ild_view.proofs.Reaching.{element_far, part_none}
use Rattle.ild_view.proofs.view.View.part.Goals as goal

pub returns-in-None : goal.returns-in-None
returns-in-None c = λ f v.
    let s = c.args.self.now in
    part_none s.acc.now (seen s.acc.now (s.slot, f)) c.args.segment.now (c.in_default.ensures.part f v) (c.in_default-entry.ensures f v) (c.in_default-member.ensures f v) c.in-None.ensures
    (element_far s.acc.now c.recall.ensures.legible (any_there s.acc.now c.recall.ensures.table.prelude_first) s.slot s.safe v.room f v.tree v.front s.body v.stands)
