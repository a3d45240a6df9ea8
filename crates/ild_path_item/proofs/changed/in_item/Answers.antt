use Rattle.ild_path_last.specs.Change.{located}
use Rattle.ild_splice_changes.specs.TreeChange.{applied}
use Rattle.ild_path_item.proofs.Blocks.{makes_changed}
use Rattle.ild_path_item.proofs.changed.in_item.Goals as goal

pub returns : goal.returns
returns c = λ t at x u not h. c.told.ensures (applied (located c.args.change.now x u) t) (makes_changed c.args.item.now c.args.change.now c.args.new t x u c.applied.result at not h c.applied.ensures)
