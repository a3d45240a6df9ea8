use Rattle.std.proofs.Common.{ap, ◌∙◌, map, arith}
use Rattle.std.specs.Prelude.{is_some}
use Rattle.std.proofs.lemmas.List.{take_all}
use Rattle.ild_node.proofs.Writing.{used-slots}
use Rattle.ild_node.proofs.write.used_of.Goals as goal

pub returns : goal.returns
returns c = c.loop-slot.invariant ∙ ap (map is_some) (take_all c.loop-slot.slot-index c.args.slots.now (omega arith)) ∙ used-slots c.args.slots.now
