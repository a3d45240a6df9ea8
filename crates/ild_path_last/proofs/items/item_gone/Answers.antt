use Rattle.std.proofs.Common.{ap}
use Rattle.ild_path_last.proofs.Counting.{index_is, index_long}
use Rattle.ild_path_last.proofs.items.item_gone.Goals as goal
use Rattle.ild_path_last.specs.declared.change.LastChange.TheVariants as C

pub returns-in-Some : goal.returns-in-Some
returns-in-Some c = λ i is less. ap (λ n. C.RemoveItem n) (index_is c.args.segment.now i c.in-Some.i is c.in-Some.ensures)

pub returns-in-None : goal.returns-in-None
returns-in-None c = λ i is less. index_long c.args.segment.now i is less c.in-None.ensures
