use Rattle.ild_path_last.proofs.Counting.{item_there}
use Rattle.ild_path_last.proofs.structs.has_item.Goals as goal

pub returns-in-Some : goal.returns-in-Some
returns-in-Some c = λ rows ds stands. item_there rows c.args.piece.now ds stands c.in-Node.node c.args.place _ c.in-Node.is c.in-Some.ensures

pub returns-in-None : goal.returns-in-None
returns-in-None c = λ rows ds stands. item_there rows c.args.piece.now ds stands c.in-Node.node c.args.place _ c.in-Node.is c.in-None.ensures
