use Rattle.ild_path_last.proofs.Counting.{counted}
use Rattle.ild_path_last.proofs.items.count.Goals as goal

pub returns-in-Node : goal.returns-in-Node
returns-in-Node c = λ rows ds stands. counted rows c.args.piece.now ds stands c.in-Node.node _ c.in-Node.is c.count.ensures
