use Rattle.ild_path_place.proofs.Showing.{part_behind}
use Rattle.ild_path_place.proofs.place.Place.view.Goals as goal

pub returns-in-InBlock : goal.returns-in-InBlock
returns-in-InBlock c =
    let place = c.args.self.now in
    part_behind place.root place.hops.items place.verb c.in-InBlock.path place.end c.in-InBlock.is c.innermost-in-InBlock.result c.innermost-in-InBlock.ensures c.part_in.result c.part_in.ensures
