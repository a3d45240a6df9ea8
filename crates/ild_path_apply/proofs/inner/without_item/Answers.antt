use Rattle.ild_path_apply.proofs.Listing.{no_item_goes}
use Rattle.ild_path_apply.proofs.Within.{of_splice}
use Rattle.ild_splice_changes.specs.TreeChange.{remove_item}
use Rattle.ild_path_apply.proofs.inner.without_item.Goals as goal

pub returns-in-Some : goal.returns-in-Some
returns-in-Some c = of_splice c.args.list.now (remove_item c.args.at) c.remove_item.result c.remove_item.ensures

pub returns-in-None : goal.returns-in-None
returns-in-None c = no_item_goes c.args.list.now c.args.at c.same.result c.in-None.ensures c.same.ensures
