use Rattle.ild_path_apply.proofs.Mapping.{no_entry_goes}
use Rattle.ild_path_apply.proofs.Within.{of_splice}
use Rattle.ild_splice_changes.specs.TreeChange.{remove_entry}
use Rattle.ild_path_apply.proofs.inner.without_entry.Goals as goal

pub returns-in-Some : goal.returns-in-Some
returns-in-Some c = of_splice c.args.map.now (remove_entry c.args.key.now) c.remove_entry.result c.remove_entry.ensures

pub returns-in-None : goal.returns-in-None
returns-in-None c = no_entry_goes c.args.map.now c.args.key.now c.same.result c.in-None.ensures c.same.ensures
