use Rattle.std.proofs.Common.{ap, ◌∙◌}
use Rattle.ild_data.specs.Data.{list}
use Rattle.ild_data.proofs.Lists.{items_by_list}
use Rattle.ild_run.proofs.listed.tree_of.Goals as goal

pub returns : goal.returns
returns c = ap list (items_by_list _ _ (c.from_vec.ensures ∙ c.in_ok-trees.ensures))
