use Rattle.std.proofs.Common.{ap, map, ◌∙◌}
use Rattle.ild_data.specs.Data.{bytes, list}
use Rattle.ild_data.proofs.Lists.{items_by_list}
use Rattle.ild_run_prove.proofs.printing.tree_of.Goals as goal

pub returns : goal.returns
returns c = ap list (items_by_list _ _ (c.from_vec.ensures ∙ c.in_ok-trees.ensures ∙ ap (map bytes) c.blocks-2.ensures))
