use Rattle.std.proofs.Common.{sym, ◌∙◌}
use Rattle.ild_path_block.specs.Changes.{node_of}
use Rattle.ild_path_item.proofs.Parts.{no_part, part_is}
use Rattle.ild_path_item.proofs.item.new_part.Goals as goal

pub returns-in-Some-text : goal.returns-in-Some-text
returns-in-Some-text c = λ t new. part_is c.in-Some.node (node_of c.args.edit.now) t c.in-Some-text.text.now (sym c.node_of.ensures ∙ c.in-Some.is) new c.in-Some-text.ensures

pub returns-in-None : goal.returns-in-None
returns-in-None c = λ t new. no_part c.in-Some.node (node_of c.args.edit.now) t (sym c.node_of.ensures ∙ c.in-Some.is) new c.in-None.ensures
