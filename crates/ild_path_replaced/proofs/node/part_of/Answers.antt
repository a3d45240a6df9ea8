use Rattle.ild_path_replaced.proofs.Finding.{by_entry, by_item, by_pair}
use Rattle.ild_path_replaced.proofs.node.part_of.Goals as goal

pub returns-in-Item : goal.returns-in-Item
returns-in-Item c = λ t d q at. by_item c.args.node.now t d q at c.args.steps.now c.item.result c.in-Item.i c.in-Item.is c.item.ensures

pub returns-in-Entry : goal.returns-in-Entry
returns-in-Entry c = λ t d q at. by_entry c.args.node.now t d q at c.args.steps.now c.entry.result c.in-Entry.key c.in-Entry.is c.entry.ensures

pub returns-in-Pair : goal.returns-in-Pair
returns-in-Pair c = λ t d q at. by_pair c.args.node.now t d q at c.args.steps.now c.second.result c.in-Pair.i c.item-in-Pair.result c.in-Pair.is c.item-in-Pair.ensures c.second.ensures
