use Rattle.std.proofs.Common.{subst, arith}
use Rattle.ild_data.proofs.Gets.{got_below}
use Rattle.ild_data.specs.Trie.{empty}
use Rattle.ild_node_slots.specs.Views.{SlotHolds}
use Rattle.ild_open_nodes.proofs.Passing.{found_at}
use Rattle.ild_open_nodes.proofs.weigh.next_weight.Goals as goal

pub returns-in-Some-clause-walks : goal.returns-in-Some-clause-walks
returns-in-Some-clause-walks c = λ v ss i has at less. (c.in-Some.ensures.steps c.args.shape v ss i has at).2

pub returns-in-Some-clause-weighs : goal.returns-in-Some-clause-weighs
returns-in-Some-clause-weighs c = λ v ss i s has at is. c.slot_weight.ensures v ss i s (subst (SlotHolds v ss i c.in-Some.slot) (found_at ss i s empty is) (c.in-Some.ensures.steps c.args.shape v ss i has at).1)

pub returns-in-None-clause-walks : goal.returns-in-None-clause-walks
returns-in-None-clause-walks c = λ v ss i has at less. absurd (let most = c.in-None.ensures.steps c.args.shape v ss i has at in omega (arith, less, most))

pub returns-in-None-clause-weighs : goal.returns-in-None-clause-weighs
returns-in-None-clause-weighs c = λ v ss i s has at is. absurd (let most = c.in-None.ensures.steps c.args.shape v ss i has at in let less = got_below ss i s is in omega (arith, less, most))
