use Rattle.std.proofs.Common.{get_or, refl, arith}
use Rattle.ild_data.specs.Trie.{empty}
use Rattle.ild_hamt_climb.proofs.Shown.{slot-shows}
use Rattle.ild_hamt_climb.proofs.weighing.next_weight.Goals as goal

pub returns-then-j-i-clause-walks : goal.returns-then-j-i-clause-walks
returns-then-j-i-clause-walks c = λ v ss has at lt. (c.in-Some.ensures.steps c.args.shape v ss c.args.j has at).2

pub returns-else-j-i-clause-walks : goal.returns-else-j-i-clause-walks
returns-else-j-i-clause-walks c = λ v ss has at lt. (c.in-Some.ensures.steps c.args.shape v ss c.args.j has at).2

pub returns-else-j-i-clause-weighs : goal.returns-else-j-i-clause-weighs
returns-else-j-i-clause-weighs c = λ v ss has at lt apart.
    c.read_weight.ensures (get_or ss c.args.j empty) (slot-shows v ss c.args.j c.args.j c.in-Some.slot refl (c.in-Some.ensures.steps c.args.shape v ss c.args.j has at).1)

pub returns-in-None-clause-walks : goal.returns-in-None-clause-walks
returns-in-None-clause-walks c = λ v ss has at lt. absurd (let le = c.in-None.ensures.steps c.args.shape v ss c.args.j has at in omega arith)

pub returns-in-None-clause-weighs : goal.returns-in-None-clause-weighs
returns-in-None-clause-weighs c = λ v ss has at lt apart. absurd (let le = c.in-None.ensures.steps c.args.shape v ss c.args.j has at in omega arith)
