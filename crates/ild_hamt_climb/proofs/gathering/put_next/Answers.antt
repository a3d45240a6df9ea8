use Rattle.std.proofs.Common.{get_or, refl, arith}
use Rattle.std.proofs.Math.Logic.{∥∥₁_map}
use Rattle.ild_data.specs.Trie.{empty}
use Rattle.ild_hamt_climb.proofs.Shown.{slot-shows}
use Rattle.ild_hamt_climb.proofs.Nested.{some-next}
use Rattle.ild_hamt_climb.proofs.gathering.put_next.Goals as goal

pub put_slot-requires : goal.put_slot-requires
put_slot-requires c = ∥∥₁_map c.requires (λ w. some-next w.shape w.view w.slots c.args.j c.in-Some.slot w.has (c.in-Some.ensures.steps w.shape w.view w.slots c.args.j w.has w.at).1)

pub returns-then-j-i-clause-walks : goal.returns-then-j-i-clause-walks
returns-then-j-i-clause-walks c = λ p v ss has at lt. (c.in-Some.ensures.steps p v ss c.args.j has at).2

pub returns-else-j-i-clause-walks : goal.returns-else-j-i-clause-walks
returns-else-j-i-clause-walks c = λ p v ss has at lt. (c.in-Some.ensures.steps p v ss c.args.j has at).2

pub returns-else-j-i-clause-puts : goal.returns-else-j-i-clause-puts
returns-else-j-i-clause-puts c = λ p v ss has at lt apart.
    c.put_slot.ensures (get_or ss c.args.j empty) (slot-shows v ss c.args.j c.args.j c.in-Some.slot refl (c.in-Some.ensures.steps p v ss c.args.j has at).1)

pub returns-in-None-clause-walks : goal.returns-in-None-clause-walks
returns-in-None-clause-walks c = λ p v ss has at lt. absurd (let le = c.in-None.ensures.steps p v ss c.args.j has at in omega arith)

pub returns-in-None-clause-puts : goal.returns-in-None-clause-puts
returns-in-None-clause-puts c = λ p v ss has at lt apart. absurd (let le = c.in-None.ensures.steps p v ss c.args.j has at in omega arith)
