use Rattle.std.proofs.Common.{Option, set, sym, subst}
use Rattle.ild_node.specs.NewSlots.{slot_seen}
use Rattle.ild_node.specs.Written.{IsNodeBlock}
use Rattle.ild_node.specs.declared.hold.NewHold.{NewHold}
use Rattle.ild_hamt_climb.proofs.exchanging.exchanged.Goals as goal

pub returns-in-Some-2 : goal.returns-in-Some-2
returns-in-Some-2 c = λ slots has lt.
    subst (λ (o : Option NewHold). IsNodeBlock c.args.shape (set slots c.args.i (slot_seen o)) c.in-Some-2.block) (sym c.in-Some.is) (rw c.in-Some-2.is at (c.in_ok-block.ensures slots has lt))
