use Rattle.std.proofs.Math.Logic.{∥∥₁_map}
use Rattle.ild_view.proofs.Iterating.{keyed_behind, keyed_front}
use Rattle.ild_view.proofs.entries.ViewEntries.first.Goals as goal

pub invariant_of-view-clause-stands : goal.invariant_of-view-clause-stands
invariant_of-view-clause-stands c = ∥∥₁_map c.args.self.now.stands (λ h.
    keyed_front c.args.self.now.acc.now c.args.self.now.slot c.args.self.now.rest c.in-Some.key c.in-Some.piece c.in-Some.left c.in-Some.ensures.step h)

pub returns-in-Some-clause-some : goal.returns-in-Some-clause-some
returns-in-Some-clause-some c = ∥∥₁_map c.args.self.now.stands (λ h.
    keyed_behind c.args.self.now.acc.now c.args.self.now.slot c.args.self.now.rest c.in-Some.key c.in-Some.piece c.in-Some.left c.in-Some.ensures.step h)
