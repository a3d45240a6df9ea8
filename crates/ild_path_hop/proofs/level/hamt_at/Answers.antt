use Rattle.std.proofs.Math.Logic.{∥∥₁_elim, ∥∥₁_map}
use Rattle.std.proofs.Props.{props}
use Rattle.ild_path_hop.proofs.Arriving.{is_hamt, never_enters, never_lost}
use Rattle.ild_path_hop.proofs.level.hamt_at.Goals as goal

pub returns-clause-here : goal.returns-clause-here
returns-clause-here c = λ f is. rw c.in-Ok-Here.field-0-is at (c.in-Ok-Here.ensures f is)

pub returns-clause-hamt : goal.returns-clause-hamt
returns-clause-hamt c =
    ∥∥₁_map c.requires (λ x. is_hamt c.args.root.now c.args.front.now x c.in-Ok-Here.view (rw c.in-Ok-Here.field-0-is at (c.in-Ok-Here.ensures x.front x.is)))

pub unreachable-requires : goal.unreachable-requires
unreachable-requires c =
    ∥∥₁_elim c.requires (hlevel props)
    (λ x. never_enters c.args.root.now c.args.front.now x c.in-Ok-Enter.field-0-0 c.in-Ok-Enter.field-0-1 (rw c.in-Ok-Enter.field-0-is at (c.in-Ok-Enter.ensures x.front x.is)))

pub unreachable-requires-in-Err : goal.unreachable-requires-in-Err
unreachable-requires-in-Err c = ∥∥₁_elim c.requires (hlevel props) (λ x. never_lost c.args.root.now c.args.front.now x c.in-Err.field-0 (c.in-Err.ensures x.front x.is))
