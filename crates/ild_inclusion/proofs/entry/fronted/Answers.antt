use Rattle.std.proofs.Common.{refl}
use Rattle.ild_inclusion.specs.Branches.{found, not_found}
use Rattle.ild_view.proofs.Opening.{safe_is}
use Rattle.ild_inclusion.proofs.Stepping.{part_view}
use Rattle.ild_inclusion.proofs.entry.fronted.Goals as goal

pub returns-in-Ok : goal.returns-in-Ok
returns-in-Ok c = λ t stands memory.
    let x = c.in-Ok.ensures.views t stands in
    found x.1.0 x.1.1 (part_view c.args.acc.now c.args.slot c.args.node t c.in-Ok.view c.args.room x.1.0 x.0 stands x.1.1)

pub returns-in-Err-Shape : goal.returns-in-Err-Shape
returns-in-Err-Shape c = λ t stands memory.
    let r = rw c.in-Err-Shape.field-0-is at (c.in-Err-Shape.ensures.views t stands) in
    not_found
    (λ f front. absurd (c.refused_have_no_front.ensures c.args.acc.now (record { table = c.recall.ensures.table; accepted = c.recall.ensures.accepted }) c.args.room c.args.slot (safe_is c.args.acc.now c.args.slot c.requires.safe) t r.refusal r.refused f front))
    refl
