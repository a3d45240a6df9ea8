use Rattle.ild_path_outward.proofs.Stepping.{last_is}
use Rattle.ild_path_ends.specs.Steps.{IsViewOfEntry}
use Rattle.ild_path_ends.proofs.innermost.innermost.Goals as goal

pub returns-in-Some-clause-entry : goal.returns-in-Some-clause-entry
returns-in-Some-clause-entry c = λ before last is.
    let at = c.view.ensures in
    let own : IsViewOfEntry c.in-Some.hop.now.entry c.view.result = record { table = at.table; slot = at.slot; safe = at.safe; whole = at.whole } in
    rw (last_is before last c.in-Some.hop.now c.args.hops.now is c.in-Some.ensures.value) at own
