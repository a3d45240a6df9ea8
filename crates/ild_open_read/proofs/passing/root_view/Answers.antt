use Rattle.std.proofs.Math.Logic.{∥∥₁_elim}
use Rattle.std.proofs.Props.{props}
use Rattle.std.proofs.lemmas.Bool.{false≢true}
use Rattle.ild_open_read.proofs.passing.root_view.Goals as goal

pub unreachable-requires : goal.unreachable-requires
unreachable-requires c = ∥∥₁_elim c.requires.root (hlevel props) (λ x. false≢true (c.in-Err.ensures.only x.slots x.tree x.stands x.is).0)

pub returns : goal.returns
returns c = λ t stands.
    let x = c.in-Ok.ensures.found t stands in
    record { slots = x.0; root = x.1; has = x.2 }
