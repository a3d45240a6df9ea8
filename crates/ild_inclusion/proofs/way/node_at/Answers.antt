use Rattle.std.proofs.Common.{refl, subst}
use Rattle.std.proofs.lemmas.Bool.{false≢true}
use Rattle.ild_cbor.specs.Nodes.{HasData}
use Rattle.ild_inclusion.specs.Branches.{found, not_found}
use Rattle.ild_inclusion.proofs.way.node_at.Goals as goal

pub returns-in-Ok : goal.returns-in-Ok
returns-in-Ok c = λ t stands. let x = c.in-Ok.ensures.found t stands in found x.0 (record { form = x.2.form; tree = x.1 }) x.2

pub returns-in-Err : goal.returns-in-Err
returns-in-Err c = λ t stands. not_found (λ slots is. absurd (false≢true (c.in-Err.ensures.only slots (subst (HasData c.args.node) is.tree stands) is.form).0)) refl
