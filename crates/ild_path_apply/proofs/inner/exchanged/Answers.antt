use Rattle.std.proofs.Common.{subst}
use Rattle.ild_path_last.specs.Change.{NewIs}
use Rattle.ild_path_apply.proofs.Within.{put_in}
use Rattle.ild_path_apply.proofs.inner.exchanged.Goals as goal

pub returns-in-Some : goal.returns-in-Some
returns-in-Some c = λ u new. put_in c.args.node.now c.in-Some.new c.replace.result c.replace.ensures u (subst (λ m. NewIs m u) c.in-Some.is new)
