use Rattle.std.proofs.Common.{None, refl, subst}
use Rattle.std.specs.Prelude.{Ok}
use Rattle.ild_path_marked.specs.Tells.{Tells}
use Rattle.ild_path_marked.proofs.Prefixing.{known_bytes, no_bytes}
use Rattle.ild_path_marked.proofs.prefixed.behind_bytes.Goals as goal

pub returns-in-Some : goal.returns-in-Some
returns-in-Some c = λ d stands. subst (λ o. Tells o c.behind_hex.result) (known_bytes d c.args.name.now c.in-Some.bytes.now (c.in-Some.ensures d stands)) c.behind_hex.ensures

pub returns-in-None : goal.returns-in-None
returns-in-None c = λ d stands. subst (λ o. Tells o (Ok None)) (no_bytes d c.args.name.now (c.in-None.ensures d stands)) refl
