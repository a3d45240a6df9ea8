use Rattle.ild_resolve.specs.inside.Numbers.{number_in}
use Rattle.ild_resolve.proofs.NamesLeft.{NamesLeft}
use Rattle.ild_resolve.proofs.Surveying.{Surveyed}
use Rattle.ild_resolve.proofs.survey.survey.Given as goal

abbrev pub invariant-loop-decl : goal.invariant-loop-decl
invariant-loop-decl l = Surveyed l.ast.decls (λ q. number_in l.numbers q) l.types l.again l.decl-index × NamesLeft l.names l.ast.decls l.declared l.decl-index
