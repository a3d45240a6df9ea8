use Rattle.std.proofs.Common.{◌≡◌, take}
use Rattle.ild_resolve.specs.Names.{names_in}
use Rattle.ild_resolve.proofs.survey.names_of.Given as goal

abbrev pub invariant-loop-decl : goal.invariant-loop-decl
invariant-loop-decl l = l.names.items ≡ names_in (take l.decl-index l.ast.decls)
