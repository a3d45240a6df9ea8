use Rattle.std.proofs.Common.{◌≡◌, take, map}
use Rattle.ild_schema.specs.Kinds.{def_kinds}
use Rattle.ild_accept.proofs.kinds.kinds_of_all.Given as goal

abbrev pub invariant-loop-n : goal.invariant-loop-n
invariant-loop-n l = l.kinds.items ≡ map (λ r. def_kinds r.def) (take l.n l.schema)
