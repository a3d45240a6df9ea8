use Rattle.std.proofs.Math.Logic.{∥∥₁_elim}
use Rattle.ild_parse.proofs.value.txt_of.Goals as goal

pub unreachable-requires : goal.unreachable-requires
unreachable-requires c = ∥∥₁_elim c.requires (hlevel) (λ utf8. c.in-Err.ensures.cases.0 utf8)
