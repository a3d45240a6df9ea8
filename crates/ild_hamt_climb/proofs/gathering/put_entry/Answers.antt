use Rattle.std.proofs.Math.Logic.{∥∥₁_elim}
use Rattle.std.proofs.Props.{props}
use Rattle.ild_hamt_climb.proofs.Nested.{value-low}
use Rattle.ild_hamt_climb.proofs.gathering.put_entry.Goals as goal

pub put-requires : goal.put-requires
put-requires c = λ t stands. ∥∥₁_elim c.requires (hlevel props) (λ b. value-low c.args.bucket b c.args.i c.in-Some.key c.in-Some.value t (c.in-Some.ensures b.es b.has) stands)
