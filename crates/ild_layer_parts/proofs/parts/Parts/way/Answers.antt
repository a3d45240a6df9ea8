use Rattle.std.proofs.Common.{Some, subst}
use Rattle.ild_layer_parts.specs.declared.parts.Parts.TheVariants as P
use Rattle.ild_layer_parts.specs.Parts.{LeadsOn}
use Rattle.ild_layer_parts.proofs.Stepping.{left_as}
use Rattle.ild_layer_parts.proofs.parts.Parts.way.Goals as goal

pub returns-in-Struct : goal.returns-in-Struct
returns-in-Struct c = λ rows ps h there.
    let left = left_as rows c.args.self.now (P.Struct c.in-Struct.fields) ps c.in-Struct.is h in
    let own = subst (λ q. LeadsOn rows q (Some c.args.part.now) ps) c.in-Struct.is there left in
    c.way.ensures rows ps left own.0 own.1
