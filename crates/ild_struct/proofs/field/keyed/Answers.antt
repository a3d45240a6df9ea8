use Rattle.std.proofs.Common.{Option, subst}
use Rattle.ild_cbor.specs.declared.node.Node.{Node}
use Rattle.ild_layer_piece.specs.Entries.{Found}
use Rattle.ild_struct.specs.inside.Reading.{shown}
use Rattle.ild_struct.proofs.Looking.{keyed_part}
use Rattle.ild_struct.proofs.field.keyed.Goals as goal

pub returns-in-Some-clause-part : goal.returns-in-Some-clause-part
returns-in-Some-clause-part c = λ rows o l found.
    keyed_part rows c.args.field.now c.in-Some.node c.held.result (c.held.ensures.held rows c.args.field.now) o l
    (subst (λ (r : Option Node). Found (shown c.args.field.now o) r) c.in-Some.is found)
