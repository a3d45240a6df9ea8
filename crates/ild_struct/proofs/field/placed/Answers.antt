use Rattle.std.proofs.Common.{Option, subst}
use Rattle.ild_cbor.specs.declared.node.Node.{Node}
use Rattle.ild_layer_piece.specs.Entries.{Found}
use Rattle.ild_struct.proofs.Looking.{placed_part}
use Rattle.ild_struct.proofs.field.placed.Goals as goal

pub returns-in-Some-clause-part : goal.returns-in-Some-clause-part
returns-in-Some-clause-part c = λ rows field o plain found.
    placed_part rows field c.in-Some.node c.held.result (c.held.ensures.held rows field) o plain (subst (λ (r : Option Node). Found o r) c.in-Some.is found)
