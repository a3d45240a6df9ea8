use Rattle.std.proofs.Common.{◌∙◌, arith}
use Rattle.ild_data.proofs.Shapes.{argument_small}
use Rattle.ild_cbor.proofs.Firsts.{kind_first}
use Rattle.ild_cbor.proofs.node.Node.kind.Goals as goal

pub returns-in-len1-up : goal.returns-in-len1-up
returns-in-len1-up c = λ t h.
    let w = h.within in
    let sized = w.sized in
    c.kind_at.ensures ∙ kind_first t c.spelling.result.now (c.spelling.ensures t h) (argument_small t w.tree (omega arith))
