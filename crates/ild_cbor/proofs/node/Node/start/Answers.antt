use Rattle.std.proofs.Common.{◌∙◌, arith}
use Rattle.ild_data.specs.Shape.{major_of, argument_of, string_of, parts_of}
use Rattle.ild_data.specs.Spell.{spell_items}
use Rattle.std.proofs.Common.{◌++◌}
use Rattle.ild_data.proofs.Shapes.{spell_shape, argument_small}
use Rattle.ild_cbor.proofs.node.Node.start.Goals as goal

pub returns : goal.returns
returns c = λ t h.
    let w = h.within in
    let sized = w.sized in
    c.of.ensures.start (major_of t) (argument_of t) (string_of t ++ spell_items (parts_of t)) (argument_small t w.tree (omega arith)) (c.spelling.ensures t h ∙ spell_shape t)
