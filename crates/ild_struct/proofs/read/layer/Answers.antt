use Rattle.std.proofs.Common.{Some, ◌∙◌, ap}
use Rattle.ild_schema.specs.declared.def.TypeDef.TheVariants as D
use Rattle.ild_struct.proofs.Layering.{struct_of, parts_of}
use Rattle.ild_struct.proofs.read.layer.Goals as goal

pub source_of-requires-clause-clear : goal.source_of-requires-clause-clear
source_of-requires-clause-clear c = c.recall.ensures.legible.clear.types c.base-base.result.0 (D.Struct c.in-Struct.def) (c.def.ensures.same ∙ ap Some c.in-Struct.is)

pub source_of-requires-clause-delims : goal.source_of-requires-clause-delims
source_of-requires-clause-delims c = c.recall.ensures.legible.delims c.base-base.result.0 (D.Struct c.in-Struct.def) (c.def.ensures.same ∙ ap Some c.in-Struct.is)

pub returns-in-Ok-clause-parts : goal.returns-in-Ok-clause-parts
returns-in-Ok-clause-parts c = λ t stands.
    let is = struct_of c.args.acc.now c.args.ty.0 c.base-base.result.0 c.def.result.now c.in-Struct.def c.base-base.ensures.same c.def.ensures.same c.in-Struct.is in
    let answer = c.in-Ok.ensures.answers t stands in
    parts_of c.args.ty.0 c.args.piece t _ c.recall.ensures.legible is stands answer.0 answer.1 c.in-Ok.ensures.told
