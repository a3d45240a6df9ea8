use Rattle.std.proofs.Common.{Some, ap, ◌∙◌}
use Rattle.ild_accept_rules.proofs.Among.{key_found}
use Rattle.ild_accept_rules.proofs.clash.is_field_text.Goals as goal

pub returns-in-Struct : goal.returns-in-Struct
returns-in-Struct c = c.is_some.ensures ∙ key_found c.args.schema.now c.args.ty.0 c.args.key.now c.in-Struct.field-0 c.part_spelled.result (c.def.ensures.same ∙ ap Some c.in-Struct.is) (rw c.as_str.ensures.same at c.part_spelled.ensures.same)
