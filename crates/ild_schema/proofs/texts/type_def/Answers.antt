use Rattle.ild_schema.proofs.Writing.{struct_texts, union_texts, enum_texts}
use Rattle.ild_schema.proofs.texts.type_def.Goals as goal

pub returns-in-Struct : goal.returns-in-Struct
returns-in-Struct c = struct_texts _ c.in-Struct.s _ c.in-Struct.is c.as_slice.ensures c.struct_form.ensures c.fields.ensures

pub returns-in-Union : goal.returns-in-Union
returns-in-Union c = union_texts _ c.in-Union.u _ c.in-Union.is c.as_slice-in-Union.ensures c.union_form.ensures c.members.ensures

pub returns-in-Enum : goal.returns-in-Enum
returns-in-Enum c = enum_texts _ c.in-Enum.e _ c.in-Enum.is c.as_slice-in-Enum.ensures c.enum_members.ensures
