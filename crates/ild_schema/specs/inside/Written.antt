-- What is said of the texts of each part of a type.
use Rattle.std.specs.Prelude.{IsUtf8, IfSome}
use Rattle.ild_schema.specs.declared.def.TypeDef.{TypeDef}
use Rattle.ild_schema.specs.declared.def.Field.{Field}
use Rattle.ild_schema.specs.declared.def.Member.{Member}
use Rattle.ild_schema.specs.declared.def.EnumMember.{EnumMember}
use Rattle.ild_schema.specs.declared.row.Row.{Row}
use Rattle.ild_schema.specs.Marks.{mark_text, field_text, member_text}
use Rattle.ild_schema.specs.Spelled.{SpelledType, NamedType, ImplicitType, SpelledScalar}

pub record FieldTexts (f : Field) : Type 0 where
  pub name : IsUtf8 f.name
  pub text : IsUtf8 (field_text f)
  pub implicit : IfSome f.implicit SpelledScalar

pub record MemberTexts (m : Member) : Type 0 where
  pub name : IsUtf8 m.name
  pub mark : IfSome (mark_text m.mark) IsUtf8

pub record EnumMemberTexts (m : EnumMember) : Type 0 where
  pub name : IsUtf8 m.name
  pub text : IsUtf8 (member_text m)

pub record TypeTexts (d : TypeDef) : Type 0 where
  pub spelled : SpelledType d
  pub named : NamedType d
  pub implicits : ImplicitType d

pub record RowTexts (r : Row) : Type 0 where
  pub name : IsUtf8 r.name
  pub def : TypeTexts r.def
