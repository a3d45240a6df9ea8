-- What stands behind the members of unions and enums, and what their representation asks for.
use Rattle.std.specs.Prelude.{ℕ, ℤ, List, Bool, true, Option, Some, None, is_some, option_and_then}
use Rattle.std.specs.Option.{unwrap_or}
use Rattle.ild_schema.specs.declared.def.UnionForm.{UnionForm}
use Rattle.ild_schema.specs.declared.def.UnionForm.TheVariants as U
use Rattle.ild_schema.specs.declared.def.EnumForm.{EnumForm}
use Rattle.ild_schema.specs.declared.def.EnumForm.TheVariants as E
use Rattle.ild_schema.specs.declared.def.EnumMember.{EnumMember}
use Rattle.ild_schema.specs.declared.def.Field.{Field}
use Rattle.ild_schema.specs.declared.def.Member.{Member}
use Rattle.ild_schema.specs.declared.def.Mark.{Mark}
use Rattle.ild_schema.specs.declared.def.Mark.TheVariants as K
use Rattle.ild_schema.specs.declared.def.KindWord.{KindWord}
use Rattle.ild_data.specs.Decimal.{decimal_of}

abbrev pub mark_text : Mark → Option (List ℕ)
mark_text (K.Text t) = Some t
mark_text mark = None

abbrev pub mark_kind : Mark → Option KindWord
mark_kind (K.Kind w) = Some w
mark_kind mark = None

-- a union of kinds asks for a kind, every other one for a text
abbrev pub is_marked : UnionForm → Member → Bool
is_marked U.Kinded m = is_some (mark_kind m.mark)
is_marked form m = is_some (mark_text m.mark)

-- an enum of integers asks for a text
abbrev pub is_valued : EnumForm → EnumMember → Bool
is_valued E.Text m = true
is_valued E.Int m = is_some m.text

-- the name of a field in a block
abbrev pub field_text : Field → List ℕ
field_text f = unwrap_or f.rename f.name

-- the text of an enum's member
abbrev pub member_text : EnumMember → List ℕ
member_text m = unwrap_or m.text m.name

-- the integer of an enum's member, where its text is one
abbrev pub member_integer : EnumMember → Option ℤ
member_integer m = option_and_then decimal_of m.text
