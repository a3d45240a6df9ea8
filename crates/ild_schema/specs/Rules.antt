-- The rules on the parts of a type, each as the place at which it fails. `rows` is the table.
use Rattle.std.specs.Prelude.{ℕ, List, [], length, Bool, true, false, ◌&&◌, ◌||◌, not, nat_lt, Option, Some, None, is_some, is_none, option_and_then, if◌then◌else◌}
use Rattle.std.specs.List.{list_any}
use Rattle.std.specs.Option.{option_map_or}
use Rattle.ild_schema.specs.declared.def.TypeDef.{TypeDef}
use Rattle.ild_schema.specs.declared.def.TypeDef.TheVariants as D
use Rattle.ild_schema.specs.declared.def.MapForm.{MapForm}
use Rattle.ild_schema.specs.declared.def.MapForm.TheVariants as M
use Rattle.ild_schema.specs.declared.def.StructForm.{StructForm}
use Rattle.ild_schema.specs.declared.def.StructForm.TheVariants as S
use Rattle.ild_schema.specs.declared.def.UnionForm.{UnionForm}
use Rattle.ild_schema.specs.declared.def.UnionForm.TheVariants as U
use Rattle.ild_schema.specs.declared.def.EnumForm.{EnumForm}
use Rattle.ild_schema.specs.declared.def.EnumForm.TheVariants as E
use Rattle.ild_schema.specs.declared.def.EnumMember.{EnumMember}
use Rattle.ild_schema.specs.declared.def.Field.{Field}
use Rattle.ild_schema.specs.declared.def.Scalar.{Scalar}
use Rattle.ild_schema.specs.declared.def.Scalar.TheVariants as C
use Rattle.ild_schema.specs.declared.def.Member.{Member}
use Rattle.ild_schema.specs.declared.def.KindWord.TheVariants as W
use Rattle.ild_schema.specs.declared.number.Slot.{Slot}
use Rattle.ild_schema.specs.declared.row.Row.{Row}
use Rattle.ild_data.specs.Hex.{bytes_of_hex}
use Rattle.ild_schema.specs.Kinds.{kinds_of, meant, has_kind, has_only, has_text_form, declared_kinds}
use Rattle.ild_schema.specs.Marks.{mark_text, mark_kind, member_integer}
use Rattle.ild_schema.specs.Places.{first_place, first_beside, place_if}

-- ---- what may be null has no other value that stands as null

abbrev pub is_null_twice : List Row → Slot → Bool
is_null_twice rows slot = slot.nullable && (kinds_of rows slot.ty.0).null

abbrev pub null_fault : List Row → TypeDef → Option ℕ
null_fault rows (D.List elem at) = place_if (is_null_twice rows elem) at
null_fault rows (D.Map key key_at value at form) = place_if (is_null_twice rows value) at
null_fault rows (D.Struct s) = first_place (λ f. is_null_twice rows f.slot) (λ f. f.at) s.fields
null_fault rows def = None

-- ---- the kinds of members are those that are declared, each once

-- a member of a union of kinds that has a kind, beside those before it
abbrev pub is_kind_wrong : List Row → List Member → Member → Bool
is_kind_wrong rows before m = option_map_or (λ kind. not (has_only kind (kinds_of rows m.ty.0)) || has_kind kind (declared_kinds before)) (mark_kind m.mark) false

-- a member behind a prefix of bytes
abbrev pub is_not_bytes : List Row → Member → Bool
is_not_bytes rows m = is_some (mark_text m.mark) && not (has_only W.Bytes (kinds_of rows m.ty.0))

abbrev pub union_kind_fault : List Row → UnionForm → List Member → Option ℕ
union_kind_fault rows U.Kinded ms = first_beside (is_kind_wrong rows) (λ m. m.at) [] ms
union_kind_fault rows U.BytesPrefix ms = first_place (is_not_bytes rows) (λ m. m.at) ms
union_kind_fault rows form ms = None

abbrev pub kind_fault : List Row → TypeDef → Option ℕ
kind_fault rows (D.Union u) = union_kind_fault rows u.form u.members
kind_fault rows def = None

-- ---- the parts of a text are texts

abbrev pub is_no_text : List Row → Slot → Bool
is_no_text rows slot = slot.nullable || not (has_text_form rows slot.ty.0)

-- whether a struct stands as a text
abbrev pub is_text_struct : StructForm → Bool
is_text_struct (S.StringPairs inner entry) = true
is_text_struct (S.StringJoin join) = true
is_text_struct form = false

abbrev pub is_text_map : MapForm → Bool
is_text_map (M.StringPairs inner entry) = true
is_text_map form = false

abbrev pub is_text_union : UnionForm → Bool
is_text_union U.StringPrefix = true
is_text_union form = false

abbrev pub text_fault : List Row → TypeDef → Option ℕ
text_fault rows (D.Struct s) = first_place (λ f. is_text_struct s.form && is_no_text rows f.slot) (λ f. f.at) s.fields
text_fault rows (D.Map key key_at value at form) = place_if (is_text_map form && is_no_text rows value) at
text_fault rows (D.Union u) = first_place (λ m. is_text_union u.form && not (has_text_form rows m.ty.0)) (λ m. m.at) u.members
text_fault rows def = None

-- ---- what may be left out stands last in a tuple, and not at all in a join

abbrev pub is_optional_wrong : StructForm → List Field → Field → Bool
is_optional_wrong S.Tuple before f = not f.optional && list_any (λ g. g.optional) before
is_optional_wrong (S.StringJoin join) before f = f.optional
is_optional_wrong form before f = false

abbrev pub optional_fault : TypeDef → Option ℕ
optional_fault (D.Struct s) = first_beside (is_optional_wrong s.form) (λ f. f.at) [] s.fields
optional_fault def = None

-- ---- a value that stands for a field left out is one of its type, and no longer than a block can hold

abbrev pub longest_text : ℕ
longest_text = 4194299

abbrev pub is_of : Scalar → Option TypeDef → Bool
is_of (C.Bool b) (Some D.Bool) = true
is_of (C.Int n) (Some D.Int) = true
is_of (C.Text t) (Some D.Text) = not (nat_lt longest_text (length t))
is_of value def = false

abbrev pub is_implicit_wrong : List Row → Field → Bool
is_implicit_wrong rows f = option_map_or (λ value. f.optional || not (is_of value (meant rows f.slot.ty.0))) f.implicit false

abbrev pub implicit_fault : List Row → TypeDef → Option ℕ
implicit_fault rows (D.Struct s) = first_place (is_implicit_wrong rows) (λ f. f.at) s.fields
implicit_fault rows def = None

-- ---- the members of an inline union are structs that stand as maps

abbrev pub is_map_form : StructForm → Bool
is_map_form S.Map = true
is_map_form form = false

abbrev pub is_map_struct : Option TypeDef → Bool
is_map_struct (Some (D.Struct s)) = is_map_form s.form
is_map_struct def = false

abbrev pub is_inline : UnionForm → Bool
is_inline (U.Inline discriminant) = true
is_inline form = false

abbrev pub inline_fault : List Row → TypeDef → Option ℕ
inline_fault rows (D.Union u) = first_place (λ m. is_inline u.form && not (is_map_struct (meant rows m.ty.0))) (λ m. m.at) u.members
inline_fault rows def = None

-- ---- the keys of a map are texts

abbrev pub key_fault : List Row → TypeDef → Option ℕ
key_fault rows (D.Map key at value value_at form) = place_if (not (has_text_form rows key.0)) at
key_fault rows def = None

-- ---- parts have what their representation asks for, and nothing that it has no place for

-- a field of a struct whose names don't stand in a block, and nothing in place of a field
abbrev pub is_field_wrong : StructForm → Field → Bool
is_field_wrong S.Tuple f = is_some f.rename || is_some f.implicit
is_field_wrong (S.StringJoin join) f = is_some f.rename || is_some f.implicit
is_field_wrong form f = false

-- a join has a field
abbrev pub is_bare_join : StructForm → List Field → Bool
is_bare_join (S.StringJoin join) [] = true
is_bare_join form fs = false

abbrev pub is_member_wrong : UnionForm → Member → Bool
is_member_wrong U.Kinded m = is_none (mark_kind m.mark)
is_member_wrong U.BytesPrefix m = is_none (option_and_then bytes_of_hex (mark_text m.mark))
is_member_wrong form m = is_none (mark_text m.mark)

abbrev pub is_value_wrong : EnumForm → EnumMember → Bool
is_value_wrong E.Text m = false
is_value_wrong E.Int m = is_none (member_integer m)

-- the rule for the type at a place
abbrev pub strategy_fault : ℕ → TypeDef → Option ℕ
strategy_fault at (D.Struct s) = if is_bare_join s.form s.fields then Some at else first_place (is_field_wrong s.form) (λ f. f.at) s.fields
strategy_fault at (D.Union u) = first_place (is_member_wrong u.form) (λ m. m.at) u.members
strategy_fault at (D.Enum e) = first_place (is_value_wrong e.form) (λ m. m.at) e.members
strategy_fault at def = None
