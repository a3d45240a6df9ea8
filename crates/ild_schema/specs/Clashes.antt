-- Names and texts by which parts are told apart: no two are equal.
use Rattle.std.specs.Prelude.{ℕ, ℤ, List, [], Bool, false, ◌&&◌, ◌||◌, bytes_eq, Option, Some, None, if◌then◌else◌}
use Rattle.std.specs.List.{list_any}
use Rattle.std.specs.Ordering.{int_eq}
use Rattle.ild_schema.specs.declared.def.TypeDef.{TypeDef}
use Rattle.ild_schema.specs.declared.def.TypeDef.TheVariants as D
use Rattle.ild_schema.specs.declared.def.UnionForm.{UnionForm}
use Rattle.ild_schema.specs.declared.def.UnionForm.TheVariants as U
use Rattle.ild_schema.specs.declared.def.EnumForm.{EnumForm}
use Rattle.ild_schema.specs.declared.def.EnumForm.TheVariants as E
use Rattle.ild_schema.specs.declared.def.EnumMember.{EnumMember}
use Rattle.ild_schema.specs.declared.def.Field.{Field}
use Rattle.ild_schema.specs.declared.def.Member.{Member}
use Rattle.ild_schema.specs.declared.row.Row.{Row}
use Rattle.ild_schema.specs.Kinds.{meant}
use Rattle.ild_schema.specs.Marks.{mark_text, is_marked, is_valued, field_text, member_text, member_integer}
use Rattle.ild_schema.specs.Places.{first_beside}

-- a field beside those before it: its name, or its name in a block
abbrev pub is_field_again : List Field → Field → Bool
is_field_again before f = list_any (λ g. bytes_eq f.name g.name || bytes_eq (field_text f) (field_text g)) before

abbrev pub are_equal : Option ℤ → Option ℤ → Bool
are_equal (Some a) (Some b) = int_eq a b
are_equal (Some a) None = false
are_equal None b = false

-- whether two members of an enum have one value in a block, which is a text or an integer. A text that is no integer has none
abbrev pub is_same_value : EnumForm → EnumMember → EnumMember → Bool
is_same_value E.Text m o = bytes_eq (member_text m) (member_text o)
is_same_value E.Int m o = are_equal (member_integer m) (member_integer o)

-- a member of an enum, where it has what the enum asks for: its name, or its value in a block
abbrev pub is_value_again : EnumForm → List EnumMember → EnumMember → Bool
is_value_again form before m = is_valued form m && list_any (λ o. is_valued form o && (bytes_eq m.name o.name || is_same_value form m o)) before

-- the text that tells a union's member in a block, where it is one that stands for itself
abbrev pub discriminant_of : UnionForm → Member → Option (List ℕ)
discriminant_of U.Keyed m = mark_text m.mark
discriminant_of (U.Envelope discriminant content) m = mark_text m.mark
discriminant_of (U.Inline discriminant) m = mark_text m.mark
discriminant_of form m = None

abbrev pub are_same : Option (List ℕ) → Option (List ℕ) → Bool
are_same (Some a) (Some b) = bytes_eq a b
are_same (Some a) None = false
are_same None b = false

abbrev pub has_field : List ℕ → Option TypeDef → Bool
has_field key (Some (D.Struct s)) = list_any (λ f. bytes_eq key (field_text f)) s.fields
has_field key def = false

-- the key of an inline union is the name of a field of a member
abbrev pub is_key_taken : List Row → UnionForm → Member → Bool
is_key_taken rows (U.Inline key) m = has_field key (meant rows m.ty.0)
is_key_taken rows form m = false

-- a member of a union, where it has what the union asks for: its name, its discriminant, or the union's key
abbrev pub is_member_again : List Row → UnionForm → List Member → Member → Bool
is_member_again rows form before m =
    is_marked form m
    && (list_any (λ o. is_marked form o && (bytes_eq m.name o.name || are_same (discriminant_of form m) (discriminant_of form o))) before || is_key_taken rows form m)

abbrev pub has_one_key : UnionForm → Bool
has_one_key (U.Envelope discriminant content) = bytes_eq discriminant content
has_one_key form = false

-- the rule on names, for the type at a place
abbrev pub name_fault : List Row → ℕ → TypeDef → Option ℕ
name_fault rows at (D.Struct s) = first_beside is_field_again (λ f. f.at) [] s.fields
name_fault rows at (D.Enum e) = first_beside (is_value_again e.form) (λ m. m.at) [] e.members
name_fault rows at (D.Union u) = if has_one_key u.form then Some at else first_beside (is_member_again rows u.form) (λ m. m.at) [] u.members
name_fault rows at def = None
