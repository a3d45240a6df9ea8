-- Why data are no layer of a type: each cause by itself over the data, and the first that holds. What a part's own data
-- are, how much room there is, whether a map's keys stand twice and what a HAMT's root says are asked elsewhere.
use Rattle.std.specs.Prelude.{Bool, false, ◌||◌, not, Option}
use Rattle.ild_data.specs.Data.{Data}
use Rattle.ild_schema.specs.declared.def.TypeDef.{TypeDef}
use Rattle.ild_schema.specs.declared.def.TypeDef.TheVariants as D
use Rattle.ild_typed.specs.Kinds.{kind_word_of}
use Rattle.ild_schema.specs.DataKinds.{has_kind}
use Rattle.ild_typed.specs.Why as W
use Rattle.ild_typed.specs.Why.{Why, in_order, first_that}
use Rattle.ild_typed.specs.StructWhy.{struct_kind_why, struct_name_why, struct_missing, struct_count, struct_order, struct_repeat, struct_implicit, struct_delimiter}
use Rattle.ild_typed.specs.UnionWhy.{union_name, union_missing, union_count, union_prefix, union_member}
use Rattle.ild_typed.specs.PlainWhy.{map_kind_why, map_count, map_delimiter, unit_count, unit_member, enum_member}

-- ---- each cause

abbrev pub is_kind_why : TypeDef → Data → Bool
is_kind_why (D.Map key key_at value at form) t = map_kind_why form t
is_kind_why (D.Struct s) t = struct_kind_why s.form t
is_kind_why d t = false

abbrev pub is_name_why : TypeDef → Data → Bool
is_name_why (D.Struct s) t = struct_name_why s.form s.fields t
is_name_why (D.Union u) t = union_name u.form t
is_name_why d t = false

abbrev pub is_missing : TypeDef → Data → Bool
is_missing (D.Struct s) t = struct_missing s.form s.fields t
is_missing (D.Union u) t = union_missing u.form t
is_missing d t = false

abbrev pub is_count : TypeDef → Data → Bool
is_count (D.Unit form) t = unit_count form t
is_count (D.Map key key_at value at form) t = map_count form t
is_count (D.Struct s) t = struct_count s.form s.fields t
is_count (D.Union u) t = union_count u.form t
is_count d t = false

abbrev pub is_order : TypeDef → Data → Bool
is_order (D.Struct s) t = struct_order s.form s.fields t
is_order d t = false

abbrev pub is_repeat : TypeDef → Data → Bool
is_repeat (D.Struct s) t = struct_repeat s.form t
is_repeat d t = false

abbrev pub is_implicit_why : TypeDef → Data → Bool
is_implicit_why (D.Struct s) t = struct_implicit s.form s.fields t
is_implicit_why d t = false

abbrev pub is_delimiter : TypeDef → Data → Bool
is_delimiter (D.Map key key_at value at form) t = map_delimiter form t
is_delimiter (D.Struct s) t = struct_delimiter s.form s.fields t
is_delimiter d t = false

abbrev pub is_prefix : TypeDef → Data → Bool
is_prefix (D.Union u) t = union_prefix u.form u.members t
is_prefix d t = false

abbrev pub is_member : TypeDef → Data → Bool
is_member (D.Unit form) t = unit_member form t
is_member (D.Union u) t = union_member u.form u.members t
is_member (D.Enum e) t = enum_member e.form e.members t
is_member d t = false

-- the other causes are none of a layer by itself
abbrev pub is_cause : TypeDef → Data → Why → Bool
is_cause d t W.Kind = not (has_kind d (kind_word_of t)) || is_kind_why d t
is_cause d t W.Name = is_name_why d t
is_cause d t W.Missing = is_missing d t
is_cause d t W.Count = is_count d t
is_cause d t W.Order = is_order d t
is_cause d t W.Repeat = is_repeat d t
is_cause d t W.Implicit = is_implicit_why d t
is_cause d t W.Delimiter = is_delimiter d t
is_cause d t W.Prefix = is_prefix d t
is_cause d t W.Member = is_member d t
is_cause d t w = false

abbrev pub why_of : TypeDef → Data → Option Why
why_of d t = first_that (is_cause d t) in_order
