-- The fields and members of a type by their texts: the number of the first that has a name, and of the first that stands in
-- a block under a text (IPLD Schemas, "Representations").
use Rattle.std.specs.Prelude.{ℕ, ◌<◌, List, [], Bool, false, Option, Some, None, IfSome, bytes_eq, map}
use Rattle.std.specs.List.{position_from}
use Rattle.ild_schema.specs.declared.def.TypeDef.{TypeDef}
use Rattle.ild_schema.specs.declared.def.TypeDef.TheVariants as D
use Rattle.ild_schema.specs.declared.row.Row.{Row}
use Rattle.ild_schema.specs.Marks.{mark_text, field_text, member_text}
use Rattle.ild_schema.specs.Table.{def_at, parts_of}

abbrev pub part_named : List ℕ → TypeDef → Option ℕ
part_named name (D.Struct s) = position_from (λ f. bytes_eq name f.name) 0 s.fields
part_named name (D.Union u) = position_from (λ m. bytes_eq name m.name) 0 u.members
part_named name (D.Enum e) = position_from (λ m. bytes_eq name m.name) 0 e.members
part_named name def = None

abbrev pub is_text : List ℕ → Option (List ℕ) → Bool
is_text text None = false
is_text text (Some t) = bytes_eq text t

-- a field under its name in a block, a member of a union under the text behind it, a member of an enum under its text
abbrev pub part_spelled : List ℕ → TypeDef → Option ℕ
part_spelled text (D.Struct s) = position_from (λ f. bytes_eq text (field_text f)) 0 s.fields
part_spelled text (D.Union u) = position_from (λ m. is_text text (mark_text m.mark)) 0 u.members
part_spelled text (D.Enum e) = position_from (λ m. bytes_eq text (member_text m)) 0 e.members
part_spelled text def = None

-- the names of the parts, in the order of their numbers
abbrev pub part_names : TypeDef → List (Option (List ℕ))
part_names (D.Struct s) = map (λ f. Some f.name) s.fields
part_names (D.Union u) = map (λ m. Some m.name) u.members
part_names (D.Enum e) = map (λ m. Some m.name) e.members
part_names def = []

-- the texts under which they stand in a block, where there are any
abbrev pub part_texts : TypeDef → List (Option (List ℕ))
part_texts (D.Struct s) = map (λ f. Some (field_text f)) s.fields
part_texts (D.Union u) = map (λ m. mark_text m.mark) u.members
part_texts (D.Enum e) = map (λ m. Some (member_text m)) e.members
part_texts def = []

-- the number of a part of the type with a number
abbrev pub IsPartOf : List Row → ℕ → ℕ → Type 0
IsPartOf rows n i = IfSome (def_at rows n) (λ def. i < parts_of def)
