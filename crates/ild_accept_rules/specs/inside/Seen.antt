-- What was seen of the parts of a type: the prefixes, the first part with a text, and the names, each by the number of the first
-- part that has it; and whether a member of a union was.
use Rattle.std.specs.Prelude.{ℕ, ◌==◌, Bool, false, List, [], ◌∷◌, ◌++◌, Option, Some, None, nat_lt, slice_index_or, ◌&&◌, ◌||◌}
use Rattle.std.specs.Option.{option_and_then, option_map_or}
use Rattle.ild_schema.specs.declared.row.Row.{Row}
use Rattle.ild_schema.specs.Parts.{part_named, part_spelled}
use Rattle.ild_schema.specs.Table.{def_at}
use Rattle.ild_schema.specs.Clashes.{discriminant_of, is_key_taken}
use Rattle.ild_schema.specs.Marks.{is_marked}
use Rattle.ild_schema.specs.declared.def.Member.{Member}
use Rattle.ild_schema.specs.declared.def.UnionForm.{UnionForm}

abbrev pub with_prefix : List (List ℕ) → Option (List ℕ) → List (List ℕ)
with_prefix seen None = seen
with_prefix seen (Some prefix) = seen ++ prefix ∷ []

-- the first part of a type with a name, or under a text
abbrev pub first_named : List Row → ℕ → List ℕ → Option ℕ
first_named rows n name = option_and_then (part_named name) (def_at rows n)

abbrev pub first_spelled : List Row → ℕ → List ℕ → Option ℕ
first_spelled rows n text = option_and_then (part_spelled text) (def_at rows n)

-- whether the first part with a text stands before a part
abbrev pub is_before : ℕ → Option ℕ → Bool
is_before part (Some first) = nat_lt first part
is_before part None = false

-- whether the first part with a name is marked
abbrev pub is_seen : List Bool → Option ℕ → Bool
is_seen marks (Some first) = slice_index_or marks first false
is_seen marks None = false

-- whether two first parts are one
abbrev pub is_one : Option ℕ → Option ℕ → Bool
is_one (Some a) (Some b) = a == b
is_one (Some a) None = false
is_one None b = false

-- whether the discriminant of a member, if it has one, is that of one before it
abbrev pub is_told_before : List Row → ℕ → ℕ → UnionForm → Member → Bool
is_told_before rows ty part form m = option_map_or (λ text. is_before part (first_spelled rows ty text)) (discriminant_of form m) false

-- whether a member that has what the union asks for clashes: its name was seen, its discriminant is that of one before it, or
-- the key of the union is the name of one of its fields
abbrev pub is_member_seen : List Row → ℕ → ℕ → List Bool → UnionForm → Member → Bool
is_member_seen rows ty part names form m =
    is_marked form m && ((is_seen names (first_named rows ty m.name) || is_told_before rows ty part form m) || is_key_taken rows form m)
