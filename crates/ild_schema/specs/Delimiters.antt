-- Delimiters: what stands between the parts of a text.
use Rattle.std.specs.Prelude.{ℕ, List, [], ◌∷◌, Bool, true, false, ◌||◌, nat_eq, Option, None}
use Rattle.std.specs.List.{starts_with}
use Rattle.ild_schema.specs.declared.def.TypeDef.{TypeDef}
use Rattle.ild_schema.specs.declared.def.TypeDef.TheVariants as D
use Rattle.ild_schema.specs.declared.def.MapForm.{MapForm}
use Rattle.ild_schema.specs.declared.def.MapForm.TheVariants as M
use Rattle.ild_schema.specs.declared.def.StructForm.{StructForm}
use Rattle.ild_schema.specs.declared.def.StructForm.TheVariants as S
use Rattle.ild_schema.specs.Places.{place_if}

abbrev pub is_empty : List ℕ → Bool
is_empty [] = true
is_empty (b ∷ bs) = false

-- whether a text stands somewhere in another
abbrev pub occurs : List ℕ → List ℕ → Bool
occurs part [] = starts_with nat_eq [] part
occurs part (b ∷ bs) = starts_with nat_eq (b ∷ bs) part || occurs part bs

-- one is empty, or that of the entries stands in that of an entry
abbrev pub are_poor : List ℕ → List ℕ → Bool
are_poor inner entry = is_empty inner || is_empty entry || occurs entry inner

abbrev pub is_poor_map : MapForm → Bool
is_poor_map (M.StringPairs inner entry) = are_poor inner entry
is_poor_map form = false

abbrev pub is_poor_struct : StructForm → Bool
is_poor_struct (S.StringPairs inner entry) = are_poor inner entry
is_poor_struct (S.StringJoin join) = is_empty join
is_poor_struct form = false

-- the rule on delimiters, for the type at a place
abbrev pub delim_fault : ℕ → TypeDef → Option ℕ
delim_fault at (D.Map key key_at value value_at form) = place_if (is_poor_map form) at
delim_fault at (D.Struct s) = place_if (is_poor_struct s.form) at
delim_fault at def = None
