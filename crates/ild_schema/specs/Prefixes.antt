-- The prefixes of unions, by which a text or bytes tell their member: none begins another.
use Rattle.std.specs.Prelude.{ℕ, List, [], ◌∷◌, Bool, true, false, ◌&&◌, ◌||◌, nat_eq, Option, None, option_and_then}
use Rattle.std.specs.List.{list_any}
use Rattle.std.specs.Option.{option_map_or}
use Rattle.ild_schema.specs.declared.def.TypeDef.{TypeDef}
use Rattle.ild_schema.specs.declared.def.TypeDef.TheVariants as D
use Rattle.ild_schema.specs.declared.def.UnionForm.{UnionForm}
use Rattle.ild_schema.specs.declared.def.UnionForm.TheVariants as U
use Rattle.ild_schema.specs.declared.def.Member.{Member}
use Rattle.ild_schema.specs.Delimiters.{is_empty}
use Rattle.ild_data.specs.Hex.{bytes_of_hex}
use Rattle.ild_schema.specs.Marks.{mark_text}
use Rattle.ild_schema.specs.Places.{first_beside}

-- the prefix of a member, if it has one
abbrev pub prefix_of : UnionForm → Member → Option (List ℕ)
prefix_of U.StringPrefix m = mark_text m.mark
prefix_of U.BytesPrefix m = option_and_then bytes_of_hex (mark_text m.mark)
prefix_of form m = None

-- whether a text or bytes begin with others
abbrev pub begins : List ℕ → List ℕ → Bool
begins [] s = true
begins (c ∷ cs) [] = false
begins (c ∷ cs) (d ∷ s) = nat_eq c d && begins cs s

-- one of two prefixes begins with the other
abbrev pub touch : List ℕ → List ℕ → Bool
touch a b = begins b a || begins a b

-- a prefix beside those of the members before it
abbrev pub is_unclear : UnionForm → List Member → List ℕ → Bool
is_unclear form before prefix = is_empty prefix || list_any (λ m. option_map_or (touch prefix) (prefix_of form m) false) before

abbrev pub prefix_fails : UnionForm → List Member → Member → Bool
prefix_fails form before m = option_map_or (λ prefix. is_unclear form before prefix) (prefix_of form m) false

-- the rule on prefixes
abbrev pub prefix_fault : TypeDef → Option ℕ
prefix_fault (D.Union u) = first_beside (prefix_fails u.form) (λ m. m.at) [] u.members
prefix_fault def = None
