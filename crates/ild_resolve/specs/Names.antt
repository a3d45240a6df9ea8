-- For which type a name stands: one of the prelude, or the declared one.
use Rattle.std.specs.Prelude.{ℕ, suc, List, [], ◌∷◌, Option, Some, None, bytes_eq, if◌then◌else◌}
use Rattle.std.specs.Option.{option_or}
use Rattle.std.specs.List.{flat_map}
use Rattle.ild_parse_grammar.specs.declared.ast.Decl.{Decl}
use Rattle.ild_parse_grammar.specs.declared.ast.Decl.TheVariants as A
use Rattle.ild_schema.specs.Names.{number_named}
use Rattle.ild_schema.specs.Prelude.{prelude}
use Rattle.ild_resolve.specs.Events.{Event, declares, begins}

-- The number of the declared type of a name, where the next type has the number n: types are numbered as they begin, so
-- inline types behind the declared one in which they stand.
abbrev pub number_declared : List ℕ → ℕ → List Event → Option ℕ
number_declared name n [] = None
number_declared name n (declares t ∷ es) = if bytes_eq name t.name then Some n else number_declared name (suc n) es
number_declared name n (begins at ∷ es) = number_declared name (suc n) es
number_declared name n (e ∷ es) = number_declared name n es

-- the declared types come behind the eight of the prelude
abbrev pub number_of : List ℕ → List Event → Option ℕ
number_of name es = option_or (number_named name prelude) (number_declared name 8 es)

-- the declared names, in the order of the text
abbrev pub declared_name : Decl → List (List ℕ)
declared_name (A.Type d) = d.name.name ∷ []
declared_name (A.Advanced t) = []

abbrev pub names_in : List Decl → List (List ℕ)
names_in decls = flat_map declared_name decls
