-- The faults of a schema's names, each the first of its sort in the text.
use Rattle.std.specs.Prelude.{ℕ, suc, List, [], ◌∷◌, Bool, Option, Some, None, codes, map, nat_lt, is_some, bytes_eq, option_map, if◌then◌else◌}
use Rattle.std.specs.List.{list_any}
use Rattle.std.specs.Option.{option_or}
use Rattle.ild_schema.specs.Prelude.{prelude}
use Rattle.ild_parse_grammar.specs.declared.ast.TypeName.{TypeName}
use Rattle.ild_resolve.specs.Events.{Event, declares, begins, uses, advances, floats, part}
use Rattle.ild_resolve.specs.Layouts.{shape_named}
use Rattle.ild_resolve.specs.Names.{number_of}
use Rattle.ild_resolve.specs.declared.error.ResolveErr.{ResolveErr}
use Rattle.ild_resolve.specs.declared.error.ResolveErr.TheVariants as E

abbrev pub most_types : ℕ
most_types = 65535

abbrev pub most_parts : ℕ
most_parts = 1024

-- the place of the first type behind the most that there may be, where so many were before, or of the first part behind
-- the most that its type may have
abbrev pub first_above : ℕ → List Event → Option ℕ
first_above types [] = None
first_above types (declares t ∷ es) = if nat_lt types most_types then first_above (suc types) es else Some t.at
first_above types (begins at ∷ es) = if nat_lt types most_types then first_above (suc types) es else Some at
first_above types (part at before ∷ es) = if nat_lt before most_parts then first_above types es else Some at
first_above types (e ∷ es) = first_above types es

abbrev pub is_among : List ℕ → List (List ℕ) → Bool
is_among name names = list_any (bytes_eq name) names

-- the place of the first declared name that is taken, or declared before
abbrev pub first_again : List (List ℕ) → List Event → Option ℕ
first_again taken [] = None
first_again taken (declares t ∷ es) = if is_among t.name taken then Some t.at else first_again (t.name ∷ taken) es
first_again taken (e ∷ es) = first_again taken es

-- the names that no schema may declare: those of the prelude, and `Float`
abbrev pub taken_names : List (List ℕ)
taken_names = codes "Float" ∷ map (λ r. r.name) prelude

-- what is wrong with the name of a type, where `numbers` says for which numbers names stand
abbrev pub name_fault : (List ℕ → Option ℕ) → TypeName → Option ResolveErr
name_fault numbers t = if bytes_eq t.name (codes "Float") then Some (E.Float t.at) else if is_some (numbers t.name) then None else Some (E.Unknown t.at)

abbrev pub event_fault : (List ℕ → Option ℕ) → Event → Option ResolveErr
event_fault numbers (uses t) = name_fault numbers t
event_fault numbers (advances t) = if is_some (shape_named t.name) then None else Some (E.Advanced t.at)
event_fault numbers (floats at) = Some (E.Float at)
event_fault numbers e = None

-- the first fault of a word
abbrev pub first_wrong : (List ℕ → Option ℕ) → List Event → Option ResolveErr
first_wrong numbers [] = None
first_wrong numbers (e ∷ es) = option_or (event_fault numbers e) (first_wrong numbers es)

-- the first fault of the limits, else of the declared names
abbrev pub declared_fault : List Event → Option ResolveErr
declared_fault es = option_or (option_map E.Many (first_above 0 es)) (option_map E.Twice (first_again taken_names es))

-- that one, else the first fault of the words
abbrev pub fault_in : List Event → Option ResolveErr
fault_in es = option_or (declared_fault es) (first_wrong (λ name. number_of name es) es)
