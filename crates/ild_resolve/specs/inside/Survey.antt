-- Which names are taken where some stand for numbers.
use Rattle.std.specs.Prelude.{ℕ, List, Bool, Option, Some, None, ◌||◌, codes, is_some, bytes_eq, if◌then◌else◌}
use Rattle.ild_parse_grammar.specs.declared.ast.TypeName.{TypeName}

abbrev pub is_taken : (List ℕ → Option ℕ) → List ℕ → Bool
is_taken numbers name = bytes_eq name (codes "Float") || is_some (numbers name)

-- the place of a declared name, where it is taken
abbrev pub again_at : (List ℕ → Option ℕ) → TypeName → Option ℕ
again_at numbers t = if is_taken numbers t.name then Some t.at else None
