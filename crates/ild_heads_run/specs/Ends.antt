-- The lines that are written at the end of a script: one for each head, in the order of their names.
use Rattle.std.specs.Prelude.{ℕ, List, []}
use Rattle.std.specs.FinMap as fin
use Rattle.std.specs.List.{flat_map}
use Rattle.std.specs.Option.{option_map_or}
use Rattle.ild_heads.specs.State.{State}
use Rattle.ild_heads.specs.Turn.{head_at}
use Rattle.ild_heads_lines.specs.Told.{head_text}

-- that of the head with a name
abbrev pub end_of : State → List ℕ → List ℕ
end_of s name = option_map_or (λ h. head_text name h.root) (head_at s name) []

abbrev pub ends : State → List ℕ
ends s = flat_map (end_of s) (fin.keys s.heads)
