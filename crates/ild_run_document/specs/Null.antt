-- The text `null`.
use Rattle.std.specs.Prelude.{ℕ, List, [], ◌∷◌}

abbrev pub null_text : List ℕ
null_text = 110 ∷ 117 ∷ 108 ∷ 108 ∷ []
