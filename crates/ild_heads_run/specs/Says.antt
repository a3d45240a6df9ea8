-- Lines of a text that say no.
use Rattle.std.specs.Prelude.{ℕ, List, [], ◌∷◌, Bool, false, ◌==◌, nat_eq, ◌||◌, codes, if◌then◌else◌}
use Rattle.std.specs.List.{starts_with}
use Rattle.ild_heads_lines.specs.Number.{is_digit}

-- a byte of the number of a session, or of the space behind it
abbrev pub is_numbering : ℕ → Bool
is_numbering b = b == 32 || is_digit b

-- whether a line says no, behind the number of a session if it has one
abbrev pub says_no : List ℕ → Bool
says_no [] = false
says_no (b ∷ bs) = if is_numbering b then says_no bs else starts_with nat_eq (b ∷ bs) (codes "no ")
