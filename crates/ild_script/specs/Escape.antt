-- The escapes of a path's segment: `~0`, `~1`, `~2`, `~3` stand for `~`, `/`, a space and a line feed.
use Rattle.std.specs.Prelude.{ℕ, List, [], ◌∷◌, ◌==◌, Option, Some, None, option_map, if◌then◌else◌}

-- what a byte behind `~` stands for
abbrev pub escaped_byte : ℕ → Option ℕ
escaped_byte c =
    if c == 48 then Some 126
    else if c == 49 then Some 47
    else if c == 50 then Some 32
    else if c == 51 then Some 10
    else None

-- what the digit behind a `~` stands for, and what follows it
abbrev pub behind_tilde : List ℕ → Option (ℕ × List ℕ)
behind_tilde [] = None
behind_tilde (c ∷ bs) = option_map (λ b. (b, bs)) (escaped_byte c)

-- a byte, where there is one, before a text, where there is one
abbrev pub before : Option ℕ → Option (List ℕ) → Option (List ℕ)
before None text = None
before (Some b) text = option_map (λ bs. b ∷ bs) text

-- the text that a segment writes; none where another byte, or nothing, stands behind a `~`
abbrev pub unescaped : List ℕ → Option (List ℕ)
unescaped [] = Some []
unescaped (b ∷ []) = if b == 126 then None else Some (b ∷ [])
unescaped (b ∷ c ∷ bs) = if b == 126 then before (escaped_byte c) (unescaped bs) else before (Some b) (unescaped (c ∷ bs))
