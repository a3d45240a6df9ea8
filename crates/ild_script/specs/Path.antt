-- Paths in a line: `.`, or segments with a slash before each.
use Rattle.std.specs.Prelude.{ℕ, List, [], ◌∷◌, drop, map, Bool, ◌==◌, ◌&&◌, not, nat_eq, Option, Some, None, option_map, if◌then◌else◌, codes}
use Rattle.std.specs.List.{slice_split, starts_with, list_all}
use Rattle.ild_data.specs.Key.{same_text}
use Rattle.ild_script.specs.Escape.{unescaped}

abbrev pub is_slash : ℕ → Bool
is_slash b = b == 47

-- neither a space nor a line feed: these stand in a path as escapes alone
abbrev pub is_bare : ℕ → Bool
is_bare b = not (b == 32) && not (b == 10)

-- a list, where each element is there
abbrev pub all_some : {A : Type 0} → List (Option A) → Option (List A)
all_some [] = Some []
all_some (None ∷ xs) = None
all_some (Some x ∷ xs) = option_map (λ ys. x ∷ ys) (all_some xs)

-- the segments between slashes
abbrev pub segments_of : List ℕ → Option (List (List ℕ))
segments_of bs = all_some (map unescaped (slice_split is_slash bs))

-- the path that a text writes, as the list of its segments
abbrev pub path_of : List ℕ → Option (List (List ℕ))
path_of bs =
    if same_text bs (codes ".") then Some []
    else if starts_with nat_eq bs (codes "/") && list_all is_bare bs then segments_of (drop 1 bs)
    else None
