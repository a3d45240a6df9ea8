-- A script, seen from one step further out: each path of a line goes through `value` first.
use Rattle.std.specs.Prelude.{ℕ, List, ◌∷◌, ◌++◌, length, drop, map, nat_eq, nat_lt, if◌then◌else◌, codes}
use Rattle.std.specs.List.{after_first, before_first, join_with_byte, position_or_len, starts_with}
use Rattle.ild_data.specs.Key.{same_text}
use Rattle.ild_script.specs.Line.{Reading, blank, command, outside, is_space, lines_of, shape_of}
use Rattle.ild_script.specs.declared.word.Shape.{Shape}
use Rattle.ild_script.specs.declared.word.Shape.TheVariants.{Alone, WithPath, WithJson}

-- ---- in the text

-- a path with `/value` before it: the whole, `.`, is then `/value`; what is neither `.` nor begins with `/` is no path, and stays
abbrev pub path_beneath : List ℕ → List ℕ
path_beneath path =
    if same_text path (codes ".") then codes "/value"
    else if starts_with nat_eq path (codes "/") then codes "/value" ++ path
    else path

-- the first space and all behind it; nothing, where there is no space
abbrev pub from_space : List ℕ → List ℕ
from_space bs = drop (position_or_len is_space bs) bs

-- what stands behind a line's word: the path, up to the next space, with `/value` before it, and the rest as it is
abbrev pub rest_beneath : List ℕ → List ℕ
rest_beneath rest = path_beneath (before_first is_space rest) ++ from_space rest

-- a line with `/value` before its path, which stands behind the first space; a line with no space stays
abbrev pub line_beneath : List ℕ → List ℕ
line_beneath line =
    if nat_lt (position_or_len is_space line) (length line)
    then before_first is_space line ++ (32 ∷ rest_beneath (after_first is_space line))
    else line

-- a script, of which each line is so
abbrev pub script_beneath : List ℕ → List ℕ
script_beneath script = join_with_byte 10 (map line_beneath (lines_of script))

-- ---- in what is read

-- the path of a command of this shape goes through `value` first; a word that stands alone has no path
abbrev pub steps_beneath : Shape → List (List ℕ) → List (List ℕ)
steps_beneath Alone path = path
steps_beneath WithPath path = codes "value" ∷ path
steps_beneath WithJson path = codes "value" ∷ path

abbrev pub reading_beneath : Reading → Reading
reading_beneath blank = blank
reading_beneath (command c) = command (record { verb = c.verb; path = steps_beneath (shape_of c.verb) c.path; json = c.json })
reading_beneath outside = outside
