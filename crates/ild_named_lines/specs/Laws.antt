-- Laws of scripts that are seen from one step further out.
use Rattle.std.specs.Prelude.{◌≡◌, ℕ, List, map}
use Rattle.ild_script.specs.Line.{lines_of, reads}
use Rattle.ild_named_lines.specs.Beneath.{line_beneath, reading_beneath, script_beneath}

-- a line with `/value` before its path is read as the same command, whose path goes through `value` first; it is blank, or outside the
-- grammar, where the line is
abbrev pub LinesAreReadBeneath : Type 0
LinesAreReadBeneath = (line : List ℕ) → reads (line_beneath line) ≡ reading_beneath (reads line)

-- the lines are those of the script, each with `/value` before its path
abbrev pub ScriptsAreOfLines : Type 0
ScriptsAreOfLines = (script : List ℕ) → lines_of (script_beneath script) ≡ map line_beneath (lines_of script)
