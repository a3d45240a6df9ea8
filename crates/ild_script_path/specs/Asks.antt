-- What asking for the path of a text answers.
use Rattle.std.specs.Prelude.{◌≡◌, ℕ, List, Option, Result, Ok, Err}
use Rattle.std.specs.declared.alloc.AllocError.{AllocError}
use Rattle.ild_script.specs.Path.{path_of}

-- a path is answered exactly where the text writes one; want of memory is free
abbrev pub AsksPath : List ℕ → Result (Option (List (List ℕ))) AllocError → Type 0
AsksPath text (Ok found) = found ≡ path_of text
AsksPath text (Err f) = Unit {0}
