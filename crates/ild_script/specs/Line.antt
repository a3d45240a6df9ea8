-- The lines of a script, as the grammar reads them.
use Rattle.std.specs.Prelude.{ℕ, ◌+◌, List, [], ◌∷◌, length, Bool, ◌==◌, nat_lt, Option, Some, None, if◌then◌else◌, codes}
use Rattle.std.specs.List.{slice_split, before_first, after_first, position_or_len}
use Rattle.std.specs.Str.Lossy.{utf8_valid_len}
use Rattle.ild_data.specs.Key.{same_text}
use Rattle.ild_script.specs.Path.{path_of}
use Rattle.ild_script.specs.declared.word.Word.{Word}
use Rattle.ild_script.specs.declared.word.Word.TheVariants.{Get, Rep, Has, Len, Walk, Del, Set, Ins, Root, Begin, Commit, Abort}
use Rattle.ild_script.specs.declared.word.Shape.{Shape}
use Rattle.ild_script.specs.declared.word.Shape.TheVariants.{Alone, WithPath, WithJson}

abbrev pub is_feed : ℕ → Bool
is_feed b = b == 10

abbrev pub is_space : ℕ → Bool
is_space b = b == 32

-- the lines of a script: what stands between line feeds, the empty line behind the last one too
abbrev pub lines_of : List ℕ → List (List ℕ)
lines_of = slice_split is_feed

-- a command: its word, its path (the root's where it has none), and its json (empty where it has none)
pub record Command : Type 0 where
  pub verb : Word
  pub path : List (List ℕ)
  pub json : List ℕ

pub data Reading : Type 0 where
  blank : Reading
  command : Command → Reading
  outside : Reading

abbrev pub word_of : List ℕ → Option Word
word_of w =
    if same_text w (codes "get") then Some Get
    else if same_text w (codes "rep") then Some Rep
    else if same_text w (codes "has") then Some Has
    else if same_text w (codes "len") then Some Len
    else if same_text w (codes "walk") then Some Walk
    else if same_text w (codes "del") then Some Del
    else if same_text w (codes "set") then Some Set
    else if same_text w (codes "ins") then Some Ins
    else if same_text w (codes "root") then Some Root
    else if same_text w (codes "begin") then Some Begin
    else if same_text w (codes "commit") then Some Commit
    else if same_text w (codes "abort") then Some Abort
    else None

-- what stands behind a word
abbrev pub shape_of : Word → Shape
shape_of Get = WithPath
shape_of Rep = WithPath
shape_of Has = WithPath
shape_of Len = WithPath
shape_of Walk = WithPath
shape_of Del = WithPath
shape_of Set = WithJson
shape_of Ins = WithJson
shape_of Root = Alone
shape_of Begin = Alone
shape_of Commit = Alone
shape_of Abort = Alone

-- a command with this path, if there is one
abbrev pub at_path : Word → List ℕ → Option (List (List ℕ)) → Reading
at_path verb json None = outside
at_path verb json (Some path) = command (record { verb = verb; path = path; json = json })

-- a path, a space, and at least one byte more
abbrev pub read_json : Word → List ℕ → Reading
read_json verb rest =
    if nat_lt (position_or_len is_space rest + 1) (length rest)
    then at_path verb (after_first is_space rest) (path_of (before_first is_space rest))
    else outside

-- what stands behind a word and a space
abbrev pub read_rest : Word → Shape → List ℕ → Reading
read_rest verb Alone rest = outside
read_rest verb WithPath rest = at_path verb [] (path_of rest)
read_rest verb WithJson rest = read_json verb rest

abbrev pub read_behind : Option Word → List ℕ → Reading
read_behind None rest = outside
read_behind (Some verb) rest = read_rest verb (shape_of verb) rest

-- a word and nothing behind it
abbrev pub read_shape : Word → Shape → Reading
read_shape verb Alone = command (record { verb = verb; path = []; json = [] })
read_shape verb WithPath = outside
read_shape verb WithJson = outside

abbrev pub read_alone : Option Word → Reading
read_alone None = outside
read_alone (Some verb) = read_shape verb (shape_of verb)

abbrev pub reads_text : List ℕ → Reading
reads_text line =
    if nat_lt (position_or_len is_space line) (length line)
    then read_behind (word_of (before_first is_space line)) (after_first is_space line)
    else read_alone (word_of line)

-- the reading of a line; one that is not UTF-8 is outside the grammar
abbrev pub reads : List ℕ → Reading
reads [] = blank
reads (b ∷ bs) = if utf8_valid_len (b ∷ bs) == length (b ∷ bs) then reads_text (b ∷ bs) else outside
