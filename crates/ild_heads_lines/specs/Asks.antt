-- The lines of a script over named heads, as its grammar reads them.
use Rattle.std.specs.Prelude.{◌≡◌, ℕ, List, [], ◌∷◌, length, drop, Bool, true, false, ◌==◌, nat_lt, nat_eq, Option, Some, None, Result, Ok, Err, if◌then◌else◌, codes}
use Rattle.std.specs.List.{before_first, after_first, position_or_len, starts_with}
use Rattle.std.specs.Str.Lossy.{utf8_valid_len}
use Rattle.ild_data.specs.Key.{same_text}
use Rattle.ild_script.specs.Line as script
use Rattle.ild_script.specs.Line.{is_space, reads}
use Rattle.ild_script.specs.declared.error.LineErr.{LineErr}
use Rattle.ild_script.specs.declared.error.LineErr.TheVariants as L
use Rattle.ild_script.specs.declared.word.Word.{Word}
use Rattle.ild_script.specs.declared.word.Word.TheVariants as W
use Rattle.ild_heads.specs.declared.events.Event.TheVariants as E
use Rattle.ild_heads_lines.specs.Name.{name_of}
use Rattle.ild_heads_lines.specs.Number.{number_of}
use Rattle.ild_data_root.specs.Root.{root_of_text}
use Rattle.ild_heads_lines.specs.declared.asking.Asked.{Asked}
use Rattle.ild_heads_lines.specs.declared.asking.Asked.TheVariants as A

pub data Reading : Type 0 where
  blank : Reading
  asks : Asked → Reading
  outside : Reading

-- whether a word is one of those by which sessions themselves begin and end
abbrev pub is_own : Word → Bool
is_own W.Get = false
is_own W.Rep = false
is_own W.Has = false
is_own W.Len = false
is_own W.Walk = false
is_own W.Del = false
is_own W.Set = false
is_own W.Ins = false
is_own W.Root = false
is_own W.Begin = true
is_own W.Commit = true
is_own W.Abort = true

-- a line for the session's own root: a command of scripts, but for those words
abbrev pub asks_command : ℕ → List ℕ → script.Reading → Reading
asks_command n rest script.blank = outside
asks_command n rest (script.command c) = if is_own c.verb then outside else asks (A.Event (E.Line n rest))
asks_command n rest script.outside = outside

abbrev pub asks_line : ℕ → List ℕ → Reading
asks_line n rest = asks_command n rest (reads rest)

-- a session begins at the head with a name
abbrev pub asks_begin : ℕ → Option (List ℕ) → Reading
asks_begin n None = outside
asks_begin n (Some name) = asks (A.Event (E.Begin n name))

abbrev pub asks_other : ℕ → List ℕ → Reading
asks_other n rest = if starts_with nat_eq rest (codes "begin ") then asks_begin n (name_of (drop 6 rest)) else asks_line n rest

-- what stands behind the number of a session and a space
abbrev pub asks_session : ℕ → List ℕ → Reading
asks_session n rest =
    if same_text rest (codes "commit") then asks (A.Event (E.Commit n))
    else if same_text rest (codes "replay") then asks (A.Event (E.Replay n))
    else if same_text rest (codes "abort") then asks (A.Event (E.Abort n))
    else asks_other n rest

-- a head with a root
abbrev pub asks_root : List ℕ → Option (List ℕ) → Reading
asks_root name None = outside
asks_root name (Some id) = asks (A.Event (E.Head name (record { 0 = id })))

-- what stands behind the name of a head and a space: `-` for the empty value, or a root
abbrev pub asks_target : List ℕ → List ℕ → Reading
asks_target name target = if same_text target (codes "-") then asks (A.Empty name) else asks_root name (root_of_text target)

abbrev pub asks_named : Option (List ℕ) → List ℕ → Reading
asks_named None target = outside
asks_named (Some name) target = asks_target name target

-- what stands behind `head` and a space
abbrev pub asks_head : List ℕ → Reading
asks_head rest =
    if nat_lt (position_or_len is_space rest) (length rest)
    then asks_named (name_of (before_first is_space rest)) (after_first is_space rest)
    else outside

abbrev pub asks_numbered : Option ℕ → List ℕ → Reading
asks_numbered None rest = outside
asks_numbered (Some n) rest = asks_session n rest

abbrev pub asks_behind : List ℕ → List ℕ → Reading
asks_behind word rest = if same_text word (codes "head") then asks_head rest else asks_numbered (number_of word) rest

abbrev pub asks_text : List ℕ → Reading
asks_text line =
    if nat_lt (position_or_len is_space line) (length line)
    then asks_behind (before_first is_space line) (after_first is_space line)
    else outside

-- the reading of a line; one that is not UTF-8 is outside the grammar
abbrev pub asks_of : List ℕ → Reading
asks_of [] = blank
asks_of (b ∷ bs) = if utf8_valid_len (b ∷ bs) == length (b ∷ bs) then asks_text (b ∷ bs) else outside

-- what was read of a text is what it asks; want of memory is free
abbrev pub AsksText : Result Asked LineErr → Reading → Type 0
AsksText (Ok asked) reading = reading ≡ asks asked
AsksText (Err L.Line) reading = reading ≡ outside
AsksText (Err L.Memory) reading = Unit {0}

-- and so of a line
abbrev pub AsksAs : List ℕ → Result (Option Asked) LineErr → Type 0
AsksAs line (Ok None) = asks_of line ≡ blank
AsksAs line (Ok (Some asked)) = asks_of line ≡ asks asked
AsksAs line (Err L.Line) = asks_of line ≡ outside
AsksAs line (Err L.Memory) = Unit {0}
