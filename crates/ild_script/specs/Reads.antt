-- What the reader of lines answers.
use Rattle.std.specs.Prelude.{◌≡◌, ◌≢◌, ℕ, ◌-◌, ◌≤◌, List, drop, length, Option, Some, None, Result, Ok, Err}
use Rattle.ild_script.specs.Line.{Command, Reading, reads, blank, command, outside}
use Rattle.ild_script.specs.declared.error.LineErr.{LineErr}
use Rattle.ild_script.specs.declared.error.LineErr.TheVariants as E
use Rattle.ild_script.specs.declared.word.Word.{Word}
use Rattle.ild_script.specs.declared.line.Line.{Line}

-- what was read, seen so, is there, and what is outside the grammar isn't; want of memory is free
abbrev pub ReadsSo : {A B : Type 0} → (A → B) → Result A LineErr → Option B → Type 0
ReadsSo seen (Ok x) found = found ≡ Some (seen x)
ReadsSo seen (Err E.Line) found = found ≡ None
ReadsSo seen (Err E.Memory) found = Unit {0}

-- the last n bytes of l
abbrev pub last_bytes : ℕ → List ℕ → List ℕ
last_bytes n l = drop (length l - n) l

-- rest stands at the end of l
abbrev pub IsRest : List ℕ → List ℕ → Type 0
IsRest rest l = (length rest ≤ length l) × (rest ≡ last_bytes (length rest) l)

-- behind the word: the path was read, and so many bytes of json stand at the end
abbrev pub ReadsRest : Word → List ℕ → Result (List (List ℕ) × ℕ) LineErr → Reading → Type 0
ReadsRest verb rest (Ok p) reading = (p.1 ≤ length rest) × (reading ≡ command (record { verb = verb; path = p.0; json = last_bytes p.1 rest }))
ReadsRest verb rest (Err E.Line) reading = reading ≡ outside
ReadsRest verb rest (Err E.Memory) reading = Unit {0}

-- the command that a line of the program is, in the bytes l
abbrev pub command_in : List ℕ → Line → Command
command_in l line = record { verb = line.verb; path = line.path; json = drop line.json_at l }

-- a command is read from the bytes l
abbrev pub ReadsCommand : List ℕ → Result Line LineErr → Reading → Type 0
ReadsCommand l (Ok line) reading = (line.json_at ≤ length l) × (reading ≡ command (command_in l line))
ReadsCommand l (Err E.Line) reading = reading ≡ outside
ReadsCommand l (Err E.Memory) reading = Unit {0}

-- a line of the program is read from the bytes l; the empty one takes no memory
abbrev pub ReadsAs : List ℕ → Result (Option Line) LineErr → Type 0
ReadsAs l (Ok None) = reads l ≡ blank
ReadsAs l (Ok (Some line)) = (line.json_at ≤ length l) × (reads l ≡ command (command_in l line))
ReadsAs l (Err E.Line) = reads l ≡ outside
ReadsAs l (Err E.Memory) = reads l ≢ blank
