-- What an edit of a plain map changes, and how it is judged.
use Rattle.std.specs.Prelude.{ℕ, ℤ, List, [], ◌∷◌, Option, Some, None, Result, Ok, Err, is_some, if◌then◌else◌}
use Rattle.ild_data.specs.Key.{put, value_at, without}
use Rattle.ild_script.specs.declared.reply.No.{No}
use Rattle.ild_script.specs.declared.reply.No.TheVariants as N
use Rattle.ild_script_meaning.specs.PlainValue.{Value, is_storable}
use Rattle.ild_data.specs.Data.{Data, integer}
use Rattle.ild_json.specs.Reading.{json_read}
use Rattle.ild_json.specs.declared.error.JsonErr.{JsonErr}

-- an edit: a json text set at a path, or a path deleted
pub data Edit : Type 0 where
  set_at : List (List ℕ) → List ℕ → Edit
  del_at : List (List ℕ) → Edit

-- the integer that data is
abbrev pub integer_in : Data → Option ℤ
integer_in (integer n) = Some n
integer_in d = None

-- an integer is put at the key; other data isn't of the type
abbrev pub put_integer : List ℕ → Value → Option ℤ → Result Value No
put_integer k v None = Err N.Mismatch
put_integer k v (Some n) = Ok (put k n v)

-- what the json text means is put at the key, where it can be read
abbrev pub put_read : List ℕ → Value → Result Data JsonErr → Result Value No
put_read k v (Ok d) = put_integer k v (integer_in d)
put_read k v (Err e) = Err N.Json

-- the one segment of a path
abbrev pub only_segment : List (List ℕ) → Option (List ℕ)
only_segment [] = None
only_segment (k ∷ []) = Some k
only_segment (k ∷ l ∷ path) = None

abbrev pub set_read : Option (List ℕ) → List ℕ → Value → Result Value No
set_read None json v = Err N.Path
set_read (Some k) json v = put_read k v (json_read json)

abbrev pub delete : Option (List ℕ) → Value → Result Value No
delete None v = Err N.Path
delete (Some k) v = if is_some (value_at k v) then Ok (without k v) else Err N.Path

-- the changed value, or the first of path, json and mismatch: a plain map has places one segment deep
abbrev pub change : Edit → Value → Result Value No
change (set_at path json) v = set_read (only_segment path) json v
change (del_at path) v = delete (only_segment path) v

-- the changed value where it can be stored
abbrev pub judged : Result Value No → Result Value No
judged (Ok c) = if is_storable c then Ok c else Err N.Size
judged (Err refusal) = Err refusal
