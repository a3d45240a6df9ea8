-- The lines of a script on the values of a plain map from texts to integers.
use Rattle.std.specs.Prelude.{ℕ, ℤ, List, [], ◌∷◌, Option, Some, None, Result, Ok, Err}
use Rattle.ild_data.specs.Data.{integer}
use Rattle.ild_data.specs.Key.{value_at}
use Rattle.ild_json.specs.Printing.{json_text}
use Rattle.ild_script.specs.Line.{Reading, blank, command, outside, reads}
use Rattle.ild_script.specs.declared.word.Word.{Word}
use Rattle.ild_script.specs.declared.word.Word.TheVariants as W
use Rattle.ild_script.specs.declared.reply.No.{No}
use Rattle.ild_script.specs.declared.reply.No.TheVariants as N
use Rattle.ild_script.specs.declared.reply.Reply.{Reply}
use Rattle.ild_script.specs.declared.reply.Reply.TheVariants as R
use Rattle.ild_script_meaning.specs.PlainValue.{Value, root_of, blocks_of}
use Rattle.ild_script_meaning.specs.PlainChange.{Edit, set_at, del_at, only_segment, change, judged}
use Rattle.ild_script_session.specs.Session.{State, Due}

-- what a line asks for
pub data Ask : Type 0 where
  nothing : Ask
  to_get : List (List ℕ) → Ask
  to_edit : Edit → Ask
  to_tell_root : Ask
  unknown : Ask

-- the words that are not there yet are outside the grammar
abbrev pub asked_by : Word → List (List ℕ) → List ℕ → Ask
asked_by W.Get path json = to_get path
asked_by W.Set path json = to_edit (set_at path json)
asked_by W.Del path json = to_edit (del_at path)
asked_by W.Root path json = to_tell_root
asked_by verb path json = unknown

abbrev pub asked : Reading → Ask
asked blank = nothing
asked (command c) = asked_by c.verb c.path c.json
asked outside = unknown

-- the reply of a JSON text; there is none of what holds a map whose only key is `/`
abbrev pub printed_or : Option (List ℕ) → Reply
printed_or None = R.No N.Reserved
printed_or (Some text) = R.Ok text

-- the reply that shows an integer
abbrev pub shown : Option ℤ → Reply
shown None = R.No N.Path
shown (Some n) = printed_or (json_text (integer n))

abbrev pub got_at : Option (List ℕ) → Value → Reply
got_at None v = R.No N.Path
got_at (Some k) v = shown (value_at k v)

abbrev pub got : List (List ℕ) → Value → Reply
got path v = got_at (only_segment path) v

abbrev pub root_reply : Value → Reply
root_reply v = R.Root (record { 0 = root_of v })

-- a block of a plain map stands at one place, without children
abbrev pub no_children : List ℕ → List (List (List ℕ))
no_children b = [] ∷ []

-- a reply that leaves the value and the store
abbrev pub quiet : Option Reply → State Value → Due Value
quiet reply s = record { reply = reply; next = s; adds = []; children = no_children; gets = 0; puts = 0; owes = 0 }

-- an edit puts the one block of the changed value, where it can be stored
abbrev pub edited : Result Value No → State Value → Due Value
edited (Ok c) s = record { reply = Some (root_reply c); next = record s { value = c }; adds = blocks_of c; children = no_children; gets = 0; puts = 1; owes = 1 }
edited (Err refusal) s = quiet (Some (R.No refusal)) s

abbrev pub due : Ask → State Value → Due Value
due nothing s = quiet None s
due (to_get path) s = quiet (Some (got path s.value)) s
due (to_edit e) s = edited (judged (change e s.value)) s
due to_tell_root s = quiet (Some (root_reply s.value)) s
due unknown s = quiet (Some (R.No N.Line)) s

-- what a line is due; it doesn't matter what is held
abbrev pub line_due : State Value → List ℕ → Due Value
line_due s line = due (asked (reads line)) s
