-- What a line of a script asks for, by its word.
use Rattle.std.specs.Prelude.{ℕ, List}
use Rattle.ild_script.specs.Line.{Reading, blank, command, outside}
use Rattle.ild_script.specs.declared.word.Word.{Word}
use Rattle.ild_script.specs.declared.word.Word.TheVariants as W
use Rattle.ild_path_edits.specs.Edit.{Edit, set_at, ins_at, del_at}

-- what is told of the part to which a path leads
pub data Tell : Type 0 where
  shown_form : Tell
  representation : Tell
  presence : Tell
  count : Tell
  list_of_parts : Tell

-- something of a part, an edit, or something of the session
pub data Ask : Type 0 where
  nothing : Ask
  to_tell : Tell → List (List ℕ) → Ask
  to_edit : Edit (List ℕ) → Ask
  to_tell_root : Ask
  to_begin : Ask
  to_commit : Ask
  to_abort : Ask
  unknown : Ask

abbrev pub asked_by : Word → List (List ℕ) → List ℕ → Ask
asked_by W.Get path json = to_tell shown_form path
asked_by W.Rep path json = to_tell representation path
asked_by W.Has path json = to_tell presence path
asked_by W.Len path json = to_tell count path
asked_by W.Walk path json = to_tell list_of_parts path
asked_by W.Set path json = to_edit (set_at path json)
asked_by W.Ins path json = to_edit (ins_at path json)
asked_by W.Del path json = to_edit (del_at path)
asked_by W.Root path json = to_tell_root
asked_by W.Begin path json = to_begin
asked_by W.Commit path json = to_commit
asked_by W.Abort path json = to_abort

abbrev pub asked : Reading → Ask
asked blank = nothing
asked (command c) = asked_by c.verb c.path c.json
asked outside = unknown
