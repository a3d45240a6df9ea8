-- Each line makes states that a store can hold of such states.
use Rattle.std.proofs.Common.{◌≡◌, ℕ, List, Option, Some, None, Ok, Err, Result, refl, ap}
use Rattle.std.specs.Prelude.{IfSome, IsUtf8}
use Rattle.std.specs.List.{AllByRecursion}
use Rattle.std.specs.Result.{result_ok}
use Rattle.std.proofs.lemmas.Option.{same_Some}
use Rattle.ild_data.specs.Data.{Data}
use Rattle.ild_json.specs.Law.{MeansTree}
use Rattle.ild_json.specs.Reading.{json_read}
use Rattle.ild_json.specs.declared.error.JsonErr.{JsonErr}
use Rattle.ild_schema.specs.Slots.{plainly}
use Rattle.ild_schema.specs.Value.{Value}
use Rattle.ild_script.specs.Laws.{IsOfTexts}
use Rattle.ild_script.specs.Line.{Reading, Command, blank, command, outside, reads}
use Rattle.ild_script.specs.declared.reply.No.{No}
use Rattle.ild_script.specs.declared.word.Word.{Word}
use Rattle.ild_script.specs.declared.word.Word.TheVariants as W
use Rattle.ild_script.proofs.Texts.{commands_of_texts}
use Rattle.ild_typed.specs.Schema.{IsSchema}
use Rattle.ild_typed.specs.Typed.{Typed}
use Rattle.ild_typed.proofs.Judging.{tree_sound}
use Rattle.ild_path_edits.specs.Edit.{Edit, HasTextPath}
use Rattle.ild_path_edits.specs.EditLaws.{ReadsTree}
use Rattle.ild_path_edits.specs.Judged.{AreTests}
use Rattle.ild_path_edits.proofs.Judges.{edited_are_storable}
use Rattle.ild_script_session.specs.Session.{State}
use Rattle.ild_script_meaning.specs.Ask.{Ask, asked, asked_by, nothing, to_tell, to_edit, to_tell_root, to_begin, to_commit, to_abort, unknown}
use Rattle.ild_script_meaning.specs.Lines.{Setting, due, read_json, edit_due, changed, root_due, begin_due, commit_due, abort_due}
use Rattle.ild_script_meaning.specs.LinesLaws.{CanBeHeld, StateCanBeHeld, BringsTree, LinesKeepHeld}

-- what an edit brings is read as a tree, and its path is of texts
abbrev IsFair : Ask → Type 0
IsFair (to_edit e) = HasTextPath e × ReadsTree read_json e
IsFair a = Unit {0}

ok_of : (r : Result Data JsonErr) (d : Data) → result_ok r ≡ Some d → r ≡ Ok d
ok_of (Ok c) d e = ap Ok (same_Some c d e)
ok_of (Err fault) d e = absurd cc

fair_by : (verb : Word) (path : List (List ℕ)) (json : List ℕ) → AllByRecursion IsUtf8 path → MeansTree json → IsFair (asked_by verb path json)
fair_by W.Set path json texts tree = (texts, λ d e. tree d (ok_of (json_read json) d e))
fair_by W.Ins path json texts tree = (texts, λ d e. tree d (ok_of (json_read json) d e))
fair_by W.Del path json texts tree = (texts, tt)
fair_by verb path json texts tree = tt

-- a line that was read asks for something fair
fair_line : (line : Reading) → ((c : Command) → line ≡ command c → IsOfTexts c) → BringsTree line → IsFair (asked line)
fair_line blank texts tree = tt
fair_line outside texts tree = tt
fair_line (command c) texts tree = fair_by c.verb c.path c.json (texts c refl).path tree

module _ (w : Setting) (schema : IsSchema w.rows) (tests : AreTests w.rows w.tests) where
  held_typed : (v : Value) → CanBeHeld w v → Typed w.rows (plainly w.ty) v
  held_typed v held = (w.frame.room, held.1.fits, (tree_sound w.hash w.rows (plainly w.ty) v held.0 held.1.tree).0)

  edit_held : (e : Edit (List ℕ)) (s : State Value) → IsFair (to_edit e) → StateCanBeHeld w s → (r : Result Value No) → changed w s.value e ≡ r → StateCanBeHeld w (edit_due w s e r).next
  edit_held e s fair held (Ok c) is =
      (edited_are_storable w.frame w.hash w.rows w.tests schema tests read_json w.ty s.value e c fair.0 fair.1 (held_typed s.value held.0) is, held.1)
  edit_held e s fair held (Err refusal) is = held

  root_held : (s : State Value) (o : Option Value) → StateCanBeHeld w s → StateCanBeHeld w (root_due w s o).next
  root_held s None held = held
  root_held s (Some v) held = held

  begin_held : (s : State Value) (o : Option Value) → StateCanBeHeld w s → StateCanBeHeld w (begin_due s o).next
  begin_held s None held = (held.0, held.0)
  begin_held s (Some v) held = held

  commit_held : (s : State Value) (o : Option Value) → StateCanBeHeld w s → StateCanBeHeld w (commit_due w s o).next
  commit_held s None held = held
  commit_held s (Some v) held = (held.0, tt)

  abort_held : (s : State Value) (o : Option Value) → s.begun ≡ o → IfSome o (CanBeHeld w) → StateCanBeHeld w s → StateCanBeHeld w (abort_due s o).next
  abort_held s None is begun held = held
  abort_held s (Some v) is begun held = (begun, tt)

  due_held : (a : Ask) (s : State Value) → IsFair a → StateCanBeHeld w s → StateCanBeHeld w (due w a s).next
  due_held nothing s fair held = held
  due_held (to_tell t path) s fair held = held
  due_held (to_edit e) s fair held = edit_held e s fair held (changed w s.value e) refl
  due_held to_tell_root s fair held = root_held s s.begun held
  due_held to_begin s fair held = begin_held s s.begun held
  due_held to_commit s fair held = commit_held s s.begun held
  due_held to_abort s fair held = abort_held s s.begun refl held.1 held
  due_held unknown s fair held = held

pub lines_keep_held : LinesKeepHeld
lines_keep_held w schema tests line s tree held = due_held w schema tests (asked (reads line)) s (fair_line (reads line) (λ c e. commands_of_texts line c e) tree) held
