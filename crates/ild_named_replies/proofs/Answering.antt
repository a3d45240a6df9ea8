-- Each line is answered alike on a value under a root that names its schema, and on the struct that this root is.
use Rattle.std.proofs.Common.{◌≡◌, ℕ, ◌<◌, codes, List, [], ◌∷◌, length, Option, Some, None, Result, Ok, Err, refl, ap, sym, ◌∙◌, subst}
use Rattle.std.specs.Prelude.{IsUtf8, option_map}
use Rattle.std.specs.List.{AllByRecursion}
use Rattle.std.specs.Result.{result_ok}
use Rattle.std.proofs.lemmas.Option.{same_Some}
use Rattle.ild_data.specs.Data.{Data}
use Rattle.ild_json.specs.Law.{MeansTree}
use Rattle.ild_json.specs.Reading.{json_read}
use Rattle.ild_json.specs.declared.error.JsonErr.{JsonErr}
use Rattle.ild_schema.specs.declared.number.TypeNo.{TypeNo}
use Rattle.ild_schema.specs.declared.row.Row.{Row}
use Rattle.ild_schema.specs.Slots.{plainly}
use Rattle.ild_schema.specs.Table.{IsTable}
use Rattle.ild_schema.specs.Value.{Value}
use Rattle.ild_script.specs.Laws.{IsOfTexts}
use Rattle.ild_script.specs.Line.{Reading, Command, blank, command, outside, reads, shape_of}
use Rattle.ild_script.specs.declared.reply.No.{No}
use Rattle.ild_script.specs.declared.word.Word.{Word}
use Rattle.ild_script.specs.declared.word.Word.TheVariants as W
use Rattle.ild_script.proofs.Texts.{commands_of_texts}
use Rattle.ild_typed.proofs.Judging.{tree_sound}
use Rattle.ild_path_edits.specs.Edit.{Edit, HasTextPath, del_at, ins_at, set_at}
use Rattle.ild_path_edits.specs.EditLaws.{ReadsTree}
use Rattle.ild_path_edits.specs.Judged.{Tests}
use Rattle.ild_script_session.specs.Session.{Due, State}
use Rattle.ild_script_meaning.specs.Ask.{Ask, Tell, asked, asked_by, count, list_of_parts, presence, representation, shown_form, to_edit, to_tell}
use Rattle.ild_script_meaning.specs.Lines.{Setting, abort_due, begin_due, changed, commit_due, due, edit_next, edit_reply, line_due, read_json, root_due}
use Rattle.ild_script_meaning.specs.LinesLaws.{BringsTree}
use Rattle.ild_named_lines.specs.Beneath.{line_beneath, reading_beneath, steps_beneath}
use Rattle.ild_named_lines.proofs.Readings.{lines_read_beneath}
use Rattle.ild_named_law.specs.Law.{rooted}
use Rattle.ild_named_replies.specs.Edits.{edit_beneath, rooted_or}
use Rattle.ild_named_replies.specs.Lines.{AreAnsweredAlike, LinesAreAnsweredAlike, rooted_state}
use Rattle.ild_named_replies.specs.Replies.{on_struct, under_name}
use Rattle.ild_named_replies.proofs.Editing.{edits_alike}
use Rattle.ild_named_replies.proofs.Telling.{reads_alike, roots_told}

ok_of : (r : Result Data JsonErr) (d : Data) → result_ok r ≡ Some d → r ≡ Ok d
ok_of (Ok c) d e = ap Ok (same_Some c d e)
ok_of (Err fault) d e = absurd cc

pub json_tree : (json : List ℕ) → MeansTree json → ReadsTree read_json (set_at [] json)
json_tree json tree = λ d e. tree d (ok_of (json_read json) d e)

-- ---- what a line that was read asks for is of texts, and brings a tree

abbrev IsFair : Ask → Type 0
IsFair (to_edit e) = HasTextPath e × ReadsTree read_json e
IsFair a = Unit {0}

fair_word : (verb : Word) (path : List (List ℕ)) (json : List ℕ) → AllByRecursion IsUtf8 path → MeansTree json → IsFair (asked_by verb path json)
fair_word W.Set path json texts tree = (texts, json_tree json tree)
fair_word W.Ins path json texts tree = (texts, json_tree json tree)
fair_word W.Del path json texts tree = (texts, tt)
fair_word verb path json texts tree = tt

fair_reading : (r : Reading) → ((c : Command) → r ≡ command c → IsOfTexts c) → BringsTree r → IsFair (asked r)
fair_reading blank texts tree = tt
fair_reading outside texts tree = tt
fair_reading (command c) texts tree = fair_word c.verb c.path c.json (texts c refl).path tree

pub fair_line : (line : List ℕ) (e : Edit (List ℕ)) → BringsTree (reads line) → asked (reads line) ≡ to_edit e → HasTextPath e × ReadsTree read_json e
fair_line line e tree is = subst IsFair is (fair_reading (reads line) (λ c e. commands_of_texts line c e) tree)

module _ (h : List ℕ → List ℕ) (rows : List Row) (n : TypeNo) (table : IsTable rows) (low : n.0 < length rows) (tests others : Tests) (name source : List ℕ) where
  abbrev struct : Setting
  struct = on_struct h rows others n

  abbrev own : Setting
  own = under_name h rows tests n name source

  abbrev over : State Value → State Value
  over s = rooted_state name source s

  abbrev Alike : Due Value → Due Value → Type 0
  Alike d e = AreAnsweredAlike name source d e

  told : (tell : Tell) (path : List (List ℕ)) (s : State Value) → Alike (due struct (to_tell tell (codes "value" ∷ path)) (over s)) (due own (to_tell tell path) s)
  told tell path s = record { reply = ap Some (reads_alike h rows n table low tests others name source tell path s.value); next = refl }

  -- ---- edits

  replies_same : (r : Result Value No) (begun : Option Value) → edit_reply struct (rooted_or name source r) (option_map (rooted name source) begun) ≡ edit_reply own r begun
  replies_same (Err refusal) begun = refl
  replies_same (Ok c) None = roots_told h rows n table low tests others name source c
  replies_same (Ok c) (Some b) = refl

  next_same : (s : State Value) (r : Result Value No) → edit_next (over s) (rooted_or name source r) ≡ over (edit_next s r)
  next_same s (Err refusal) = refl
  next_same s (Ok c) = refl

  -- an edit is judged alike
  abbrev pub IsEditedAlike : State Value → Edit (List ℕ) → Type 0
  IsEditedAlike s e = changed struct (rooted name source s.value) (edit_beneath e) ≡ rooted_or name source (changed own s.value e)

  -- and so is what is asked for, where it is an edit
  abbrev pub IsAskedAlike : State Value → Ask → Type 0
  IsAskedAlike s a = (e : Edit (List ℕ)) → a ≡ to_edit e → IsEditedAlike s e

  edit_told : (e : Edit (List ℕ)) (s : State Value) → IsEditedAlike s e → Alike (due struct (to_edit (edit_beneath e)) (over s)) (due own (to_edit e) s)
  edit_told e s same = record {
    reply = ap (λ r. Some (edit_reply struct r (option_map (rooted name source) s.begun))) same ∙ ap Some (replies_same (changed own s.value e) s.begun);
    next = ap (λ r. edit_next (over s) r) same ∙ next_same s (changed own s.value e);
  }

  -- ---- the session

  root_told : (s : State Value) (o : Option Value) → Alike (root_due struct (over s) (option_map (rooted name source) o)) (root_due own s o)
  root_told s None = record { reply = ap Some (roots_told h rows n table low tests others name source s.value); next = refl }
  root_told s (Some v) = record { reply = refl; next = refl }

  begin_told : (s : State Value) (o : Option Value) → Alike (begin_due (over s) (option_map (rooted name source) o)) (begin_due s o)
  begin_told s None = record { reply = refl; next = refl }
  begin_told s (Some v) = record { reply = refl; next = refl }

  commit_told : (s : State Value) (o : Option Value) → Alike (commit_due struct (over s) (option_map (rooted name source) o)) (commit_due own s o)
  commit_told s None = record { reply = refl; next = refl }
  commit_told s (Some v) = record { reply = ap Some (roots_told h rows n table low tests others name source s.value); next = refl }

  abort_told : (s : State Value) (o : Option Value) → Alike (abort_due (over s) (option_map (rooted name source) o)) (abort_due s o)
  abort_told s None = record { reply = refl; next = refl }
  abort_told s (Some v) = record { reply = refl; next = refl }

  -- ---- lines

  word_told : (verb : Word) (path : List (List ℕ)) (json : List ℕ) (s : State Value) → IsAskedAlike s (asked_by verb path json)
      → Alike (due struct (asked_by verb (steps_beneath (shape_of verb) path) json) (over s)) (due own (asked_by verb path json) s)
  word_told W.Get path json s same = told shown_form path s
  word_told W.Rep path json s same = told representation path s
  word_told W.Has path json s same = told presence path s
  word_told W.Len path json s same = told count path s
  word_told W.Walk path json s same = told list_of_parts path s
  word_told W.Set path json s same = edit_told (set_at path json) s (same (set_at path json) refl)
  word_told W.Ins path json s same = edit_told (ins_at path json) s (same (ins_at path json) refl)
  word_told W.Del path json s same = edit_told (del_at path) s (same (del_at path) refl)
  word_told W.Root path json s same = root_told s s.begun
  word_told W.Begin path json s same = begin_told s s.begun
  word_told W.Commit path json s same = commit_told s s.begun
  word_told W.Abort path json s same = abort_told s s.begun

  reading_told : (r : Reading) (s : State Value) → IsAskedAlike s (asked r) → Alike (due struct (asked (reading_beneath r)) (over s)) (due own (asked r) s)
  reading_told blank s same = record { reply = refl; next = refl }
  reading_told outside s same = record { reply = refl; next = refl }
  reading_told (command c) s same = word_told c.verb c.path c.json s same

  pub line_told : (line : List ℕ) (s : State Value) → IsAskedAlike s (asked (reads line)) → Alike (line_due struct (over s) (line_beneath line)) (line_due own s line)
  line_told line s same = subst (λ (r : Reading). Alike (due struct (asked r) (over s)) (line_due own s line)) (sym (lines_read_beneath line)) (reading_told (reads line) s same)

pub lines_alike : LinesAreAnsweredAlike
lines_alike h rows n schema low tests others both name source naming line s tree held =
    line_told h rows n schema.table low tests others name source line s
    (λ e is. let fair = fair_line line e tree is in
    edits_alike h rows n schema low tests others both name source naming read_json s.value e fair.0 fair.1
    (95, held.1.fits, (tree_sound h rows (plainly n) s.value held.0 held.1.tree).0))
