-- For how many puts a line leaves a batch owing, and how many it makes.
use Rattle.std.proofs.Common.{◌≡◌, ℕ, ◌<◌, List, length, Option, Some, None, Result, Ok, Err, refl, ap, ap₂, sym, ◌∙◌, subst}
use Rattle.std.specs.Prelude.{IsUtf8, option_map}
use Rattle.std.specs.List.{AllByRecursion}
use Rattle.ild_json.specs.Law.{MeansTree}
use Rattle.ild_schema.specs.declared.number.TypeNo.{TypeNo}
use Rattle.ild_schema.specs.declared.row.Row.{Row}
use Rattle.ild_schema.specs.Slots.{plainly}
use Rattle.ild_schema.specs.Table.{IsTable}
use Rattle.ild_schema.specs.Value.{Value}
use Rattle.ild_script.specs.Laws.{IsOfTexts}
use Rattle.ild_script.specs.Line.{Reading, Command, blank, command, outside, reads, shape_of}
use Rattle.ild_script.specs.declared.reply.No.{No}
use Rattle.ild_script.specs.declared.word.Word.{Word}
use Rattle.ild_script.specs.declared.word.Word.TheVariants as W
use Rattle.ild_script.proofs.Texts.{commands_of_texts}
use Rattle.ild_typed.specs.Schema.{IsSchema}
use Rattle.ild_typed.specs.Typed.{Typed}
use Rattle.ild_typed.proofs.Judging.{tree_sound}
use Rattle.ild_path_edits.specs.Edit.{Edit, HasTextPath, del_at, ins_at, set_at}
use Rattle.ild_path_edits.specs.EditLaws.{ReadsTree}
use Rattle.ild_path_edits.specs.Judged.{Tests}
use Rattle.ild_script_session.specs.Session.{State}
use Rattle.ild_script_meaning.specs.Ask.{asked, asked_by, to_begin, to_abort, to_commit, to_edit, to_tell_root}
use Rattle.ild_script_meaning.specs.Costs.{judged_puts}
use Rattle.ild_script_meaning.specs.Lines.{Setting, abort_due, all_met, begin_due, changed, commit_due, due, edit_owes, edit_puts, line_due, new_nodes, read_json, root_due}
use Rattle.ild_script_meaning.specs.LinesLaws.{BringsTree}
use Rattle.ild_named.specs.Named.{AreNaming}
use Rattle.ild_named_lines.specs.Beneath.{reading_beneath, steps_beneath}
use Rattle.ild_named_lines.proofs.Readings.{lines_read_beneath}
use Rattle.ild_named_law.specs.Law.{rooted}
use Rattle.ild_named_replies.specs.Costs.{LinesPutAlike, PutAlike}
use Rattle.ild_named_replies.specs.Edits.{AreTestsOfBoth, edit_beneath, rooted_or}
use Rattle.ild_named_replies.specs.Lines.{rooted_state}
use Rattle.ild_named_replies.specs.Replies.{on_struct, under_name}
use Rattle.ild_named_replies.proofs.Answering.{json_tree}
use Rattle.ild_named_replies.proofs.Costing.{all_same, new_nodes_same}
use Rattle.ild_named_replies.proofs.Editing.{edits_alike}

module _ (h : List ℕ → List ℕ) (rows : List Row) (n : TypeNo) (table : IsTable rows) (low : n.0 < length rows) (tests others : Tests) (both : AreTestsOfBoth rows n tests others) (name source : List ℕ) where
  abbrev struct : Setting
  struct = on_struct h rows others n

  abbrev own : Setting
  own = under_name h rows tests n name source

  abbrev over : State Value → State Value
  over s = rooted_state name source s

  owed_same : (all new : ℕ) (r : Result Value No) → judged_puts all new (rooted_or name source r) ≡ judged_puts all new r
  owed_same all new (Ok c) = refl
  owed_same all new (Err refusal) = refl

  abbrev Edited : Value → Edit (List ℕ) → Type 0
  Edited v e = changed struct (rooted name source v) (edit_beneath e) ≡ rooted_or name source (changed own v e)

  pub owes_same : (e : Edit (List ℕ)) (v : Value) → Edited v e → edit_owes struct (rooted name source v) (edit_beneath e) (changed struct (rooted name source v) (edit_beneath e)) ≡ edit_owes own v e (changed own v e)
  owes_same e v same =
      ap (λ r. edit_owes struct (rooted name source v) (edit_beneath e) r) same
      ∙ ap₂ (λ all new. judged_puts all new (rooted_or name source (changed own v e))) (all_same h rows n table low tests others both name source v e)
      (new_nodes_same h rows n table low tests others both name source v e)
      ∙ owed_same (all_met own v e) (new_nodes own v e) (changed own v e)

  puts_same : (owes : ℕ) (begun : Option Value) → edit_puts owes (option_map (rooted name source) begun) ≡ edit_puts owes begun
  puts_same owes None = refl
  puts_same owes (Some b) = refl

  pub edit_puts_same : (e : Edit (List ℕ)) (s : State Value) → Edited s.value e → (due struct (to_edit (edit_beneath e)) (over s)).puts ≡ (due own (to_edit e) s).puts
  edit_puts_same e s same = ap (λ k. edit_puts k (option_map (rooted name source) s.begun)) (owes_same e s.value same) ∙ puts_same (edit_owes own s.value e (changed own s.value e)) s.begun

module _ (h : List ℕ → List ℕ) (rows : List Row) (n : TypeNo) (schema : IsSchema rows) (low : n.0 < length rows) (tests others : Tests) (both : AreTestsOfBoth rows n tests others) (name source : List ℕ) (naming : AreNaming name source) where
  abbrev on : Setting
  on = on_struct h rows others n

  abbrev under : Setting
  under = under_name h rows tests n name source

  abbrev above : State Value → State Value
  above s = rooted_state name source s

  edit_put : (e : Edit (List ℕ)) (s : State Value) → HasTextPath e → ReadsTree read_json e → Typed rows (plainly n) s.value → PutAlike (to_edit e) (due on (to_edit (edit_beneath e)) (above s)) (due under (to_edit e) s)
  edit_put e s texts trees typed =
      let same = edits_alike h rows n schema low tests others both name source naming read_json s.value e texts trees typed in
      record {
        owes = owes_same h rows n schema.table low tests others both name source e s.value same;
        puts = λ other. edit_puts_same h rows n schema.table low tests others both name source e s same;
      }

  root_put : (s : State Value) (o : Option Value) → PutAlike to_tell_root (root_due on (above s) (option_map (rooted name source) o)) (root_due under s o)
  root_put s None = record { owes = refl; puts = λ other. refl }
  root_put s (Some v) = record { owes = refl; puts = λ other. refl }

  begin_put : (s : State Value) (o : Option Value) → PutAlike to_begin (begin_due (above s) (option_map (rooted name source) o)) (begin_due s o)
  begin_put s None = record { owes = refl; puts = λ other. refl }
  begin_put s (Some v) = record { owes = refl; puts = λ other. refl }

  commit_put : (s : State Value) (o : Option Value) → PutAlike to_commit (commit_due on (above s) (option_map (rooted name source) o)) (commit_due under s o)
  commit_put s None = record { owes = refl; puts = λ other. refl }
  commit_put s (Some v) = record { owes = refl; puts = λ other. absurd (other refl) }

  abort_put : (s : State Value) (o : Option Value) → PutAlike to_abort (abort_due (above s) (option_map (rooted name source) o)) (abort_due s o)
  abort_put s None = record { owes = refl; puts = λ other. refl }
  abort_put s (Some v) = record { owes = refl; puts = λ other. refl }

  word_put : (verb : Word) (path : List (List ℕ)) (json : List ℕ) (s : State Value) → AllByRecursion IsUtf8 path → MeansTree json → Typed rows (plainly n) s.value
      → PutAlike (asked_by verb path json) (due on (asked_by verb (steps_beneath (shape_of verb) path) json) (above s)) (due under (asked_by verb path json) s)
  word_put W.Get path json s texts tree typed = record { owes = refl; puts = λ other. refl }
  word_put W.Rep path json s texts tree typed = record { owes = refl; puts = λ other. refl }
  word_put W.Has path json s texts tree typed = record { owes = refl; puts = λ other. refl }
  word_put W.Len path json s texts tree typed = record { owes = refl; puts = λ other. refl }
  word_put W.Walk path json s texts tree typed = record { owes = refl; puts = λ other. refl }
  word_put W.Set path json s texts tree typed = edit_put (set_at path json) s texts (json_tree json tree) typed
  word_put W.Ins path json s texts tree typed = edit_put (ins_at path json) s texts (json_tree json tree) typed
  word_put W.Del path json s texts tree typed = edit_put (del_at path) s texts tt typed
  word_put W.Root path json s texts tree typed = root_put s s.begun
  word_put W.Begin path json s texts tree typed = begin_put s s.begun
  word_put W.Commit path json s texts tree typed = commit_put s s.begun
  word_put W.Abort path json s texts tree typed = abort_put s s.begun

  reading_put : (r : Reading) (s : State Value) → ((c : Command) → r ≡ command c → IsOfTexts c) → BringsTree r → Typed rows (plainly n) s.value
      → PutAlike (asked r) (due on (asked (reading_beneath r)) (above s)) (due under (asked r) s)
  reading_put blank s texts tree typed = record { owes = refl; puts = λ other. refl }
  reading_put outside s texts tree typed = record { owes = refl; puts = λ other. refl }
  reading_put (command c) s texts tree typed = word_put c.verb c.path c.json s (texts c refl).path tree typed

pub puts_alike : LinesPutAlike
puts_alike h rows n schema low tests others both name source naming line s tree held =
    subst (λ (r : Reading). PutAlike (asked (reads line)) (due (on_struct h rows others n) (asked r) (rooted_state name source s)) (line_due (under_name h rows tests n name source) s line)) (sym (lines_read_beneath line))
    (reading_put h rows n schema low tests others both name source naming (reads line) s (λ c e. commands_of_texts line c e) tree
    (95, held.1.fits, (tree_sound h rows (plainly n) s.value held.0 held.1.tree).0))
