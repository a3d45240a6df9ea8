-- The children of the blocks that a line may add: they are those on the struct, but for the schema's text.
use Rattle.std.proofs.Common.{◌≡◌, ◌≢◌, ℕ, ◌<◌, List, [], length, map, Bool, true, false, Option, Some, None, Result, Ok, Err, refl, ap, sym, ◌∙◌, subst}
use Rattle.std.specs.Prelude.{option_map}
use Rattle.std.specs.Option.{option_map_or}
use Rattle.std.specs.Result.{result_ok}
use Rattle.std.specs.Cmp.Lexicographic.{same_text as texts_same}
use Rattle.ild_data.specs.Data.{Data}
use Rattle.ild_data.specs.Key.{same_text}
use Rattle.ild_data.specs.Spell.{id_of, spell}
use Rattle.ild_schema.specs.declared.number.TypeNo.{TypeNo}
use Rattle.ild_schema.specs.declared.row.Row.{Row}
use Rattle.ild_schema.specs.Slots.{plainly}
use Rattle.ild_schema.specs.Table.{IsTable}
use Rattle.ild_schema.specs.Value.{Value}
use Rattle.ild_script.specs.Line.{Reading, blank, command, outside, reads, shape_of}
use Rattle.ild_script.specs.declared.reply.No.{No}
use Rattle.ild_script.specs.declared.reply.No.TheVariants as N
use Rattle.ild_script.specs.declared.word.Word.{Word}
use Rattle.ild_script.specs.declared.word.Word.TheVariants as W
use Rattle.ild_typed.specs.At.{InSlot}
use Rattle.ild_typed.specs.Hamt.{whole}
use Rattle.ild_typed.specs.Represented.{represented}
use Rattle.ild_typed.specs.Stands.{bare}
use Rattle.ild_typed_places.specs.Places.{Places, children_at, nowhere, place, places_in, value_places}
use Rattle.ild_path_edits.specs.Edit.{Edit, del_at, ins_at, set_at}
use Rattle.ild_path_edits.specs.Judged.{Tests}
use Rattle.ild_script_session.specs.Session.{State}
use Rattle.ild_script_meaning.specs.Ask.{asked, asked_by, to_edit}
use Rattle.ild_script_meaning.specs.Lines.{Setting, abort_due, begin_due, changed, commit_due, due, edit_children, line_changed, line_due, no_places, part_children, part_of, read_json, root_due, value_children}
use Rattle.ild_named.specs.Named.{named, named_data, schema_block}
use Rattle.ild_named_lines.specs.Beneath.{line_beneath, reading_beneath, steps_beneath}
use Rattle.ild_named_lines.proofs.Readings.{lines_read_beneath}
use Rattle.ild_named_type.specs.Root.{named_rows, root_type}
use Rattle.ild_named_law.specs.Law.{rooted}
use Rattle.ild_named_law.proofs.Known.{alike_longer}
use Rattle.ild_named_law.proofs.Rooting.{root_tree}
use Rattle.ild_named_replies.specs.Edits.{AreTestsOfBoth, edit_beneath, rooted_or}
use Rattle.ild_named_replies.specs.Lines.{rooted_state}
use Rattle.ild_named_replies.specs.Replies.{on_struct, under_name}
use Rattle.ild_named_replies.proofs.Costing.{brought_low, brought_same}
use Rattle.ild_named_replies.proofs.Editing.{line_changes}
use Rattle.ild_named_scripts.specs.Children.{LinesLeadAlike, but_for}
use Rattle.ild_named_scripts.specs.Tests.{struct_tests}
use Rattle.ild_named_scripts.proofs.Placing.{bare_places, children_kept, places_same, root_places}
use Rattle.ild_named_scripts.proofs.Rooms.{both as tests_both, edited_alike}

apart_texts : (a b : List ℕ) → a ≢ b → same_text a b ≡ false
apart_texts a b differ = by (same_text a b) refl
  where
    by : (t : Bool) → same_text a b ≡ t → t ≡ false
    by true e = absurd (differ (texts_same a b (sym e)))
    by false e = refl

module _ (h : List ℕ → List ℕ) (rows : List Row) (n : TypeNo) (table : IsTable rows) (low : n.0 < length rows) (tests others : Tests) (both : AreTestsOfBoth rows n tests others) (name source : List ℕ) (b : List ℕ) (apart : b ≢ schema_block source) where
  abbrev struct : Setting
  struct = on_struct h rows others n

  abbrev own : Setting
  own = under_name h rows tests n name source

  abbrev over : State Value → State Value
  over s = rooted_state name source s

  abbrev longer : List Row
  longer = named_rows rows n

  abbrev text_block : List ℕ
  text_block = schema_block source

  -- the ids of children, but for that of the schema's text
  abbrev left : List (List (List ℕ)) → List (List (List ℕ))
  left ids = map (but_for (id_of text_block)) ids

  abbrev Alike : (List ℕ → List (List (List ℕ))) → (List ℕ → List (List (List ℕ))) → Type 0
  Alike f g = left (g b) ≡ left (f b)

  -- ---- of a value

  abbrev wrapped : Data → Data
  wrapped d = named_data name (id_of text_block) d

  -- the struct's places are those of the value, with no text beside it
  struct_places : (v : Value) (d : Data) → value_places bare h longer (root_type rows) (rooted name source v) (wrapped d) ≡ place (spell (wrapped d)) (places_in h rows (plainly n) v) nowhere
  struct_places v d =
      bare_places (spell (wrapped d)) (places_in h longer (plainly (root_type rows)) (rooted name source v))
      ∙ ap (λ (ps : Places). place (spell (wrapped d)) ps nowhere) (root_places h rows n table low name source v)

  data_led : (v : Value) (o : Option Data) → left (option_map_or (λ d. children_at (value_places (named name source) h rows n v d) b) o [])
      ≡ left (option_map_or (λ t. children_at (value_places bare h longer (root_type rows) (rooted name source v) t) b) (option_map wrapped o) [])
  data_led v None = refl
  data_led v (Some d) =
      children_kept (spell (wrapped d)) text_block b (apart_texts b text_block apart) (places_in h rows (plainly n) v)
      ∙ ap (λ (ps : Places). left (children_at ps b)) (sym (struct_places v d))

  value_led : (v : Value) → Alike (value_children struct (rooted name source v)) (value_children own v)
  value_led v =
      data_led v (represented (whole h) rows (plainly n) v)
      ∙ ap (λ o. left (option_map_or (λ t. children_at (value_places bare h longer (root_type rows) (rooted name source v) t) b) o [])) (sym (root_tree h rows n table low name source v))

  -- ---- of an edit

  lined_led : (r : Result Value No) → Alike (option_map_or (value_children struct) (result_ok (rooted_or name source r)) no_places) (option_map_or (value_children own) (result_ok r) no_places)
  lined_led (Ok c) = value_led c
  lined_led (Err refusal) = refl

  part_led : (o : Option InSlot) → ((q : InSlot) → o ≡ Some q → (q.0).ty.0 < length rows) → Alike (option_map_or (part_children struct) o no_places) (option_map_or (part_children own) o no_places)
  part_led None lows = refl
  part_led (Some q) lows = ap (λ (ps : Places). left (children_at ps b)) (sym (places_same (length rows) longer rows (alike_longer rows table n) h q.0 q.1 (lows q refl)))

  parts_led : (v : Value) (e : Edit (List ℕ)) → Alike (option_map_or (part_children struct) (part_of struct (rooted name source v) (edit_beneath e)) no_places) (option_map_or (part_children own) (part_of own v e) no_places)
  parts_led v e =
      part_led (part_of own v e) (λ q is. brought_low h rows n table low tests others both name source v e q is)
      ∙ ap (λ (o : Option InSlot). left (option_map_or (part_children struct) o no_places b)) (sym (brought_same h rows n table low tests others both name source v e))

  result_led : (v : Value) (e : Edit (List ℕ)) (r : Result Value No) → Alike (edit_children struct (rooted name source v) (edit_beneath e) (rooted_or name source r)) (edit_children own v e r)
  result_led v e (Ok c) = value_led c
  result_led v e (Err N.Size) =
      lined_led (line_changed own v e)
      ∙ ap (λ (r : Result Value No). left (option_map_or (value_children struct) (result_ok r) no_places b)) (sym (line_changes rows n table low tests others both name source read_json v e))
  result_led v e (Err N.Exhausted) = parts_led v e
  result_led v e (Err refusal) = refl

  abbrev Edited : State Value → Edit (List ℕ) → Type 0
  Edited s e = changed struct (rooted name source s.value) (edit_beneath e) ≡ rooted_or name source (changed own s.value e)

  edit_led : (e : Edit (List ℕ)) (s : State Value) → Edited s e → Alike (due struct (to_edit (edit_beneath e)) (over s)).children (due own (to_edit e) s).children
  edit_led e s same =
      result_led s.value e (changed own s.value e) ∙ ap (λ (r : Result Value No). left (edit_children struct (rooted name source s.value) (edit_beneath e) r b)) (sym same)

  -- ---- of the session

  root_led : (s : State Value) (o : Option Value) → Alike (root_due struct (over s) (option_map (rooted name source) o)).children (root_due own s o).children
  root_led s None = refl
  root_led s (Some v) = refl

  begin_led : (s : State Value) (o : Option Value) → Alike (begin_due (over s) (option_map (rooted name source) o)).children (begin_due s o).children
  begin_led s None = refl
  begin_led s (Some v) = refl

  commit_led : (s : State Value) (o : Option Value) → Alike (commit_due struct (over s) (option_map (rooted name source) o)).children (commit_due own s o).children
  commit_led s None = refl
  commit_led s (Some v) = value_led s.value

  abort_led : (s : State Value) (o : Option Value) → Alike (abort_due (over s) (option_map (rooted name source) o)).children (abort_due s o).children
  abort_led s None = refl
  abort_led s (Some v) = refl

  -- ---- of lines

  word_led : (verb : Word) (path : List (List ℕ)) (json : List ℕ) (s : State Value) → ((e : Edit (List ℕ)) → Edited s e)
      → Alike (due struct (asked_by verb (steps_beneath (shape_of verb) path) json) (over s)).children (due own (asked_by verb path json) s).children
  word_led W.Get path json s same = refl
  word_led W.Rep path json s same = refl
  word_led W.Has path json s same = refl
  word_led W.Len path json s same = refl
  word_led W.Walk path json s same = refl
  word_led W.Set path json s same = edit_led (set_at path json) s (same (set_at path json))
  word_led W.Ins path json s same = edit_led (ins_at path json) s (same (ins_at path json))
  word_led W.Del path json s same = edit_led (del_at path) s (same (del_at path))
  word_led W.Root path json s same = root_led s s.begun
  word_led W.Begin path json s same = begin_led s s.begun
  word_led W.Commit path json s same = commit_led s s.begun
  word_led W.Abort path json s same = abort_led s s.begun

  reading_led : (r : Reading) (s : State Value) → ((e : Edit (List ℕ)) → Edited s e) → Alike (due struct (asked (reading_beneath r)) (over s)).children (due own (asked r) s).children
  reading_led blank s same = refl
  reading_led outside s same = refl
  reading_led (command c) s same = word_led c.verb c.path c.json s same

  line_led : (line : List ℕ) (s : State Value) → ((e : Edit (List ℕ)) → Edited s e) → Alike (line_due struct (over s) (line_beneath line)).children (line_due own s line).children
  line_led line s same =
      subst (λ (r : Reading). Alike (due struct (asked r) (over s)).children (line_due own s line).children) (sym (lines_read_beneath line)) (reading_led (reads line) s same)

pub leads_alike : LinesLeadAlike
leads_alike h rows n table low tests are name source naming line s b apart =
    line_led h rows n table low tests (struct_tests rows n tests) (tests_both h rows n table low tests are name source naming) name source b apart line s
    (λ e. edited_alike h rows n table low tests are name source naming s e)
