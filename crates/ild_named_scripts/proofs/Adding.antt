-- The blocks that a line may add: those that it may add to the struct, and that of the schema's text.
use Rattle.std.proofs.Common.{◌≡◌, ℕ, ◌<◌, List, [], ◌∷◌, ◌++◌, length, append-nil, Bool, cond, nat_le, Option, Some, None, Result, Ok, Err, refl, ap, sym, ◌∙◌, subst, inl, inr}
use Rattle.std.specs.Prelude.{option_map}
use Rattle.std.specs.Option.{option_map_or}
use Rattle.std.specs.Result.{result_ok}
use Rattle.std.proofs.lemmas.List.Elements.{filter-append}
use Rattle.std.proofs.lemmas.Bool.{le-leb}
use Rattle.ild_data.specs.Data.{Data}
use Rattle.ild_data.specs.Limits.{longest_block}
use Rattle.ild_data.specs.Spell.{id_of, spell}
use Rattle.ild_schema.specs.declared.number.TypeNo.{TypeNo}
use Rattle.ild_schema.specs.declared.row.Row.{Row}
use Rattle.ild_schema.specs.Slots.{plainly}
use Rattle.ild_schema.specs.Table.{IsTable}
use Rattle.ild_schema.specs.Value.{Value}
use Rattle.ild_script.specs.Line.{Reading, blank, command, outside, reads, shape_of}
use Rattle.ild_script.specs.declared.reply.No.{No}
use Rattle.ild_script.specs.declared.reply.No.TheVariants as N
use Rattle.ild_script.specs.declared.word.Word.{Word}
use Rattle.ild_script.specs.declared.word.Word.TheVariants as W
use Rattle.ild_typed.specs.Blocks.{nodes}
use Rattle.ild_typed.specs.Hamt.{whole}
use Rattle.ild_typed.specs.Represented.{represented}
use Rattle.ild_typed.specs.Stands.{bare, blocks_of}
use Rattle.ild_path_edits.specs.Edit.{Edit, del_at, ins_at, set_at}
use Rattle.ild_path_edits.specs.Judged.{Tests}
use Rattle.ild_script_session.specs.Session.{State}
use Rattle.ild_script_meaning.specs.Ask.{asked, asked_by, to_edit}
use Rattle.ild_script_meaning.specs.Lines.{Setting, abort_due, begin_due, changed, commit_due, due, edit_blocks, line_changed, line_due, part_of, read_json, root_due, short, value_blocks}
use Rattle.ild_named.specs.Named.{AreNaming, named, named_data, schema_block}
use Rattle.ild_named_lines.specs.Beneath.{line_beneath, reading_beneath, steps_beneath}
use Rattle.ild_named_lines.proofs.Readings.{lines_read_beneath}
use Rattle.ild_named_type.specs.Root.{named_rows, root_type}
use Rattle.ild_named_law.specs.Law.{rooted}
use Rattle.ild_named_law.proofs.Known.{alike_longer}
use Rattle.ild_named_law.proofs.Rooting.{root_nodes, root_tree}
use Rattle.ild_named_law.proofs.Standing.{nodes_same, or_same}
use Rattle.ild_named_replies.specs.Edits.{AreTestsOfBoth, edit_beneath, rooted_or}
use Rattle.ild_named_replies.specs.Lines.{rooted_state}
use Rattle.ild_named_replies.specs.Replies.{on_struct, under_name}
use Rattle.ild_named_replies.proofs.Costing.{brought_low, brought_same}
use Rattle.ild_named_replies.proofs.Editing.{line_changes}
use Rattle.ild_named_scripts.specs.Adds.{AreWith, LinesAddAlike}
use Rattle.ild_named_scripts.specs.Tests.{struct_tests}
use Rattle.ild_named_scripts.proofs.Rooms.{both as tests_both, edited_alike}

module _ (h : List ℕ → List ℕ) (rows : List Row) (n : TypeNo) (table : IsTable rows) (low : n.0 < length rows) (tests others : Tests) (both : AreTestsOfBoth rows n tests others) (name source : List ℕ) (naming : AreNaming name source) where
  abbrev struct : Setting
  struct = on_struct h rows others n

  abbrev own : Setting
  own = under_name h rows tests n name source

  abbrev over : State Value → State Value
  over s = rooted_state name source s

  abbrev longer : List Row
  longer = named_rows rows n

  abbrev text_block : List ℕ
  text_block = schema_block source

  abbrev With : List (List ℕ) → List (List ℕ) → Type 0
  With bs cs = AreWith text_block bs cs

  -- ---- of a value

  abbrev wrapped : Data → Data
  wrapped d = named_data name (id_of text_block) d

  data_with : (v : Value) (o : Option Data) → With (option_map_or (λ t. blocks_of bare h longer (root_type rows) (rooted name source v) t) (option_map wrapped o) []) (option_map_or (λ d. blocks_of (named name source) h rows n v d) o [])
  data_with v None = inl refl
  data_with v (Some d) =
      inr (ap (λ ns. spell (wrapped d) ∷ (ns ++ text_block ∷ []))
      (sym (append-nil (nodes h longer (plainly (root_type rows)) (rooted name source v)) ∙ root_nodes h rows n table low name source v)))

  pub value_with : (v : Value) → With (value_blocks struct (rooted name source v)) (value_blocks own v)
  value_with v =
      subst (λ (o : Option Data). With (option_map_or (λ t. blocks_of bare h longer (root_type rows) (rooted name source v) t) o []) (value_blocks own v)) (sym (root_tree h rows n table low name source v))
      (data_with v (represented (whole h) rows (plainly n) v))

  -- ---- of an edit

  abbrev is_short : List ℕ → Bool
  is_short b = nat_le (length b) longest_block

  short_with : (bs cs : List (List ℕ)) → With bs cs → With (short bs) (short cs)
  short_with bs cs (inl same) = inl (ap short same)
  short_with bs cs (inr same) =
      inr (ap short same ∙ filter-append is_short bs (text_block ∷ []) ∙ ap (λ (b : Bool). short bs ++ cond b (text_block ∷ []) []) (le-leb (length text_block) longest_block naming.short))

  lined_with : (r : Result Value No) → With (short (option_map_or (value_blocks struct) (result_ok (rooted_or name source r)) [])) (short (option_map_or (value_blocks own) (result_ok r) []))
  lined_with (Ok c) = short_with (value_blocks struct (rooted name source c)) (value_blocks own c) (value_with c)
  lined_with (Err refusal) = inl refl

  parts_same : (v : Value) (e : Edit (List ℕ)) → option_map_or (λ q. nodes h longer q.0 q.1) (part_of struct (rooted name source v) (edit_beneath e)) [] ≡ option_map_or (λ q. nodes h rows q.0 q.1) (part_of own v e) []
  parts_same v e =
      ap (λ o. option_map_or (λ q. nodes h longer q.0 q.1) o []) (brought_same h rows n table low tests others both name source v e)
      ∙ or_same (part_of own v e) (λ q. nodes h longer q.0 q.1) (λ q. nodes h rows q.0 q.1) []
      (λ q is. nodes_same (length rows) longer rows (alike_longer rows table n) h q.0 q.1 (brought_low h rows n table low tests others both name source v e q is))

  result_with : (v : Value) (e : Edit (List ℕ)) (r : Result Value No) → With (edit_blocks struct (rooted name source v) (edit_beneath e) (rooted_or name source r)) (edit_blocks own v e r)
  result_with v e (Ok c) = value_with c
  result_with v e (Err N.Size) =
      subst (λ (r : Result Value No). With (short (option_map_or (value_blocks struct) (result_ok r) [])) (edit_blocks own v e (Err N.Size)))
      (sym (line_changes rows n table low tests others both name source read_json v e)) (lined_with (line_changed own v e))
  result_with v e (Err N.Exhausted) = inl (sym (parts_same v e))
  result_with v e (Err refusal) = inl refl

  abbrev Edited : State Value → Edit (List ℕ) → Type 0
  Edited s e = changed struct (rooted name source s.value) (edit_beneath e) ≡ rooted_or name source (changed own s.value e)

  edit_with : (e : Edit (List ℕ)) (s : State Value) → Edited s e → With (due struct (to_edit (edit_beneath e)) (over s)).adds (due own (to_edit e) s).adds
  edit_with e s same =
      subst (λ (r : Result Value No). With (edit_blocks struct (rooted name source s.value) (edit_beneath e) r) (edit_blocks own s.value e (changed own s.value e)))
      (sym same) (result_with s.value e (changed own s.value e))

  -- ---- of the session

  root_with : (s : State Value) (o : Option Value) → With (root_due struct (over s) (option_map (rooted name source) o)).adds (root_due own s o).adds
  root_with s None = inl refl
  root_with s (Some v) = inl refl

  begin_with : (s : State Value) (o : Option Value) → With (begin_due (over s) (option_map (rooted name source) o)).adds (begin_due s o).adds
  begin_with s None = inl refl
  begin_with s (Some v) = inl refl

  commit_with : (s : State Value) (o : Option Value) → With (commit_due struct (over s) (option_map (rooted name source) o)).adds (commit_due own s o).adds
  commit_with s None = inl refl
  commit_with s (Some v) = value_with s.value

  abort_with : (s : State Value) (o : Option Value) → With (abort_due (over s) (option_map (rooted name source) o)).adds (abort_due s o).adds
  abort_with s None = inl refl
  abort_with s (Some v) = inl refl

  -- ---- of lines

  word_with : (verb : Word) (path : List (List ℕ)) (json : List ℕ) (s : State Value) → ((e : Edit (List ℕ)) → Edited s e)
      → With (due struct (asked_by verb (steps_beneath (shape_of verb) path) json) (over s)).adds (due own (asked_by verb path json) s).adds
  word_with W.Get path json s same = inl refl
  word_with W.Rep path json s same = inl refl
  word_with W.Has path json s same = inl refl
  word_with W.Len path json s same = inl refl
  word_with W.Walk path json s same = inl refl
  word_with W.Set path json s same = edit_with (set_at path json) s (same (set_at path json))
  word_with W.Ins path json s same = edit_with (ins_at path json) s (same (ins_at path json))
  word_with W.Del path json s same = edit_with (del_at path) s (same (del_at path))
  word_with W.Root path json s same = root_with s s.begun
  word_with W.Begin path json s same = begin_with s s.begun
  word_with W.Commit path json s same = commit_with s s.begun
  word_with W.Abort path json s same = abort_with s s.begun

  reading_with : (r : Reading) (s : State Value) → ((e : Edit (List ℕ)) → Edited s e) → With (due struct (asked (reading_beneath r)) (over s)).adds (due own (asked r) s).adds
  reading_with blank s same = inl refl
  reading_with outside s same = inl refl
  reading_with (command c) s same = word_with c.verb c.path c.json s same

  line_with : (line : List ℕ) (s : State Value) → ((e : Edit (List ℕ)) → Edited s e) → With (line_due struct (over s) (line_beneath line)).adds (line_due own s line).adds
  line_with line s same = subst (λ (r : Reading). With (due struct (asked r) (over s)).adds (line_due own s line).adds) (sym (lines_read_beneath line)) (reading_with (reads line) s same)

pub adds_alike : LinesAddAlike
adds_alike h rows n table low tests are name source naming line s =
    line_with h rows n table low tests (struct_tests rows n tests) (tests_both h rows n table low tests are name source naming) name source naming line s
    (λ e. edited_alike h rows n table low tests are name source naming s e)
