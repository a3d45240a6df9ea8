-- How many blocks a line puts: those of the struct, and of a commit that of the schema's text.
use Rattle.std.proofs.Common.{◌≡◌, ℕ, ◌+◌, ◌<◌, List, [], ◌∷◌, ◌++◌, length, Bool, true, false, cond, ◌||◌, Option, Some, None, refl, ap, sym, ◌∙◌, subst, inl, inr, arith}
use Rattle.std.specs.Prelude.{option_map}
use Rattle.std.specs.List.{list_any}
use Rattle.std.specs.Cmp.Lexicographic.{same_text as texts_same}
use Rattle.std.proofs.lemmas.List.Folds.{list_any-append}
use Rattle.ild_data.specs.Key.{same_text}
use Rattle.ild_schema.specs.declared.number.TypeNo.{TypeNo}
use Rattle.ild_schema.specs.declared.row.Row.{Row}
use Rattle.ild_schema.specs.Table.{IsTable}
use Rattle.ild_schema.specs.Value.{Value}
use Rattle.ild_script.specs.Line.{Reading, blank, command, outside, reads, shape_of}
use Rattle.ild_script.specs.declared.word.Word.{Word}
use Rattle.ild_script.specs.declared.word.Word.TheVariants as W
use Rattle.ild_typed.proofs.Index.{own_text}
use Rattle.ild_path_edits.specs.Edit.{Edit, del_at, ins_at, set_at}
use Rattle.ild_path_edits.specs.Judged.{Tests}
use Rattle.ild_script_session.specs.Session.{State}
use Rattle.ild_script_meaning.specs.Ask.{asked, asked_by, to_edit}
use Rattle.ild_script_meaning.specs.Costs.{different}
use Rattle.ild_script_meaning.specs.Lines.{Setting, abort_due, begin_due, changed, commit_due, due, line_due, root_due, value_blocks}
use Rattle.ild_named.specs.Named.{AreNaming, schema_block}
use Rattle.ild_named_lines.specs.Beneath.{line_beneath, reading_beneath, steps_beneath}
use Rattle.ild_named_lines.proofs.Readings.{lines_read_beneath}
use Rattle.ild_named_law.specs.Law.{rooted}
use Rattle.ild_named_replies.specs.Edits.{AreTestsOfBoth, edit_beneath, rooted_or}
use Rattle.ild_named_replies.specs.Lines.{rooted_state}
use Rattle.ild_named_replies.specs.Replies.{on_struct, under_name}
use Rattle.ild_named_replies.proofs.Owing.{edit_puts_same}
use Rattle.ild_named_scripts.specs.Adds.{AreWith, LinesPutOneMore, PutsOneMore}
use Rattle.ild_named_scripts.specs.Tests.{struct_tests}
use Rattle.ild_named_scripts.proofs.Adding.{value_with}
use Rattle.ild_named_scripts.proofs.Rooms.{both as tests_both, edited_alike}

-- ---- one block more in a list

or_parts_false : (a b : Bool) → (a || b) ≡ false → (a ≡ false) × (b ≡ false)
or_parts_false true b e = absurd cc
or_parts_false false b e = (refl, e)

other_text : (a b : List ℕ) → same_text b a ≡ false → same_text a b ≡ false
other_text a b differ = by (same_text a b) refl
  where
    by : (t : Bool) → same_text a b ≡ t → t ≡ false
    by true e = absurd (let same = texts_same a b (sym e) in let own : same_text b a ≡ true = ap (λ (x : List ℕ). same_text b x) same ∙ own_text b in cc)
    by false e = refl

-- whether a block stands behind it, with one more at the end
any_last : (a b : List ℕ) (bs : List (List ℕ)) → list_any (same_text a) (bs ++ b ∷ []) ≡ (list_any (same_text a) bs || (same_text a b || false))
any_last a b bs = list_any-append (same_text a) bs (b ∷ [])

or_none : (t : Bool) → (t || (false || false)) ≡ t
or_none true = refl
or_none false = refl

-- one that isn't there yet
new_one : (b : List ℕ) (bs : List (List ℕ)) → list_any (same_text b) bs ≡ false → length (different (bs ++ b ∷ [])) ≡ length (different bs) + 1
new_one b [] none = refl
new_one b (a ∷ bs) none =
    let parts = or_parts_false (same_text b a) (list_any (same_text b) bs) none in
    let same : list_any (same_text a) (bs ++ b ∷ []) ≡ list_any (same_text a) bs = any_last a b bs ∙ ap (λ t. list_any (same_text a) bs || (t || false)) (other_text a b parts.0) ∙ or_none (list_any (same_text a) bs) in
    ap (λ t. length (cond t (different (bs ++ b ∷ [])) (a ∷ different (bs ++ b ∷ [])))) same ∙ by (list_any (same_text a) bs) (new_one b bs parts.1)
  where
    by : (t : Bool) → length (different (bs ++ b ∷ [])) ≡ length (different bs) + 1
        → length (cond t (different (bs ++ b ∷ [])) (a ∷ different (bs ++ b ∷ []))) ≡ length (cond t (different bs) (a ∷ different bs)) + 1
    by true more = more
    by false more = omega (arith, more)

one_more : (b : List ℕ) (bs : List (List ℕ)) → PutsOneMore (length (different bs)) (length (different (bs ++ b ∷ [])))
one_more b [] = record { least = omega arith; most = omega arith }
one_more b (a ∷ bs) =
    subst (λ (t : Bool). PutsOneMore (length (different (a ∷ bs))) (length (cond t (different (bs ++ b ∷ [])) (a ∷ different (bs ++ b ∷ []))))) (sym (any_last a b bs))
    (by (list_any (same_text a) bs) refl (same_text a b) refl (one_more b bs))
  where
    by : (t : Bool) → list_any (same_text a) bs ≡ t → (o : Bool) → same_text a b ≡ o → PutsOneMore (length (different bs)) (length (different (bs ++ b ∷ [])))
        → PutsOneMore (length (cond t (different bs) (a ∷ different bs))) (length (cond (t || (o || false)) (different (bs ++ b ∷ [])) (a ∷ different (bs ++ b ∷ []))))
    by true there o is more = more
    by false there false is more = let least = more.least in let most = more.most in record { least = omega (arith, least); most = omega (arith, most) }
    by false there true is more =
        let same = texts_same a b (sym is) in
        let next = new_one b bs (subst (λ (x : List ℕ). list_any (same_text x) bs ≡ false) same there) in
        record { least = omega (arith, next); most = omega (arith, next) }

with_one : (b : List ℕ) (bs cs : List (List ℕ)) → AreWith b bs cs → PutsOneMore (length (different bs)) (length (different cs))
with_one b bs cs (inl same) = subst (λ (xs : List (List ℕ)). PutsOneMore (length (different bs)) (length (different xs))) (sym same) (record { least = omega arith; most = omega arith })
with_one b bs cs (inr same) = subst (λ (xs : List (List ℕ)). PutsOneMore (length (different bs)) (length (different xs))) (sym same) (one_more b bs)

none_more : (k : ℕ) → PutsOneMore k k
none_more k = record { least = omega arith; most = omega arith }

-- ---- lines

module _ (h : List ℕ → List ℕ) (rows : List Row) (n : TypeNo) (table : IsTable rows) (low : n.0 < length rows) (tests others : Tests) (both : AreTestsOfBoth rows n tests others) (name source : List ℕ) (naming : AreNaming name source) where
  abbrev struct : Setting
  struct = on_struct h rows others n

  abbrev own : Setting
  own = under_name h rows tests n name source

  abbrev over : State Value → State Value
  over s = rooted_state name source s

  abbrev Edited : State Value → Edit (List ℕ) → Type 0
  Edited s e = changed struct (rooted name source s.value) (edit_beneath e) ≡ rooted_or name source (changed own s.value e)

  edit_more : (e : Edit (List ℕ)) (s : State Value) → Edited s e → PutsOneMore (due struct (to_edit (edit_beneath e)) (over s)).puts (due own (to_edit e) s).puts
  edit_more e s same =
      subst (λ (k : ℕ). PutsOneMore k (due own (to_edit e) s).puts) (sym (edit_puts_same h rows n table low tests others both name source e s same)) (none_more (due own (to_edit e) s).puts)

  root_more : (s : State Value) (o : Option Value) → PutsOneMore (root_due struct (over s) (option_map (rooted name source) o)).puts (root_due own s o).puts
  root_more s None = none_more 0
  root_more s (Some v) = none_more 0

  begin_more : (s : State Value) (o : Option Value) → PutsOneMore (begin_due (over s) (option_map (rooted name source) o)).puts (begin_due s o).puts
  begin_more s None = none_more 0
  begin_more s (Some v) = none_more 0

  commit_more : (s : State Value) (o : Option Value) → PutsOneMore (commit_due struct (over s) (option_map (rooted name source) o)).puts (commit_due own s o).puts
  commit_more s None = none_more 0
  commit_more s (Some v) =
      with_one (schema_block source) (value_blocks struct (rooted name source s.value)) (value_blocks own s.value) (value_with h rows n table low tests others both name source naming s.value)

  abort_more : (s : State Value) (o : Option Value) → PutsOneMore (abort_due (over s) (option_map (rooted name source) o)).puts (abort_due s o).puts
  abort_more s None = none_more 0
  abort_more s (Some v) = none_more 0

  word_more : (verb : Word) (path : List (List ℕ)) (json : List ℕ) (s : State Value) → ((e : Edit (List ℕ)) → Edited s e)
      → PutsOneMore (due struct (asked_by verb (steps_beneath (shape_of verb) path) json) (over s)).puts (due own (asked_by verb path json) s).puts
  word_more W.Get path json s same = none_more 0
  word_more W.Rep path json s same = none_more 0
  word_more W.Has path json s same = none_more 0
  word_more W.Len path json s same = none_more 0
  word_more W.Walk path json s same = none_more 0
  word_more W.Set path json s same = edit_more (set_at path json) s (same (set_at path json))
  word_more W.Ins path json s same = edit_more (ins_at path json) s (same (ins_at path json))
  word_more W.Del path json s same = edit_more (del_at path) s (same (del_at path))
  word_more W.Root path json s same = root_more s s.begun
  word_more W.Begin path json s same = begin_more s s.begun
  word_more W.Commit path json s same = commit_more s s.begun
  word_more W.Abort path json s same = abort_more s s.begun

  reading_more : (r : Reading) (s : State Value) → ((e : Edit (List ℕ)) → Edited s e) → PutsOneMore (due struct (asked (reading_beneath r)) (over s)).puts (due own (asked r) s).puts
  reading_more blank s same = none_more 0
  reading_more outside s same = none_more 0
  reading_more (command c) s same = word_more c.verb c.path c.json s same

  line_more : (line : List ℕ) (s : State Value) → ((e : Edit (List ℕ)) → Edited s e) → PutsOneMore (line_due struct (over s) (line_beneath line)).puts (line_due own s line).puts
  line_more line s same = subst (λ (r : Reading). PutsOneMore (due struct (asked r) (over s)).puts (line_due own s line).puts) (sym (lines_read_beneath line)) (reading_more (reads line) s same)

pub puts_one_more : LinesPutOneMore
puts_one_more h rows n table low tests are name source naming line s =
    line_more h rows n table low tests (struct_tests rows n tests) (tests_both h rows n table low tests are name source naming) name source naming line s
    (λ e. edited_alike h rows n table low tests are name source naming s e)
