-- The lines of a plain map mean as those of a typed value.
use Rattle.std.proofs.Common.{◌≡◌, ◌≢◌, ℕ, ℤ, List, [], ◌∷◌, Bool, true, false, Option, Some, None, Ok, Err, Result, refl, sym, ◌∙◌, ap, subst}
use Rattle.std.specs.Prelude.{IsUtf8, is_some, option_map, option_and_then, if◌then◌else◌}
use Rattle.std.specs.List.{AllByRecursion}
use Rattle.std.specs.Option.{option_map_or}
use Rattle.std.specs.Ordering.{match_ordering}
use Rattle.std.specs.Result.{result_ok}
use Rattle.std.specs.declared.cmp.Ordering.{Ordering}
use Rattle.std.specs.declared.cmp.Ordering.TheVariants.{Less, Equal, Greater}
use Rattle.ild_data.specs.Data as T
use Rattle.ild_data.specs.Data.{Data}
use Rattle.ild_data.specs.Integer.{IsInt}
use Rattle.ild_data.specs.Key.{key_cmp, same_text, put, value_at, without}
use Rattle.ild_data.specs.Tree.{IsTree}
use Rattle.ild_data.proofs.Rising.{rises_put, rises_without}
use Rattle.ild_json.specs.Law.{MeansTree}
use Rattle.ild_json.specs.Reading.{json_read}
use Rattle.ild_json.specs.declared.error.JsonErr.{JsonErr}
use Rattle.ild_schema.specs.declared.row.Row.{Row}
use Rattle.ild_schema.specs.Prelude.{number}
use Rattle.ild_schema.specs.Slots.{plainly}
use Rattle.ild_schema.specs.Value as V
use Rattle.ild_schema.specs.Value.{pairs_of, pairs_list}
use Rattle.ild_script.specs.Line.{Reading, Command, blank, command, outside, reads}
use Rattle.ild_script.specs.Laws.{IsOfTexts}
use Rattle.ild_script.specs.declared.word.Word.{Word}
use Rattle.ild_script.specs.declared.word.Word.TheVariants as W
use Rattle.ild_script.specs.declared.reply.No.{No}
use Rattle.ild_script.specs.declared.reply.No.TheVariants as N
use Rattle.ild_script.specs.declared.reply.Reply.TheVariants as R
use Rattle.ild_script.proofs.Texts.{commands_of_texts}
use Rattle.ild_typed.specs.At.{at as path_at}
use Rattle.ild_typed.specs.Stands.{bare, blocks_of, root_id}
use Rattle.ild_path_edits.specs.Edit.{Edit, set_at, del_at}
use Rattle.ild_path_edits.specs.Judged.{Tests, AreTests, judged_result, unless_judged}
use Rattle.ild_script_meaning.specs.PlainChange as PC
use Rattle.ild_script_meaning.specs.PlainLines as P
use Rattle.ild_script_meaning.specs.PlainValue as PV
use Rattle.ild_script_session.specs.Session.{idle}
use Rattle.ild_script_meaning.specs.Ask.{shown_form, asked, asked_by}
use Rattle.ild_script_meaning.specs.Lines.{Setting, due, edit_due, line_changed, changed, root_reply, value_blocks, short, read_reply, told, show}
use Rattle.ild_script_meaning.specs.PlainLaws.{SaysPlainMap}
use Rattle.ild_script_meaning.specs.PlainMap.{plain_rows, as_value, IsPlain, plain_setting, IsKnown, IsKnownBy, SameDue}
use Rattle.ild_script_meaning.proofs.Leaving.{comes_to_nothing}
use Rattle.ild_script_meaning.proofs.PlainValues.{data_is, one_block}
use Rattle.ild_script_meaning.proofs.PlainJudged.{plain_judged}
use Rattle.ild_script_meaning.proofs.PlainChanges.{AreTextsBelow, texts_below, lifted, there, set_is, del_is}

-- ---- what edits make is a plain map

abbrev Fine : List ℕ × ℤ → Type 0
Fine e = IsUtf8 e.0 × IsInt e.1

each_put : (k : List ℕ) (n : ℤ) (v : PV.Value) → Fine (k, n) → AllByRecursion Fine v → AllByRecursion Fine (put k n v)
each_put k n [] new all = (new, tt)
each_put k n (e ∷ v) new all = by (key_cmp k e.0) (each_put k n v new all.1)
  where
    by : (o : Ordering) → AllByRecursion Fine (put k n v) → AllByRecursion Fine (match_ordering o ((k, n) ∷ e ∷ v) ((k, n) ∷ v) (e ∷ put k n v))
    by Less h = (new, all)
    by Equal h = (new, all.1)
    by Greater h = (all.0, h)

each_without : (k : List ℕ) (v : PV.Value) → AllByRecursion Fine v → AllByRecursion Fine (without k v)
each_without k [] all = tt
each_without k (e ∷ v) all = by (same_text k e.0) (each_without k v all.1)
  where
    by : (b : Bool) → AllByRecursion Fine (without k v) → AllByRecursion Fine (if b then v else e ∷ without k v)
    by true h = all.1
    by false h = (all.0, h)

-- a plain map, or a refusal before an edit is found exhausted or too long
abbrev MakesPlain : Result PV.Value No → Type 0
MakesPlain (Ok c) = IsPlain c
MakesPlain (Err refusal) = (refusal ≢ N.Exhausted) × (refusal ≢ N.Size)

no_path : MakesPlain (Err N.Path)
no_path = (λ e. cc, λ e. cc)

no_json : MakesPlain (Err N.Json)
no_json = (λ e. cc, λ e. cc)

no_integer : MakesPlain (Err N.Mismatch)
no_integer = (λ e. cc, λ e. cc)

read_plain : (k : List ℕ) → IsUtf8 k → (v : PV.Value) → IsPlain v → (r : Result Data JsonErr) → ((d : Data) → r ≡ Ok d → IsTree d) → MakesPlain (PC.put_read k v r)
read_plain k utf8 v plain (Err e) tree = no_json
read_plain k utf8 v plain (Ok (T.integer n)) tree = record { rises = rises_put k n v plain.rises; each = each_put k n v (utf8, tree (T.integer n) refl) plain.each }
read_plain k utf8 v plain (Ok d) tree = no_integer

set_plain : (path : List (List ℕ)) (json : List ℕ) (v : PV.Value) → IsPlain v → AreTextsBelow path → MeansTree json → MakesPlain (PC.change (PC.set_at path json) v)
set_plain [] json v plain below tree = absurd below
set_plain (k ∷ []) json v plain below tree = read_plain k below.0 v plain (json_read json) tree
set_plain (k ∷ l ∷ rest) json v plain below tree = no_path

gone_plain : (k : List ℕ) (v : PV.Value) → IsPlain v → (b : Bool) → MakesPlain (if b then Ok (without k v) else Err N.Path)
gone_plain k v plain true = record { rises = rises_without k v plain.rises; each = each_without k v plain.each }
gone_plain k v plain false = no_path

del_plain : (path : List (List ℕ)) (v : PV.Value) → IsPlain v → MakesPlain (PC.change (PC.del_at path) v)
del_plain [] v plain = no_path
del_plain (k ∷ []) v plain = gone_plain k v plain (is_some (value_at k v))
del_plain (k ∷ l ∷ rest) v plain = no_path

-- ---- replies

module _ (name : List ℕ) (at key_at value_place : ℕ) (h : List ℕ → List ℕ) (t : Tests) (tests : AreTests (plain_rows name at key_at value_place) t) where
  abbrev Q : List Row
  Q = plain_rows name at key_at value_place

  abbrev w : Setting
  w = plain_setting h Q t

  root_is : (v : PV.Value) → root_reply w (as_value v) ≡ P.root_reply v
  root_is v = ap (λ o. R.Root (record { 0 = option_map_or (root_id bare) o [] })) (data_is name at key_at value_place h v)

  blocks_are : (v : PV.Value) → value_blocks w (as_value v) ≡ PV.blocks_of v
  blocks_are v =
      ap (λ o. option_map_or (λ d. blocks_of bare h Q (number 8) (as_value v) d) o []) (data_is name at key_at value_place h v) ∙ one_block name at key_at value_place h v

  -- the one block of a plain map is too long
  none_short : (c : PV.Value) → PV.is_storable c ≡ false → short (PV.blocks_of c) ≡ []
  none_short c long = rw long refl

  edit_by : (e : Edit (List ℕ)) (v c : PV.Value) (b : Bool) → PV.is_storable c ≡ b → line_changed w (as_value v) e ≡ Ok (as_value c)
      → SameDue (P.edited (if b then Ok c else Err N.Size) (idle v)) (edit_due w (idle (as_value v)) e (unless_judged (as_value c) (if b then None else Some N.Size)))
  edit_by e v c true sized is = record { reply = ap Some (root_is c); next = refl; adds = blocks_are c }
  edit_by e v c false sized is = record {
    reply = refl;
    next = refl;
    adds = ap (λ r. short (option_map_or (value_blocks w) (result_ok r) [])) is ∙ ap short (blocks_are c) ∙ none_short c sized;
  }

  edit_same : (e : Edit (List ℕ)) (v : PV.Value) (r : Result PV.Value No) → MakesPlain r → line_changed w (as_value v) e ≡ lifted r
      → SameDue (P.edited (PC.judged r) (idle v)) (edit_due w (idle (as_value v)) e (judged_result bare h Q t (number 8) (lifted r)))
  edit_same e v (Err refusal) plain is = record { reply = refl; next = refl; adds = (comes_to_nothing w (idle (as_value v)) e refusal plain.0 plain.1).0 }
  edit_same e v (Ok c) plain is =
      subst (λ o. SameDue (P.edited (PC.judged (Ok c)) (idle v)) (edit_due w (idle (as_value v)) e (unless_judged (as_value c) o)))
      (sym (plain_judged name at key_at value_place h t tests c plain)) (edit_by e v c (PV.is_storable c) refl is)

  edit_is : (e : Edit (List ℕ)) (v : PV.Value) (r : Result PV.Value No) → line_changed w (as_value v) e ≡ lifted r → MakesPlain r
      → SameDue (P.edited (PC.judged r) (idle v)) (edit_due w (idle (as_value v)) e (changed w (as_value v) e))
  edit_is e v r is plain =
      subst (λ x. SameDue (P.edited (PC.judged r) (idle v)) (edit_due w (idle (as_value v)) e (judged_result bare h Q t (number 8) x))) (sym is) (edit_same e v r plain is)

  got_by : (o : Option ℤ) → told (option_map (show w) (option_and_then (λ q. Some q) (option_map (λ x. (plainly (number 3), x)) (option_map V.integer o)))) ≡ P.shown o
  got_by None = refl
  got_by (Some n) = refl

  none_by : (l : List ℕ) (rest : List (List ℕ)) (o : Option ℤ)
      → told (option_map (show w) (option_and_then (λ q. path_at Q q (l ∷ rest)) (option_map (λ x. (plainly (number 3), x)) (option_map V.integer o)))) ≡ R.No N.Path
  none_by l rest None = refl
  none_by l rest (Some n) = refl

  got_is : (path : List (List ℕ)) (v : PV.Value) → AreTextsBelow path → read_reply w shown_form path (as_value v) ≡ P.got path v
  got_is [] v below = absurd below
  got_is (k ∷ []) v below =
      ap (λ o. told (option_map (show w) (option_and_then (λ q. Some q) (option_map (λ x. (plainly (number 3), x)) o)))) (there k v) ∙ got_by (value_at k v)
  got_is (k ∷ l ∷ rest) v below =
      ap (λ o. told (option_map (show w) (option_and_then (λ q. path_at Q q (l ∷ rest)) (option_map (λ x. (plainly (number 3), x)) o)))) (there k v) ∙ none_by l rest (value_at k v)

  by_word : (verb : Word) (path : List (List ℕ)) (json : List ℕ) (v : PV.Value) → IsPlain v → AllByRecursion IsUtf8 path → IsKnownBy verb path json
      → SameDue (P.due (P.asked_by verb path json) (idle v)) (due w (asked_by verb path json) (idle (as_value v)))
  by_word W.Get path json v plain texts known = record { reply = ap Some (got_is path v (texts_below path known texts)); next = refl; adds = refl }
  by_word W.Set path json v plain texts known =
      let below = texts_below path known.0 texts in
      edit_is (set_at path json) v (PC.change (PC.set_at path json) v) (set_is name at key_at value_place t.is_key tests.keys path json v below) (set_plain path json v plain below known.1)
  by_word W.Del path json v plain texts known =
      edit_is (del_at path) v (PC.change (PC.del_at path) v) (del_is name at key_at value_place t.is_key tests.keys path v (texts_below path known texts)) (del_plain path v plain)
  by_word W.Root path json v plain texts known = record { reply = ap Some (root_is v); next = refl; adds = refl }
  by_word verb path json v plain texts known = absurd known

  by_reading : (v : PV.Value) → IsPlain v → (line : Reading) → ((c : Command) → line ≡ command c → IsOfTexts c) → IsKnown line → SameDue (P.due (P.asked line) (idle v)) (due w (asked line) (idle (as_value v)))
  by_reading v plain blank texts known = record { reply = refl; next = refl; adds = refl }
  by_reading v plain outside texts known = record { reply = refl; next = refl; adds = refl }
  by_reading v plain (command c) texts known = by_word c.verb c.path c.json v plain (texts c refl).path known

pub says_plain_map : SaysPlainMap
says_plain_map name at key_at value_place hash tests are v plain line known =
    by_reading name at key_at value_place hash tests are v plain (reads line) (λ c e. commands_of_texts line c e) known
