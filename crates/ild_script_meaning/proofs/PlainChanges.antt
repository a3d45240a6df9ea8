-- What the edits of a plain map make, as edits of a typed value.
use Rattle.std.proofs.Common.{◌≡◌, ℕ, ℤ, List, [], ◌∷◌, map, Bool, true, false, Option, Some, None, Ok, Err, Result, refl, sym, ◌∙◌, ap, subst, arith, ◌⊎◌, inl, inr}
use Rattle.std.specs.Prelude.{◌||◌, IsUtf8, is_some, option_map, option_and_then, if◌then◌else◌}
use Rattle.std.specs.List.{AllByRecursion}
use Rattle.std.specs.Result.{result_ok}
use Rattle.ild_schema.proofs.Parts.{pairs_list-pairs_of}
use Rattle.ild_data.specs.Data as T
use Rattle.ild_data.specs.Data.{Data}
use Rattle.ild_data.specs.Key.{put, value_at, without}
use Rattle.ild_json.specs.Reading.{json_read}
use Rattle.ild_json.specs.declared.error.JsonErr.{JsonErr}
use Rattle.ild_schema.specs.declared.number.Slot.{Slot}
use Rattle.ild_schema.specs.declared.row.Row.{Row}
use Rattle.ild_schema.specs.Prelude.{number}
use Rattle.ild_schema.specs.Slots.{plainly}
use Rattle.ild_schema.specs.Value as V
use Rattle.ild_schema.specs.Value.{pairs_of, pairs_list}
use Rattle.ild_script.specs.declared.reply.No.{No}
use Rattle.ild_script.specs.declared.reply.No.TheVariants as N
use Rattle.ild_typed.specs.At.{InSlot, last_holder, changed_in}
use Rattle.ild_typed.specs.Fits.{FitsPast}
use Rattle.ild_typed.specs.Holder.{Holder, nothing}
use Rattle.ild_typed.specs.OfType.{TestsKeys}
use Rattle.ild_value_meaning.specs.MeantRead.{meant}
use Rattle.ild_path_edits.specs.Edit.{set_at, del_at, new_slot, new_part, read_or, with_part, changed_by, line_change, del_in, unless_kept}
use Rattle.ild_path_edits.specs.Table.{slot_to_set, unless_there, delete_part}
use Rattle.ild_script_meaning.specs.PlainChange as P
use Rattle.ild_script_meaning.specs.PlainValue as PV
use Rattle.ild_script_meaning.specs.PlainMap.{plain_rows, int_entry, as_value, IsBelowRoot}
use Rattle.ild_script_meaning.proofs.PlainValues.{entry_there, entry_put, entry_gone}

-- a path that is not the root's, of texts
abbrev pub AreTextsBelow : List (List ℕ) → Type 0
AreTextsBelow [] = ⊥
AreTextsBelow (k ∷ path) = AllByRecursion IsUtf8 (k ∷ path)

pub texts_below : (path : List (List ℕ)) → IsBelowRoot path → AllByRecursion IsUtf8 path → AreTextsBelow path
texts_below [] below texts = below refl
texts_below (k ∷ path) below texts = texts

-- a changed plain map as a typed value
abbrev pub lifted : Result PV.Value No → Result V.Value No
lifted (Ok c) = Ok (as_value c)
lifted (Err refusal) = Err refusal

pub there : (k : List ℕ) (v : PV.Value) → value_at k (pairs_list (pairs_of (map int_entry v))) ≡ option_map V.integer (value_at k v)
there k v = ap (value_at k) (pairs_list-pairs_of (map int_entry v)) ∙ entry_there k v

module _ (name : List ℕ) (place key_at value_place : ℕ) (is_key : ℕ → List ℕ → Bool) (keys : TestsKeys (plain_rows name place key_at value_place) is_key) where
  abbrev R : List Row
  R = plain_rows name place key_at value_place

  abbrev int_slot : Slot
  int_slot = plainly (number 3)

  abbrev whole : PV.Value → InSlot
  whole v = (plainly (number 8), as_value v)

  -- below an integer there is nothing
  abbrev Below : Option (Holder × List ℕ) → Type 0
  Below o = (o ≡ None) ⊎ ((n : ℤ) × (l : List ℕ) × (o ≡ Some (nothing (V.integer n), l)))

  below_by : (l : List ℕ) (rest : List (List ℕ)) (o : Option ℤ) → Below (option_and_then (λ q. last_holder R q l rest) (option_map (λ v. (int_slot, v)) (option_map V.integer o)))
  below_by l rest None = inl refl
  below_by l [] (Some n) = inr (n, l, refl)
  below_by l (m ∷ rest) (Some n) = inl refl

  below : (k l : List ℕ) (rest : List (List ℕ)) (v : PV.Value) → Below (last_holder R (whole v) k (l ∷ rest))
  below k l rest v = subst (λ o. Below (option_and_then (λ q. last_holder R q l rest) (option_map (λ v. (int_slot, v)) o))) (sym (there k v)) (below_by l rest (value_at k v))

  no_slot : (o : Option (Holder × List ℕ)) → Below o → option_and_then (λ (l : Holder × List ℕ). slot_to_set l.0 l.1) o ≡ None
  no_slot o (inl e) = ap (λ p. option_and_then (λ (l : Holder × List ℕ). slot_to_set l.0 l.1) p) e
  no_slot o (inr (n, l, e)) = ap (λ p. option_and_then (λ (l : Holder × List ℕ). slot_to_set l.0 l.1) p) e

  no_delete : (c : V.Value) (o : Option (Holder × List ℕ)) → Below o → del_in c o ≡ Err N.Path
  no_delete c o (inl e) = ap (del_in c) e
  no_delete c o (inr (n, l, e)) = ap (del_in c) e

  key_is : (k : List ℕ) → IsUtf8 k → is_key 7 k ≡ true
  unfolding FitsPast
  key_is k utf8 = (keys (number 7) k).1 (utf8, (0, (V.text k, (omega arith, utf8), refl)))

  or_true : (a b : Bool) → b ≡ true → (a || b) ≡ true
  or_true true b e = refl
  or_true false b e = e

  put_by_key : (k : List ℕ) (n : ℤ) (v : PV.Value) (b : Bool) → b ≡ true
      → (if b then Ok (V.map (pairs_of (put k (V.integer n) (pairs_list (pairs_of (map int_entry v)))))) else Err N.Mismatch) ≡ lifted (Ok (put k n v))
  put_by_key k n v true e = ap (λ es. Ok (V.map (pairs_of (put k (V.integer n) es)))) (pairs_list-pairs_of (map int_entry v)) ∙ ap (λ es. Ok (V.map (pairs_of es))) (entry_put k n v)
  put_by_key k n v false e = absurd cc

  set_by : (k : List ℕ) → IsUtf8 k → (v : PV.Value) (r : Result Data JsonErr)
      → changed_by R is_key (whole v) (with_part (set_at (k ∷ [])) (read_or (meant R is_key int_slot) (result_ok r))) ≡ lifted (P.put_read k v r)
  set_by k utf8 v (Err e) = refl
  set_by k utf8 v (Ok (T.integer n)) =
      put_by_key k n v (is_some (value_at k (pairs_list (pairs_of (map int_entry v)))) || is_key 7 k) (or_true (is_some (value_at k (pairs_list (pairs_of (map int_entry v))))) (is_key 7 k) (key_is k utf8))
  set_by k utf8 v (Ok d) = refl

  set_deep : (k l : List ℕ) (rest : List (List ℕ)) (json : List ℕ) (v : PV.Value) (read : List ℕ → Option Data) (o : Option Slot) → o ≡ None
      → changed_by R is_key (whole v) (with_part (set_at (k ∷ l ∷ rest)) (new_part R is_key read o json)) ≡ Err N.Path
  set_deep k l rest json v read None e = refl
  set_deep k l rest json v read (Some s) e = absurd cc

  del_by : (k : List ℕ) (v : PV.Value) (o : Option ℤ)
      → unless_kept (V.map (pairs_of (without k (pairs_list (pairs_of (map int_entry v)))))) (unless_there (option_map V.integer o)) ≡ lifted (if is_some o then Ok (without k v) else Err N.Path)
  del_by k v None = refl
  del_by k v (Some n) = ap (λ es. Ok (V.map (pairs_of (without k es)))) (pairs_list-pairs_of (map int_entry v)) ∙ ap (λ es. Ok (V.map (pairs_of es))) (entry_gone k v)

  abbrev read_json : List ℕ → Option Data
  read_json json = result_ok (json_read json)

  -- what a plain map knows of edits
  pub set_is : (path : List (List ℕ)) (json : List ℕ) (v : PV.Value) → AreTextsBelow path → line_change R is_key read_json (whole v) (set_at path json) ≡ lifted (P.change (P.set_at path json) v)
  set_is [] json v below_root = absurd below_root
  set_is (k ∷ []) json v below_root = set_by k below_root.0 v (json_read json)
  set_is (k ∷ l ∷ rest) json v below_root =
      set_deep k l rest json v read_json (new_slot R (whole v) (set_at (k ∷ l ∷ rest) json)) (no_slot (last_holder R (whole v) k (l ∷ rest)) (below k l rest v))

  pub del_is : (path : List (List ℕ)) (v : PV.Value) → AreTextsBelow path → line_change R is_key read_json (whole v) (del_at path) ≡ lifted (P.change (P.del_at path) v)
  del_is [] v below_root = absurd below_root
  del_is (k ∷ []) v below_root =
      ap (λ o. unless_kept (V.map (pairs_of (without k (pairs_list (pairs_of (map int_entry v)))))) (unless_there o)) (there k v) ∙ del_by k v (value_at k v)
  del_is (k ∷ l ∷ rest) v below_root = no_delete (changed_in R delete_part (whole v) k (l ∷ rest)) (last_holder R (whole v) k (l ∷ rest)) (below k l rest v)
