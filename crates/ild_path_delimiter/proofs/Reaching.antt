-- An edit that can be done, of a part in text form: the holder to which it comes, and what it makes of each before it.
use Rattle.std.proofs.Common.{◌≡◌, ℕ, List, [], ◌∷◌, Bool, Option, Some, None, refl, sym, ◌∙◌, ap, true}
use Rattle.std.specs.List.{AllByRecursion}
use Rattle.std.specs.Prelude.{IsUtf8, Ok, option_and_then}
use Rattle.std.proofs.lemmas.Option.{none-some, same_Some}
use Rattle.ild_data.proofs.Options.{chain_some}
use Rattle.ild_path_delimiter.specs.TextEdits.{CanEdit, TextIs, edit_of, in_last}
use Rattle.ild_path_delimiter.specs.declared.delimiter.TextEdit.{TextEdit}
use Rattle.ild_path_delimiter.specs.declared.delimiter.TextEdit.TheVariants as E
use Rattle.ild_path_edit.proofs.Stepping.{last_from}
use Rattle.ild_path_edits.proofs.KeepTyped.{edits_keep_types}
use Rattle.ild_path_edits.proofs.Paths.{kept_typed, may_stand, placed_typed}
use Rattle.ild_path_edits.specs.Edit.{change, del_at, del_in, ins_at, ins_in, placed, set_at, set_in, unless_kept}
use Rattle.ild_path_edits.specs.Table.{delete_part, insert_part, key_fits, refusal_to_delete, slot_to_insert, slot_to_set}
use Rattle.ild_path_holder.specs.Along.{holder_at, is_holder, last_of}
use Rattle.ild_schema.specs.Value.{Value}
use Rattle.ild_schema.specs.declared.row.Row.{Row}
use Rattle.ild_typed.specs.At.{InSlot, changed_in, last_holder, seen}
use Rattle.ild_typed.specs.Holder.{Holder, any_elements, any_entries, elements, entries, fields, member, nothing}
use Rattle.ild_typed.specs.OfType.{OfType, TestsKeys}
use Rattle.ild_typed.specs.Schema.{IsSchema}
use Rattle.ild_typed.specs.Segment.{part, set_part}

-- the edit makes this of a value, at a path of it
abbrev pub Makes : List Row → (ℕ → List ℕ → Bool) → TextEdit → Value → InSlot → List (List ℕ) → Value → Type 0
Makes rows is_key edit w p path c = change rows is_key p (edit_of edit w path) ≡ Ok c

seen_last : (rows : List Row) (p : InSlot) (s : List ℕ) (ss : List (List ℕ)) (l : Holder × List ℕ) → last_holder rows p s ss ≡ Some l → (q : InSlot) × (holder_at rows p s ss ≡ Some q) × ((seen rows q, last_of s ss) ≡ l)
seen_last rows p s [] l h = (p, refl, same_Some (seen rows p, s) l h)
seen_last rows p s (t ∷ ss) l h =
    let x = chain_some (λ r. last_holder rows r t ss) (part (seen rows p) s) l h in
    let y = seen_last rows x.0 t ss l x.2 in
    (y.0, ap (option_and_then (λ r. holder_at rows r t ss)) x.1 ∙ y.1, y.2)

-- one that can be changed is a holder
holds_by : (h : Holder) → ((v : Value) → h ≡ nothing v → ⊥) → is_holder h ≡ true
holds_by (fields fs os) some = refl
holds_by (member ms n v) some = refl
holds_by (entries k u paired ps) some = refl
holds_by (elements u vs) some = refl
holds_by (any_entries ms) some = refl
holds_by (any_elements ds) some = refl
holds_by (nothing v) some = absurd (some v refl)

module _ (rows : List Row) (is_key : ℕ → List ℕ → Bool) (p : InSlot) (s : List ℕ) (ss : List (List ℕ)) (w c : Value) where
  -- the last holder
  abbrev pub Reached : Type 0
  Reached = (q : InSlot) × (holder_at rows p s ss ≡ Some q) × (is_holder (seen rows q) ≡ true)

  set_reached : (d : Value) (o : Option (Holder × List ℕ)) → last_holder rows p s ss ≡ o → set_in is_key d o ≡ Ok c → Reached
  set_reached d None e m = absurd cc
  set_reached d (Some l) e m =
      let y = seen_last rows p s ss l e in
      placed_typed (λ v. Reached) (key_fits is_key l.0 l.1) d (slot_to_set l.0 l.1) c m
      (λ slot free fits. (y.0, y.1, holds_by (seen rows y.0) (λ v z. none-some slot (sym (ap (λ h. slot_to_set h (last_of s ss)) z) ∙ ap (λ (l : Holder × List ℕ). slot_to_set l.0 l.1) y.2 ∙ free))))

  insert_reached : (d : Value) (o : Option (Holder × List ℕ)) → last_holder rows p s ss ≡ o → ins_in is_key d o ≡ Ok c → Reached
  insert_reached d None e m = absurd cc
  insert_reached d (Some l) e m =
      let y = seen_last rows p s ss l e in
      placed_typed (λ v. Reached) (key_fits is_key l.0 l.1) d (slot_to_insert l.0 l.1) c m
      (λ slot free fits. (y.0, y.1, holds_by (seen rows y.0) (λ v z. none-some slot (sym (ap (λ h. slot_to_insert h (last_of s ss)) z) ∙ ap (λ (l : Holder × List ℕ). slot_to_insert l.0 l.1) y.2 ∙ free))))

  delete_reached : (d : Value) (o : Option (Holder × List ℕ)) → last_holder rows p s ss ≡ o → del_in d o ≡ Ok c → Reached
  delete_reached d None e m = absurd cc
  delete_reached d (Some l) e m =
      let y = seen_last rows p s ss l e in
      kept_typed (λ v. Reached) d (refusal_to_delete l.0 l.1) c m
      (λ free. (y.0, y.1, holds_by (seen rows y.0) (λ v z. none-some _ (sym (ap (λ (l : Holder × List ℕ). refusal_to_delete l.0 l.1) y.2 ∙ free) ∙ ap (λ h. refusal_to_delete h (last_of s ss)) z))))

  pub reached : (edit : TextEdit) → Makes rows is_key edit w p (s ∷ ss) c → Reached
  reached (E.Set t) makes = set_reached (changed_in rows (λ h t. set_part h t w) p s ss) (last_holder rows p s ss) refl makes
  reached (E.Insert t) makes = insert_reached (changed_in rows (λ h t. insert_part h t w) p s ss) (last_holder rows p s ss) refl makes
  reached E.Delete makes = delete_reached (changed_in rows delete_part p s ss) (last_holder rows p s ss) refl makes

  -- the same edit of each holder on the way, at the rest of the path
  set_again : (d b : Value) (o : Option (Holder × List ℕ)) → set_in is_key d o ≡ Ok c → set_in is_key b o ≡ Ok b
  set_again d b None m = absurd cc
  set_again d b (Some l) m =
      placed_typed (λ v. placed (key_fits is_key l.0 l.1) b (slot_to_set l.0 l.1) ≡ Ok b) (key_fits is_key l.0 l.1) d (slot_to_set l.0 l.1) c m (λ slot free fits. λ i. placed (fits i) b (free i))

  insert_again : (d b : Value) (o : Option (Holder × List ℕ)) → ins_in is_key d o ≡ Ok c → ins_in is_key b o ≡ Ok b
  insert_again d b None m = absurd cc
  insert_again d b (Some l) m =
      placed_typed (λ v. placed (key_fits is_key l.0 l.1) b (slot_to_insert l.0 l.1) ≡ Ok b) (key_fits is_key l.0 l.1) d (slot_to_insert l.0 l.1) c m (λ slot free fits. λ i. placed (fits i) b (free i))

  delete_again : (d b : Value) (o : Option (Holder × List ℕ)) → del_in d o ≡ Ok c → del_in b o ≡ Ok b
  delete_again d b None m = absurd cc
  delete_again d b (Some l) m = kept_typed (λ v. unless_kept b (refusal_to_delete l.0 l.1) ≡ Ok b) d (refusal_to_delete l.0 l.1) c m (λ free. ap (unless_kept b) free)

  pub makes_rest : (edit : TextEdit) → Makes rows is_key edit w p (s ∷ ss) c → (h : InSlot) (t : List ℕ) (ts : List (List ℕ)) → last_holder rows h t ts ≡ last_holder rows p s ss
      → Makes rows is_key edit w h (t ∷ ts) (changed_in rows (in_last edit w) h t ts)
  makes_rest (E.Set x) makes h t ts same =
      let b = changed_in rows (λ h t. set_part h t w) h t ts in
      ap (set_in is_key b) same ∙ set_again (changed_in rows (λ h t. set_part h t w) p s ss) b (last_holder rows p s ss) makes
  makes_rest (E.Insert x) makes h t ts same =
      let b = changed_in rows (λ h t. insert_part h t w) h t ts in
      ap (ins_in is_key b) same ∙ insert_again (changed_in rows (λ h t. insert_part h t w) p s ss) b (last_holder rows p s ss) makes
  makes_rest E.Delete makes h t ts same = let b = changed_in rows delete_part h t ts in ap (del_in b) same ∙ delete_again (changed_in rows delete_part p s ss) b (last_holder rows p s ss) makes

-- the text that an edit brings is brought to the part at the first segment
pub text_from : (rows : List Row) (p q : InSlot) (s t : List ℕ) (ss : List (List ℕ)) (edit : TextEdit) (w : Value) → part (seen rows p) s ≡ Some q → TextIs rows p (s ∷ t ∷ ss) edit w → TextIs rows q (t ∷ ss) edit w
text_from rows p q s t ss (E.Set x) w e b = λ slot new. b slot (ap (option_and_then (λ (l : Holder × List ℕ). slot_to_set l.0 l.1)) (last_from rows p q s t ss e) ∙ new)
text_from rows p q s t ss (E.Insert x) w e b = λ slot new. b slot (ap (option_and_then (λ (l : Holder × List ℕ). slot_to_insert l.0 l.1)) (last_from rows p q s t ss e) ∙ new)
text_from rows p q s t ss E.Delete w e b = tt

pub can_edit : (rows : List Row) (is_key : ℕ → List ℕ → Bool) (edit : TextEdit) (p : InSlot) (s : List ℕ) (w v : Value) → IsUtf8 s → TextIs rows p (s ∷ []) edit w → Makes rows is_key edit w p (s ∷ []) v → CanEdit rows is_key edit (seen rows p) s w
can_edit rows is_key (E.Set t) p s w v utf8 b makes =
    placed_typed (λ v. CanEdit rows is_key (E.Set t) (seen rows p) s w) (key_fits is_key (seen rows p) s) (changed_in rows (λ h t. set_part h t w) p s []) (slot_to_set (seen rows p) s) v makes
    (λ slot free fits. let x = b slot free in (slot, free, may_stand is_key (seen rows p) s utf8 fits, x.0, x.1))
can_edit rows is_key (E.Insert t) p s w v utf8 b makes =
    placed_typed (λ v. CanEdit rows is_key (E.Insert t) (seen rows p) s w) (key_fits is_key (seen rows p) s) (changed_in rows (λ h t. insert_part h t w) p s []) (slot_to_insert (seen rows p) s) v makes
    (λ slot free fits. let x = b slot free in (slot, free, may_stand is_key (seen rows p) s utf8 fits, x.0, x.1))
can_edit rows is_key E.Delete p s w v utf8 b makes =
    kept_typed (λ v. CanEdit rows is_key E.Delete (seen rows p) s w) (changed_in rows delete_part p s []) (refusal_to_delete (seen rows p) s) v makes (λ free. free)

-- what it makes is of the type
pub made_typed : (rows : List Row) (is_key : ℕ → List ℕ → Bool) (schema : IsSchema rows) (keys : TestsKeys rows is_key) (edit : TextEdit) (w : Value) (p : InSlot) (path : List (List ℕ)) (c : Value) → AllByRecursion IsUtf8 path → TextIs rows p path edit w → OfType rows p.0 p.1
    → Makes rows is_key edit w p path c → OfType rows p.0 c
made_typed rows is_key schema keys (E.Set t) w p path c texts brings is makes = edits_keep_types rows is_key schema keys p (set_at path w) c texts (λ slot new. (brings slot new).0) is makes
made_typed rows is_key schema keys (E.Insert t) w p path c texts brings is makes = edits_keep_types rows is_key schema keys p (ins_at path w) c texts (λ slot new. (brings slot new).0) is makes
made_typed rows is_key schema keys E.Delete w p path c texts brings is makes = edits_keep_types rows is_key schema keys p (del_at path) c texts tt is makes
