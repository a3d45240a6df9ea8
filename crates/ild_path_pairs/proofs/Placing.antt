-- The place of a pair in a text, and among the pairs of a holder's data.
use Rattle.std.proofs.Common.{◌≡◌, ◌+◌, ℕ, zero, suc, List, [], ◌∷◌, ◌++◌, Bool, true, false, cond, length, Option, Some, None, refl, sym, ◌∙◌, ap, subst, arith}
use Rattle.std.specs.Prelude.{is_some, option_and_then, option_map, Result}
use Rattle.std.specs.declared.alloc.AllocError.{AllocError}
use Rattle.std.proofs.lemmas.Option.{same_Some, none-some}
use Rattle.ild_data.proofs.Options.{map_some}
use Rattle.ild_data.specs.Data as T
use Rattle.ild_data.specs.Data.{Data}
use Rattle.ild_data.specs.Key.{same_text, value_at}
use Rattle.ild_path_changes.proofs.Datas.{each_pair, written_entries}
use Rattle.ild_path_changes.proofs.Each.{each_pair-at, joined}
use Rattle.ild_path_changes.proofs.Fields.{around, written-at}
use Rattle.ild_path_changes.proofs.Lifting.{place_same, written_is}
use Rattle.ild_path_changes.proofs.Others.{put_lasts}
use Rattle.ild_path_changes.proofs.Represented.{each_pair-some}
use Rattle.ild_path_changes.specs.Pairs.{pair_if}
use Rattle.ild_path_changes.specs.Places.{field_data, field_named, field_place, left_out, place_of, written, written_before}
use Rattle.ild_path_pairs.specs.Pairs.{Tells, TellsPair, entries_with}
use Rattle.ild_path_pairs.specs.inside.Seats.{count_behind, is_first, left_behind, passed}
use Rattle.ild_path_pairs.specs.declared.place.Seat.{Seat}
use Rattle.ild_schema.specs.Clear.{AreNamesApart}
use Rattle.ild_schema.specs.Marks.{field_text}
use Rattle.ild_schema.specs.declared.def.Field.{Field}
use Rattle.ild_splice_changes.proofs.Maps.{own_text}
use Rattle.ild_typed.specs.Fields.{field_entries}
use Rattle.ild_typed.specs.Segment.{set_field}
use Rattle.ild_typed.specs.Strings.{cons_both, stringpairs, text_in, text_pairs}

-- ---- by the keys alone

texts_each : (es : List (List ℕ × Data)) → text_pairs es ≡ each_pair text_in es
texts_each [] = refl
texts_each (e ∷ es) = ap (cons_both (option_map (λ s. (e.0, s)) (text_in e.1))) (texts_each es)

-- a pair and its text have one key
record IsText (e : List ℕ × Data) (es : List (List ℕ × Data)) (p : List ℕ × List ℕ) (ps : List (List ℕ × List ℕ)) : Type 0 where
  key : e.0 ≡ p.0
  first : option_map (λ s. (e.0, s)) (text_in e.1) ≡ Some p
  rest : text_pairs es ≡ Some ps

cons_same : {A : Type 0} (x y : A) (xs ys : List A) → x ∷ xs ≡ y ∷ ys → (x ≡ y) × (xs ≡ ys)
cons_same {A = A} x y xs ys e = (ap first e, ap rest e) where
  first : List A → A
  first [] = x
  first (z ∷ zs) = z

  rest : List A → List A
  rest [] = []
  rest (z ∷ zs) = zs

is_text : (e : List ℕ × Data) (es : List (List ℕ × Data)) (p : List ℕ × List ℕ) (ps : List (List ℕ × List ℕ)) → text_pairs (e ∷ es) ≡ Some (p ∷ ps) → IsText e es p ps
is_text e es p ps h =
    let j = joined (option_map (λ s. (e.0, s)) (text_in e.1)) (text_pairs es) (p ∷ ps) h in
    let c = cons_same j.first p j.rest ps j.whole in
    let y = map_some (λ s. (e.0, s)) (text_in e.1) j.first j.is_first in
    record { key = ap (λ (z : List ℕ × List ℕ). z.0) (y.2 ∙ c.0); first = j.is_first ∙ ap Some c.0; rest = j.is_rest ∙ ap Some c.1 }

none_text : {A : Type 0} (p : List ℕ × List ℕ) (ps : List (List ℕ × List ℕ)) → ◌≡◌ {A = Option (List (List ℕ × List ℕ))} (Some []) (Some (p ∷ ps)) → A
none_text p ps h = absurd cc

some_text : {A : Type 0} (e : List ℕ × Data) (es : List (List ℕ × Data)) → text_pairs (e ∷ es) ≡ Some [] → A
some_text e es h =
    let j = joined (option_map (λ s. (e.0, s)) (text_in e.1)) (text_pairs es) [] h in
    let wrong = j.whole in
    absurd cc

texts_first : (k : List ℕ) (es : List (List ℕ × Data)) (ps : List (List ℕ × List ℕ)) → text_pairs es ≡ Some ps → is_first k ps ≡ is_first k es
texts_first k [] [] h = refl
texts_first k [] (p ∷ ps) h = none_text p ps h
texts_first k (e ∷ es) [] h = some_text e es h
texts_first k (e ∷ es) (p ∷ ps) h = ap (same_text k) (sym (is_text e es p ps h).key)

texts_passed : (k : List ℕ) (es : List (List ℕ × Data)) (ps : List (List ℕ × List ℕ)) → text_pairs es ≡ Some ps → text_pairs (passed k es) ≡ Some (passed k ps)
texts_passed k [] [] h = refl
texts_passed k [] (p ∷ ps) h = none_text p ps h
texts_passed k (e ∷ es) [] h = some_text e es h
texts_passed k (e ∷ es) (p ∷ ps) h =
    let t = is_text e es p ps h in
    ap (λ n. text_pairs (cond (same_text k n) es (e ∷ es))) t.key ∙ by (same_text k p.0) t.rest where
      by : (b : Bool) → text_pairs es ≡ Some ps → text_pairs (cond b es (e ∷ es)) ≡ Some (cond b ps (p ∷ ps))
      by true r = r
      by false r = h

pub texts_counted : (fs : List Field) (n : ℕ) (es : List (List ℕ × Data)) (ps : List (List ℕ × List ℕ)) → text_pairs es ≡ Some ps → count_behind fs n ps ≡ count_behind fs n es
texts_counted [] n es ps h = refl
texts_counted (f ∷ fs) zero es ps h = refl
texts_counted (f ∷ fs) (suc n) es ps h =
    let first = texts_first (field_text f) es ps h in
    let more = texts_counted fs n (passed (field_text f) es) (passed (field_text f) ps) (texts_passed (field_text f) es ps h) in
    λ j. cond (first j) (suc (more j)) (more j)

pub texts_left : (fs : List Field) (n : ℕ) (es : List (List ℕ × Data)) (ps : List (List ℕ × List ℕ)) → text_pairs es ≡ Some ps → text_pairs (left_behind fs n es) ≡ Some (left_behind fs n ps)
texts_left [] n es ps h = h
texts_left (f ∷ fs) zero es ps h = h
texts_left (f ∷ fs) (suc n) es ps h = texts_left fs n (passed (field_text f) es) (passed (field_text f) ps) (texts_passed (field_text f) es ps h)

-- ---- of the pairs that a struct writes

none_first : (k : List ℕ) (es : List (List ℕ × Data)) → value_at k es ≡ None → (is_first k es ≡ false) × (passed k es ≡ es)
none_first k [] h = (refl, refl)
none_first k (e ∷ es) h = by (same_text k e.0) refl h where
  by : (b : Bool) → same_text k e.0 ≡ b → cond b (Some e.1) (value_at k es) ≡ None → (same_text k e.0 ≡ false) × (cond (same_text k e.0) es (e ∷ es) ≡ e ∷ es)
  by true q g = absurd (none-some e.1 (sym g))
  by false q g = (q, ap (λ c. cond c es (e ∷ es)) q)

module _ (f : Field) (fs : List Field) (o : Option Data) (ds : List (Option Data)) (apart : AreNamesApart (f ∷ fs)) where
  own_value : value_at (field_text f) (written_entries left_out (f ∷ fs) (o ∷ ds)) ≡ written left_out f o
  own_value =
      written-at left_out f.name (f ∷ fs) (o ∷ ds) f apart (ap (λ b. cond b (Some f) (field_named f.name fs)) (own_text f.name))
      ∙ ap (λ b. written left_out f (cond b o (field_data f.name fs ds))) (own_text f.name)

  first_by : (w : Option Data) → value_at (field_text f) (pair_if (field_text f) w ++ written_entries left_out fs ds) ≡ w → is_first (field_text f) (pair_if (field_text f) w ++ written_entries left_out fs ds) ≡ is_some w
  first_by None v = (none_first (field_text f) (written_entries left_out fs ds) v).0
  first_by (Some d) v = own_text (field_text f)

  passed_by : (w : Option Data) → value_at (field_text f) (pair_if (field_text f) w ++ written_entries left_out fs ds) ≡ w → passed (field_text f) (pair_if (field_text f) w ++ written_entries left_out fs ds) ≡ written_entries left_out fs ds
  passed_by None v = (none_first (field_text f) (written_entries left_out fs ds) v).1
  passed_by (Some d) v = ap (λ c. cond c (written_entries left_out fs ds) ((field_text f, d) ∷ written_entries left_out fs ds)) (own_text (field_text f))

  own_first : is_first (field_text f) (written_entries left_out (f ∷ fs) (o ∷ ds)) ≡ is_some (written left_out f o)
  own_first = first_by (written left_out f o) own_value

  own_passed : passed (field_text f) (written_entries left_out (f ∷ fs) (o ∷ ds)) ≡ written_entries left_out fs ds
  own_passed = passed_by (written left_out f o) own_value

count_if : (k : List ℕ) (w : Option Data) (n : ℕ) → cond (is_some w) (suc n) n ≡ length (pair_if k w) + n
count_if k None n = omega arith
count_if k (Some d) n = omega arith

counted_at : (k : List ℕ) (f : Field) (fs : List Field) (o : Option Data) (ds : List (Option Data)) (b : Bool) → AreNamesApart (f ∷ fs) → count_behind fs (field_place k fs) (written_entries left_out fs ds) ≡ written_before left_out k fs ds
    → count_behind (f ∷ fs) (cond b 0 (suc (field_place k fs))) (written_entries left_out (f ∷ fs) (o ∷ ds)) ≡ cond b 0 (length (pair_if (field_text f) (written left_out f o)) + written_before left_out k fs ds)
counted_at k f fs o ds true apart more = refl
counted_at k f fs o ds false apart more =
    (λ j. cond (own_first f fs o ds apart j) (suc (count_behind fs (field_place k fs) (own_passed f fs o ds apart j))) (count_behind fs (field_place k fs) (own_passed f fs o ds apart j)))
    ∙ ap (λ n. cond (is_some (written left_out f o)) (suc n) n) more ∙ count_if (field_text f) (written left_out f o) (written_before left_out k fs ds)

pub written_counted : (k : List ℕ) (fs : List Field) (ds : List (Option Data)) → AreNamesApart fs → length fs ≡ length ds → count_behind fs (field_place k fs) (written_entries left_out fs ds) ≡ written_before left_out k fs ds
written_counted k [] ds apart long = refl
written_counted k (f ∷ fs) [] apart long = absurd cc
written_counted k (f ∷ fs) (o ∷ ds) apart long = counted_at k f fs o ds (same_text k f.name) apart (written_counted k fs ds apart.1 (cc))

left_at : (k : List ℕ) (f : Field) (fs : List Field) (o : Option Data) (ds : List (Option Data)) (g : Field) (b : Bool) → AreNamesApart (f ∷ fs) → cond b (Some f) (field_named k fs) ≡ Some g
    → (field_named k fs ≡ Some g → is_first (field_text g) (left_behind fs (field_place k fs) (written_entries left_out fs ds)) ≡ is_some (written left_out g (field_data k fs ds)))
    → is_first (field_text g) (left_behind (f ∷ fs) (cond b 0 (suc (field_place k fs))) (written_entries left_out (f ∷ fs) (o ∷ ds))) ≡ is_some (written left_out g (cond b o (field_data k fs ds)))
left_at k f fs o ds g true apart named more =
    subst (λ x. is_first (field_text x) (written_entries left_out (f ∷ fs) (o ∷ ds)) ≡ is_some (written left_out x o)) (same_Some f g named) (own_first f fs o ds apart)
left_at k f fs o ds g false apart named more = ap (λ es. is_first (field_text g) (left_behind fs (field_place k fs) es)) (own_passed f fs o ds apart) ∙ more named

pub written_left : (k : List ℕ) (fs : List Field) (ds : List (Option Data)) (g : Field) → AreNamesApart fs → length fs ≡ length ds → field_named k fs ≡ Some g
    → is_first (field_text g) (left_behind fs (field_place k fs) (written_entries left_out fs ds)) ≡ is_some (written left_out g (field_data k fs ds))
written_left k [] ds g apart long named = absurd (none-some g named)
written_left k (f ∷ fs) [] g apart long named = absurd cc
written_left k (f ∷ fs) (o ∷ ds) g apart long named = left_at k f fs o ds g (same_text k f.name) apart named (λ n. written_left k fs ds g apart.1 (cc) n)

-- ---- what is told

module _ (inner entry text : List ℕ) (seat : Seat) (r : Result (Option (List ℕ)) AllocError) where
  -- of a map
  module _ (key : List ℕ) (es : List (List ℕ × Data)) (ps : List (List ℕ × List ℕ)) (texts : text_pairs es ≡ Some ps) (placed : seat.place ≡ place_of key ps) (there : seat.there ≡ is_some (value_at key ps)) where
    each : each_pair text_in es ≡ Some ps
    each = sym (texts_each es) ∙ texts

    there_by : (o : Option Data) → value_at key es ≡ o → is_some (value_at key ps) ≡ is_some o
    there_by None e = ap is_some (each_pair-at text_in es ps key each ∙ ap (option_and_then text_in) e)
    there_by (Some x) e =
        let y = each_pair-some text_in key es ps x each e in
        ap is_some (each_pair-at text_in es ps key each ∙ ap (option_and_then text_in) e ∙ y.1)

    is_there : seat.there ≡ is_some (value_at key es)
    is_there = there ∙ there_by (value_at key es) refl

    is_placed : seat.place ≡ place_of key es
    is_placed = placed ∙ place_same text_in key es ps each

    pub map_told : (d : Option Data) → TellsPair inner entry text seat key d r → stringpairs inner entry es ≡ Some (T.text text) → Tells (stringpairs inner entry (entries_with key d es)) r
    map_told None all was =
        let a = put_lasts key T.null es in
        subst (λ xs. Tells (stringpairs inner entry xs) r) (sym a.gone) (all a.front a.behind (value_at key es) (is_placed ∙ sym a.placed) is_there (ap (stringpairs inner entry) (sym a.was) ∙ was))
    map_told (Some d) all was =
        let a = put_lasts key d es in
        subst (λ xs. Tells (stringpairs inner entry xs) r) (sym a.now) (all a.front a.behind (value_at key es) (is_placed ∙ sym a.placed) is_there (ap (stringpairs inner entry) (sym a.was) ∙ was))

  -- of a struct
  pub struct_told : (fs : List Field) (number : ℕ) (ds : List (Option Data)) (es fresh : List (List ℕ × Data)) (ps : List (List ℕ × List ℕ)) (k key : List ℕ) (g : Field) (d : Option Data) → text_pairs es ≡ Some ps → seat.place ≡ count_behind fs number ps
      → seat.there ≡ is_first (field_text g) (left_behind fs number ps) → field_entries fs ds ≡ Some es → stringpairs inner entry es ≡ Some (T.text text) → AreNamesApart fs → field_named k fs ≡ Some g → number ≡ field_place k fs
      → field_entries fs (set_field k d fs ds) ≡ Some fresh → key ≡ field_text g → TellsPair inner entry text seat key (written left_out g d) r → Tells (stringpairs inner entry fresh) r
  struct_told fs number ds es fresh ps k key g d texts placed there made was apart named place anew called all =
      let w = written_is fs ds es made in
      let n = written_is fs (set_field k d fs ds) fresh anew in
      let a = around left_out k fs ds g w.count named in
      let is_placed : seat.place ≡ length a.front =
      placed ∙ texts_counted fs number es ps texts ∙ (λ j. count_behind fs (place j) (w.same j)) ∙ written_counted k fs ds apart w.count ∙ sym a.placed in
      let is_there : seat.there ≡ is_some (written left_out g (field_data k fs ds)) =
      there ∙ texts_first (field_text g) (left_behind fs number es) (left_behind fs number ps) (texts_left fs number es ps texts) ∙ (λ j. is_first (field_text g) (left_behind fs (place j) (w.same j))) ∙ written_left k fs ds g apart w.count named in
      let all_so : TellsPair inner entry text seat (field_text g) (written left_out g d) r = subst (λ x. TellsPair inner entry text seat x (written left_out g d) r) called all in
      subst (λ xs. Tells (stringpairs inner entry xs) r) (sym (n.same ∙ a.set d)) (all_so a.front a.behind (written left_out g (field_data k fs ds)) is_placed is_there (ap (stringpairs inner entry) (sym (w.same ∙ a.now)) ∙ was))

-- ---- the new part, where it is written

pub not_written : (g : Field) (x : Data) (b : Bool) → b ≡ left_out g x → b ≡ true → None ≡ written left_out g (Some x)
not_written g x b is q = sym (ap (λ c. cond c None (Some x)) (sym is ∙ q))

pub is_written : (g : Field) (x : Data) (b : Bool) → b ≡ left_out g x → b ≡ false → Some x ≡ written left_out g (Some x)
is_written g x b is q = sym (ap (λ c. cond c None (Some x)) (sym is ∙ q))
