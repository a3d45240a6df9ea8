-- What is written of a struct's fields, where one field is set or taken away.
use Rattle.std.proofs.Common.{cond, ◌≡◌, ◌≢◌, ℕ, List, [], ◌∷◌, ◌++◌, length, Bool, true, false, Option, Some, None, refl, ap, sym, subst, ◌∙◌, ◌+◌, length-append, suc, ◌⊎◌, inl, inr}
use Rattle.std.specs.Prelude.{option_to_list}
use Rattle.std.specs.Cmp.Lexicographic.{same_text as text_same}
use Rattle.std.proofs.lemmas.Option.{same_Some, none-some}
use Rattle.ild_data.specs.Data.{Data}
use Rattle.ild_data.specs.Key.{same_text, put, value_at, Rises}
use Rattle.ild_data.proofs.Rising.{rises_put}
use Rattle.ild_schema.specs.declared.def.Field.{Field}
use Rattle.ild_splice_changes.specs.TreeChange.{applied}
use Rattle.ild_typed.specs.Strings.{map_data, listpairs as pairs_data, in_key_order as sorted}
use Rattle.ild_splice_changes.proofs.Shapes.{list_data, one_key, one_item}
use Rattle.ild_path_changes.specs.Pairs.{pair_if, at_pair}
use Rattle.ild_splice_changes.specs.Differences.{at_key, at_item}
use Rattle.ild_splice_changes.proofs.Maps.{own_text, other_is, put-there, put-other}
use Rattle.ild_path_changes.proofs.Pairs.{one_pair}
use Rattle.ild_typed.specs.Segment.{set_field}
use Rattle.ild_schema.specs.Marks.{field_text as represented_name}
use Rattle.ild_schema.specs.Clear.{AreNamesApart}
use Rattle.ild_path_changes.specs.Places.{written_before, field_place, written, field_named, field_data}
use Rattle.ild_path_changes.proofs.Datas.{written_entries, IsNotAmong, all_absent, tuple_items}
use Rattle.ild_path_changes.proofs.Each.{joined}

-- pairs put into a map have the same at each key, and rise
risen_first : (m : List ℕ × Data) (ms : List (List ℕ × Data)) (k : List ℕ) (b : Bool) → b ≡ same_text k m.0 → value_at k (sorted ms) ≡ value_at k ms
    → value_at k (put m.0 m.1 (sorted ms)) ≡ cond b (Some m.1) (value_at k ms)
risen_first m ms k true e h = subst (λ j. value_at j (put m.0 m.1 (sorted ms)) ≡ Some m.1) (sym (text_same k m.0 e)) (put-there m.0 m.1 (sorted ms))
risen_first m ms k false e h = put-other m.0 k m.1 (sorted ms) (λ p. apart (ap (same_text k) p ∙ own_text k) e) ∙ h
  where
    apart : same_text k m.0 ≡ true → false ≡ same_text k m.0 → ⊥
    apart p q = differ (q ∙ p)
      where
        differ : false ≡ true → ⊥
        differ h = absurd cc

pub risen-at : (ms : List (List ℕ × Data)) (k : List ℕ) → value_at k (sorted ms) ≡ value_at k ms
risen-at [] k = refl
risen-at (m ∷ ms) k = risen_first m ms k (same_text k m.0) refl (risen-at ms k)

pub risen-rises : (ms : List (List ℕ × Data)) → Rises (sorted ms)
risen-rises [] = tt
risen-rises (m ∷ ms) = rises_put m.0 m.1 (sorted ms) (risen-rises ms)

-- a name that is no other's
skipped : (k n : List ℕ) (w : Option Data) (rest : List (List ℕ × Data)) → k ≢ n → value_at k (pair_if n w ++ rest) ≡ value_at k rest
skipped k n None rest apart = refl
skipped k n (Some d) rest apart = rw (other_is k n apart) refl

own : (n : List ℕ) (w : Option Data) (rest : List (List ℕ × Data)) → value_at n rest ≡ None → value_at n (pair_if n w ++ rest) ≡ w
own n None rest h = h
own n (Some d) rest h = rw (own_text n) refl

same_behind : (k n : List ℕ) (w : Option Data) (x y : List (List ℕ × Data)) → value_at k x ≡ value_at k y → value_at k (pair_if n w ++ x) ≡ value_at k (pair_if n w ++ y)
same_behind k n None x y h = h
same_behind k n (Some d) x y h = ap (λ o. cond (same_text k n) (Some d) o) h

module _ (implicit : Field → Data → Bool) where
  not_written : (k : List ℕ) (fs : List Field) (ds : List (Option Data)) → IsNotAmong k fs → value_at k (written_entries implicit fs ds) ≡ None
  not_written k [] ds h = refl
  not_written k (g ∷ fs) [] h = refl
  not_written k (g ∷ fs) (o ∷ ds) h = skipped k (represented_name g) (written implicit g o) (written_entries implicit fs ds) h.0 ∙ not_written k fs ds h.1

  apart_first : (k s : List ℕ) (f : Field) (fs : List Field) (g : Field) (b : Bool) → IsNotAmong k (f ∷ fs) → cond b (Some f) (field_named s fs) ≡ Some g
      → (field_named s fs ≡ Some g → k ≢ represented_name g) → k ≢ represented_name g
  apart_first k s f fs g true h q rest = λ p. h.0 (p ∙ ap represented_name (sym (same_Some f g q)))
  apart_first k s f fs g false h q rest = rest q

  apart_from : (k s : List ℕ) (fs : List Field) (g : Field) → IsNotAmong k fs → field_named s fs ≡ Some g → k ≢ represented_name g
  apart_from k s [] g h e = absurd (none-some g e)
  apart_from k s (f ∷ fs) g h e = apart_first k s f fs g (same_text s f.name) h e (λ q. apart_from k s fs g h.1 q)

  -- what is written of the field
  here_first : (s : List ℕ) (f : Field) (fs : List Field) (o : Option Data) (ds : List (Option Data)) (g : Field) (b : Bool) → AreNamesApart (f ∷ fs) → cond b (Some f) (field_named s fs) ≡ Some g
      → (field_named s fs ≡ Some g → value_at (represented_name g) (written_entries implicit fs ds) ≡ written implicit g (field_data s fs ds))
      → value_at (represented_name g) (written_entries implicit (f ∷ fs) (o ∷ ds)) ≡ written implicit g (cond b o (field_data s fs ds))
  here_first s f fs o ds g true h e rest =
      subst (λ x. value_at (represented_name x) (written_entries implicit (f ∷ fs) (o ∷ ds)) ≡ written implicit x o) (same_Some f g e)
      (own (represented_name f) (written implicit f o) (written_entries implicit fs ds) (not_written (represented_name f) fs ds h.0))
  here_first s f fs o ds g false h e rest =
      skipped (represented_name g) (represented_name f) (written implicit f o) (written_entries implicit fs ds) (λ p. apart_from (represented_name f) s fs g h.0 e (sym p)) ∙ rest e

  pub written-at : (s : List ℕ) (fs : List Field) (ds : List (Option Data)) (g : Field) → AreNamesApart fs → field_named s fs ≡ Some g
      → value_at (represented_name g) (written_entries implicit fs ds) ≡ written implicit g (field_data s fs ds)
  written-at s [] ds g h e = absurd (none-some g e)
  written-at s (f ∷ fs) [] g h e = refl
  written-at s (f ∷ fs) (o ∷ ds) g h e = here_first s f fs o ds g (same_text s f.name) h e (λ q. written-at s fs ds g h.1 q)

  -- and of the others
  others_first : (k s : List ℕ) (w : Option Data) (f : Field) (fs : List Field) (o : Option Data) (ds : List (Option Data)) (g : Field) (b : Bool) → cond b (Some f) (field_named s fs) ≡ Some g → k ≢ represented_name g
      → (field_named s fs ≡ Some g → value_at k (written_entries implicit fs (set_field s w fs ds)) ≡ value_at k (written_entries implicit fs ds))
      → value_at k (written_entries implicit (f ∷ fs) (cond b (w ∷ ds) (o ∷ set_field s w fs ds))) ≡ value_at k (written_entries implicit (f ∷ fs) (o ∷ ds))
  others_first k s w f fs o ds g true e apart rest =
      let a : k ≢ represented_name f = λ p. apart (p ∙ ap represented_name (same_Some f g e)) in
      skipped k (represented_name f) (written implicit f w) (written_entries implicit fs ds) a ∙ sym (skipped k (represented_name f) (written implicit f o) (written_entries implicit fs ds) a)
  others_first k s w f fs o ds g false e apart rest = same_behind k (represented_name f) (written implicit f o) _ _ (rest e)

  pub written-other : (k s : List ℕ) (w : Option Data) (fs : List Field) (ds : List (Option Data)) (g : Field) → field_named s fs ≡ Some g → k ≢ represented_name g
      → value_at k (written_entries implicit fs (set_field s w fs ds)) ≡ value_at k (written_entries implicit fs ds)
  written-other k s w [] ds g e apart = refl
  written-other k s w (f ∷ fs) [] g e apart = refl
  written-other k s w (f ∷ fs) (o ∷ ds) g e apart = others_first k s w f fs o ds g (same_text s f.name) e apart (λ q. written-other k s w fs ds g q apart)

  -- a field that is set is there
  set_first : (s : List ℕ) (w : Option Data) (f : Field) (fs : List Field) (o : Option Data) (ds : List (Option Data)) (g : Field) (b : Bool) → same_text s f.name ≡ b → cond b (Some f) (field_named s fs) ≡ Some g
      → (field_named s fs ≡ Some g → field_data s fs (set_field s w fs ds) ≡ w)
      → field_data s (f ∷ fs) (cond b (w ∷ ds) (o ∷ set_field s w fs ds)) ≡ w
  set_first s w f fs o ds g true e h rest = rw e refl
  set_first s w f fs o ds g false e h rest = rw e (rest h)

  pub set-there : (s : List ℕ) (w : Option Data) (fs : List Field) (ds : List (Option Data)) (g : Field) → length fs ≡ length ds → field_named s fs ≡ Some g → field_data s fs (set_field s w fs ds) ≡ w
  set-there s w [] ds g len e = absurd (none-some g e)
  set-there s w (f ∷ fs) [] g len e = absurd cc
  set-there s w (f ∷ fs) (o ∷ ds) g len e = set_first s w f fs o ds g (same_text s f.name) refl e (λ q. set-there s w fs ds g (cc) q)

  -- A struct as a map: the field's entry comes, goes, is replaced, or nothing changes.
  pub struct_map : (s : List ℕ) (w : Option Data) (fs : List Field) (ds : List (Option Data)) (g : Field) → AreNamesApart fs → length fs ≡ length ds → field_named s fs ≡ Some g
      → map_data (sorted (written_entries implicit fs (set_field s w fs ds)))
      ≡ applied (at_key (represented_name g) (written implicit g (field_data s fs ds)) (written implicit g w)) (map_data (sorted (written_entries implicit fs ds)))
  struct_map s w fs ds g apart len e =
      let xs = written_entries implicit fs ds in
      let ys = written_entries implicit fs (set_field s w fs ds) in
      one_key (represented_name g) (sorted xs) (sorted ys) (written implicit g (field_data s fs ds)) (written implicit g w) (risen-rises xs) (risen-rises ys)
      (λ j a. risen-at ys j ∙ written-other j s w fs ds g e (λ p. a (sym p)) ∙ sym (risen-at xs j))
      (risen-at xs (represented_name g) ∙ written-at s fs ds g apart e)
      (risen-at ys (represented_name g) ∙ written-at s fs (set_field s w fs ds) g apart e ∙ ap (written implicit g) (set-there s w fs ds g len e))

  -- what stands before and behind the field's entry
  pub record IsAround (s : List ℕ) (fs : List Field) (ds : List (Option Data)) (g : Field) : Type 0 where
    pub front : List (List ℕ × Data)
    pub behind : List (List ℕ × Data)
    pub placed : length front ≡ written_before implicit s fs ds
    pub now : written_entries implicit fs ds ≡ front ++ (pair_if (represented_name g) (written implicit g (field_data s fs ds)) ++ behind)
    pub set : (w : Option Data) → written_entries implicit fs (set_field s w fs ds) ≡ front ++ (pair_if (represented_name g) (written implicit g w) ++ behind)

  behind_one : (x y : List (List ℕ × Data)) (z : List (List ℕ × Data)) → (x ++ y) ++ z ≡ x ++ (y ++ z)
  behind_one [] y z = refl
  behind_one (a ∷ x) y z = ap (λ r. a ∷ r) (behind_one x y z)

  around_first : (s : List ℕ) (f : Field) (fs : List Field) (o : Option Data) (ds : List (Option Data)) (g : Field) (b : Bool) → same_text s f.name ≡ b → cond b (Some f) (field_named s fs) ≡ Some g
      → (field_named s fs ≡ Some g → IsAround s fs ds g) → IsAround s (f ∷ fs) (o ∷ ds) g
  around_first s f fs o ds g true e h rest = record {
    front = [];
    behind = written_entries implicit fs ds;
    placed = rw e refl;
    now = rw e (ap (λ x. pair_if (represented_name x) (written implicit x o) ++ written_entries implicit fs ds) (same_Some f g h));
    set = λ w. rw e (ap (λ x. pair_if (represented_name x) (written implicit x w) ++ written_entries implicit fs ds) (same_Some f g h));
  }
  around_first s f fs o ds g false e h rest =
      let r = rest h in
      let p = pair_if (represented_name f) (written implicit f o) in
      record {
        front = p ++ r.front;
        behind = r.behind;
        placed = rw e (length-append p r.front ∙ ap (λ n. length p + n) r.placed);
        now = rw e (ap (λ x. p ++ x) r.now ∙ sym (behind_one p r.front _));
        set = λ w. rw e (ap (λ x. p ++ x) (r.set w) ∙ sym (behind_one p r.front _));
      }

  pub around : (s : List ℕ) (fs : List Field) (ds : List (Option Data)) (g : Field) → length fs ≡ length ds → field_named s fs ≡ Some g → IsAround s fs ds g
  around s [] ds g len e = absurd (none-some g e)
  around s (f ∷ fs) [] g len e = absurd cc
  around s (f ∷ fs) (o ∷ ds) g len e = around_first s f fs o ds g (same_text s f.name) refl e (λ q. around s fs ds g (cc) q)

  -- A struct as a list of pairs: the same, at one place.
  pub struct_pairs : (s : List ℕ) (w : Option Data) (fs : List Field) (ds : List (Option Data)) (g : Field) → length fs ≡ length ds → field_named s fs ≡ Some g
      → (i : ℕ) × (pairs_data (written_entries implicit fs (set_field s w fs ds))
      ≡ applied (at_pair i (represented_name g) (written implicit g (field_data s fs ds)) (written implicit g w)) (pairs_data (written_entries implicit fs ds)))
  struct_pairs s w fs ds g len e =
      let a = around s fs ds g len e in
      let k = represented_name g in (
        length a.front,
        ap pairs_data (a.set w) ∙ one_pair k a.front a.behind (written implicit g (field_data s fs ds)) (written implicit g w)
            ∙ ap (λ x. applied (at_pair (length a.front) k (written implicit g (field_data s fs ds)) (written implicit g w)) (pairs_data x)) (sym a.now),
      )

-- A tuple: a field is replaced, or one comes or goes at the end.
no_items_of : (os : List (Option Data)) (xs : List Data) → all_absent os ≡ true → tuple_items os ≡ Some xs → xs ≡ []
no_items_of [] xs h e = sym (same_Some [] xs e)
no_items_of (None ∷ os) xs h e = sym (same_Some [] xs (sym (ap (λ b. cond b (Some []) None) h) ∙ e))
no_items_of (Some d ∷ os) xs h e = absurd cc

-- xs becomes ys at the place n, where something is there before or after
pub record IsChanged (n : ℕ) (xs ys : List Data) (a b : Option Data) : Type 0 where
  pub front : List Data
  pub behind : List Data
  pub placed : (length front ≡ n) ⊎ ((a ≡ None) × (b ≡ None))
  pub was : xs ≡ front ++ (option_to_list a ++ behind)
  pub now : ys ≡ front ++ (option_to_list b ++ behind)

absent_first : (os : List (Option Data)) (xs : List Data) (b : Bool) → all_absent os ≡ b → cond b (Some []) None ≡ Some xs → (all_absent os ≡ true) × (xs ≡ [])
absent_first os xs true h e = (h, sym (same_Some [] xs e))
absent_first os xs false h e = absurd (none-some xs e)

tuple_here : (a b : Option Data) (os : List (Option Data)) (xs ys : List Data) → tuple_items (a ∷ os) ≡ Some xs → tuple_items (b ∷ os) ≡ Some ys → IsChanged 0 xs ys a b
tuple_here None None os xs ys g h =
    let p = absent_first os xs (all_absent os) refl g in
    let q = absent_first os ys (all_absent os) refl h in
    record { front = []; behind = []; placed = inl refl; was = p.1; now = q.1 }
tuple_here None (Some d) os xs ys g h =
    let p = absent_first os xs (all_absent os) refl g in
    let j = joined (Some d) (tuple_items os) ys h in
    record { front = []; behind = []; placed = inl refl; was = p.1; now = sym j.whole ∙ (λ i. same_Some j.first d (sym j.is_first) i ∷ no_items_of os j.rest p.0 j.is_rest i) }
tuple_here (Some e) None os xs ys g h =
    let j = joined (Some e) (tuple_items os) xs g in
    let q = absent_first os ys (all_absent os) refl h in
    record { front = []; behind = []; placed = inl refl; was = sym j.whole ∙ (λ i. same_Some j.first e (sym j.is_first) i ∷ no_items_of os j.rest q.0 j.is_rest i); now = q.1 }
tuple_here (Some e) (Some d) os xs ys g h =
    let j = joined (Some e) (tuple_items os) xs g in
    let k = joined (Some d) (tuple_items os) ys h in
    record {
      front = [];
      behind = j.rest;
      placed = inl refl;
      was = sym j.whole ∙ ap (λ x. x ∷ j.rest) (same_Some j.first e (sym j.is_first));
      now = sym k.whole ∙ (λ i. same_Some k.first d (sym k.is_first) i ∷ same_Some k.rest j.rest (sym k.is_rest ∙ j.is_rest) i);
    }

absent_data_at : (s : List ℕ) (f : Field) (fs : List Field) (ds : List (Option Data)) (b : Bool) → field_data s fs ds ≡ None → cond b None (field_data s fs ds) ≡ None
absent_data_at s f fs ds true h = refl
absent_data_at s f fs ds false h = h

absent_data : (s : List ℕ) (fs : List Field) (ds : List (Option Data)) → all_absent ds ≡ true → field_data s fs ds ≡ None
absent_data s [] ds h = refl
absent_data s (f ∷ fs) [] h = refl
absent_data s (f ∷ fs) (None ∷ ds) h = absent_data_at s f fs ds (same_text s f.name) (absent_data s fs ds h)
absent_data s (f ∷ fs) (Some d ∷ ds) h = absurd cc

next : (d : Data) (front : List Data) (n : ℕ) (a b : Option Data) → (length front ≡ n) ⊎ ((a ≡ None) × (b ≡ None)) → (length (d ∷ front) ≡ suc n) ⊎ ((a ≡ None) × (b ≡ None))
next d front n a b (inl e) = inl (ap (λ k. suc k) e)
next d front n a b (inr h) = inr h

tuple_behind : (s : List ℕ) (w : Option Data) (fs : List Field) (o : Option Data) (ds : List (Option Data)) (g : Field) (xs ys : List Data) → length fs ≡ length ds → field_named s fs ≡ Some g
    → tuple_items (o ∷ ds) ≡ Some xs → tuple_items (o ∷ set_field s w fs ds) ≡ Some ys
    → ((us vs : List Data) → tuple_items ds ≡ Some us → tuple_items (set_field s w fs ds) ≡ Some vs → IsChanged (field_place s fs) us vs (field_data s fs ds) w)
    → IsChanged (suc (field_place s fs)) xs ys (field_data s fs ds) w
tuple_behind s w fs None ds g xs ys len e a b rest =
    let p = absent_first ds xs (all_absent ds) refl a in
    let q = absent_first (set_field s w fs ds) ys (all_absent (set_field s w fs ds)) refl b in
    let none : w ≡ None = sym (set-there (λ f d. false) s w fs ds g len e) ∙ absent_data s fs (set_field s w fs ds) q.0 in
    let here : field_data s fs ds ≡ None = absent_data s fs ds p.0 in
    record {
      front = [];
      behind = [];
      placed = inr (here, none);
      was = p.1 ∙ ap (λ (o : Option Data). option_to_list o ++ []) (sym here);
      now = q.1 ∙ ap (λ (o : Option Data). option_to_list o ++ []) (sym none);
    }
tuple_behind s w fs (Some d) ds g xs ys len e a b rest =
    let j = joined (Some d) (tuple_items ds) xs a in
    let k = joined (Some d) (tuple_items (set_field s w fs ds)) ys b in
    let r = rest j.rest k.rest j.is_rest k.is_rest in
    record {
      front = d ∷ r.front;
      behind = r.behind;
      placed = next d r.front (field_place s fs) (field_data s fs ds) w r.placed;
      was = sym j.whole ∙ (λ i. same_Some j.first d (sym j.is_first) i ∷ r.was i);
      now = sym k.whole ∙ (λ i. same_Some k.first d (sym k.is_first) i ∷ r.now i);
    }

tuple_first : (s : List ℕ) (w : Option Data) (f : Field) (fs : List Field) (o : Option Data) (ds : List (Option Data)) (g : Field) (xs ys : List Data) (b : Bool) → cond b (Some f) (field_named s fs) ≡ Some g → length fs ≡ length ds
    → tuple_items (o ∷ ds) ≡ Some xs → tuple_items (cond b (w ∷ ds) (o ∷ set_field s w fs ds)) ≡ Some ys
    → (field_named s fs ≡ Some g → (us vs : List Data) → tuple_items ds ≡ Some us → tuple_items (set_field s w fs ds) ≡ Some vs → IsChanged (field_place s fs) us vs (field_data s fs ds) w)
    → IsChanged (cond b 0 (suc (field_place s fs))) xs ys (cond b o (field_data s fs ds)) w
tuple_first s w f fs o ds g xs ys true e len p q rest = tuple_here o w ds xs ys p q
tuple_first s w f fs o ds g xs ys false e len p q rest = tuple_behind s w fs o ds g xs ys len e p q (rest e)

tuple_changed : (s : List ℕ) (w : Option Data) (fs : List Field) (ds : List (Option Data)) (g : Field) (xs ys : List Data) → length fs ≡ length ds → field_named s fs ≡ Some g
    → tuple_items ds ≡ Some xs → tuple_items (set_field s w fs ds) ≡ Some ys → IsChanged (field_place s fs) xs ys (field_data s fs ds) w
tuple_changed s w [] ds g xs ys len e p q = absurd (none-some g e)
tuple_changed s w (f ∷ fs) [] g xs ys len e p q = absurd cc
tuple_changed s w (f ∷ fs) (o ∷ ds) g xs ys len e p q = tuple_first s w f fs o ds g xs ys (same_text s f.name) e (cc) p q (λ h us vs a b. tuple_changed s w fs ds g us vs (cc) h a b)

changed_item : (n : ℕ) (xs ys : List Data) (a b : Option Data) (c : IsChanged n xs ys a b) → (length c.front ≡ n) ⊎ ((a ≡ None) × (b ≡ None)) → list_data ys ≡ applied (at_item n a b) (list_data xs)
changed_item n xs ys a b c (inl e) = ap list_data c.now ∙ one_item c.front c.behind a b ∙ (λ i. applied (at_item (e i) a b) (list_data (sym c.was i)))
changed_item n xs ys a b c (inr h) =
    ap list_data (c.now ∙ (λ j. c.front ++ (option_to_list ((h.1 ∙ sym h.0) j) ++ c.behind)) ∙ sym c.was) ∙ (λ j. applied (at_item n (sym h.0 j) (sym h.1 j)) (list_data xs))

-- A struct as a tuple: where both are written, the field's item comes, goes or is replaced.
pub struct_tuple : (s : List ℕ) (w : Option Data) (fs : List Field) (ds : List (Option Data)) (g : Field) (xs ys : List Data) → length fs ≡ length ds → field_named s fs ≡ Some g
    → tuple_items ds ≡ Some xs → tuple_items (set_field s w fs ds) ≡ Some ys → list_data ys ≡ applied (at_item (field_place s fs) (field_data s fs ds) w) (list_data xs)
struct_tuple s w fs ds g xs ys len e p q =
    let c = tuple_changed s w fs ds g xs ys len e p q in
    changed_item (field_place s fs) xs ys (field_data s fs ds) w c c.placed
