-- Names with values are those of some fields exactly where no cause of a struct's pairs holds of them.
use Rattle.std.proofs.Common.{◌≡◌, ℕ, zero, suc, List, [], ◌∷◌, ◌++◌, map, Bool, true, false, cond, ◌||◌, ◌&&◌, not, Option, Some, None, option_map, refl, sym, ◌∙◌, ap, subst, arith}
use Rattle.std.specs.Prelude.{nat_lt, nat_eq, is_none, ℤ, pos, negsuc}
use Rattle.std.specs.List.{list_any, AllByRecursion}
use Rattle.std.specs.Cmp.Lexicographic.{same_text as text_same}
use Rattle.std.proofs.lemmas.Option.{same_Some, none-some}
use Rattle.std.proofs.lemmas.Bool.{eq-eqb, lt-ltb, le-ltb, ltb-true, ltb-false, or_parts, or_from, or_right, or_left}
use Rattle.ild_data.specs.Data.{Data}
use Rattle.ild_data.specs.Key.{same_text}
use Rattle.ild_schema.specs.declared.def.Field.{Field}
use Rattle.ild_schema.specs.declared.def.Scalar.{Scalar}
use Rattle.ild_schema.specs.declared.def.Scalar.TheVariants as C
use Rattle.ild_typed.specs.Fields.{same_bool, same_int, is_scalar, is_implicit, entries_of, field_entries}
use Rattle.ild_schema.specs.Marks.{field_text}
use Rattle.ild_schema.specs.Clear.{AreNamesApart}
use Rattle.ild_typed.specs.Named.{names, is_among, has_twice}
use Rattle.ild_typed.specs.StructWhy.{is_name_of, has_stranger, must_stand, lacks_field, place_of, has_fall, is_out_of_order, is_needless, writes_implicit}
use Rattle.ild_typed.proofs.Entries.{same_text_self}
use Rattle.ild_typed.proofs.Structs.{scalar_data, written, field_from}
use Rattle.ild_typed.proofs.Cleans.{not_false, not_true, or_rest, never, none_pass, pass_none}

-- no cause holds of names with values
pub record Fine (fs : List Field) (es : List (List ℕ × Data)) : Type 0 where
  pub known : has_stranger fs (names es) ≡ false
  pub whole : lacks_field fs (names es) ≡ false
  pub order : is_out_of_order fs (names es) ≡ false
  pub once : has_twice (names es) ≡ false
  pub needed : writes_implicit fs es ≡ false

-- ---- a field that none of the names is

abbrev Others : Field → List (List ℕ) → Type 0
Others f ks = AllByRecursion (λ k. is_name_of k f ≡ false) ks

known_down : (f : Field) (fs : List Field) (ks : List (List ℕ)) → Others f ks → has_stranger (f ∷ fs) ks ≡ false → has_stranger fs ks ≡ false
known_down f fs [] others e = refl
known_down f fs (k ∷ ks) others e =
    let x = or_parts (not (list_any (is_name_of k) (f ∷ fs))) (has_stranger (f ∷ fs) ks) e in
    let here : list_any (is_name_of k) fs ≡ true = or_rest (is_name_of k f) (list_any (is_name_of k) fs) (not_false (list_any (is_name_of k) (f ∷ fs)) x.0) others.0 in
    or_from (not (list_any (is_name_of k) fs)) (has_stranger fs ks) (not_true (list_any (is_name_of k) fs) here) (known_down f fs ks others.1 x.1)

known_up : (f : Field) (fs : List Field) (ks : List (List ℕ)) → has_stranger fs ks ≡ false → has_stranger (f ∷ fs) ks ≡ false
known_up f fs [] e = refl
known_up f fs (k ∷ ks) e =
    let x = or_parts (not (list_any (is_name_of k) fs)) (has_stranger fs ks) e in
    let here = or_right (is_name_of k f) (list_any (is_name_of k) fs) (not_false (list_any (is_name_of k) fs) x.0) in
    or_from (not (list_any (is_name_of k) (f ∷ fs))) (has_stranger (f ∷ fs) ks) (not_true (list_any (is_name_of k) (f ∷ fs)) here) (known_up f fs ks x.1)

place_later : (f : Field) (fs : List Field) (k : List ℕ) → is_name_of k f ≡ false → place_of (f ∷ fs) k ≡ suc (place_of fs k)
place_later f fs k other = ap (λ b. cond b zero (suc (place_of fs k))) other

places_later : (f : Field) (fs : List Field) (ks : List (List ℕ)) → Others f ks → map (place_of (f ∷ fs)) ks ≡ map suc (map (place_of fs) ks)
places_later f fs [] others = refl
places_later f fs (k ∷ ks) others =
    let first = place_later f fs k others.0 in
    let rest = places_later f fs ks others.1 in
    λ i. first i ∷ rest i

pub lt_suc : (m n : ℕ) → nat_lt (suc m) (suc n) ≡ nat_lt m n
lt_suc m n = by (nat_lt m n) refl where
  by : (b : Bool) → nat_lt m n ≡ b → nat_lt (suc m) (suc n) ≡ nat_lt m n
  by true is = lt-ltb (suc m) (suc n) (omega (arith, ltb-true m n is)) ∙ sym is
  by false is = le-ltb (suc m) (suc n) (omega (arith, ltb-false m n is)) ∙ sym is

pub lt_zero : (n : ℕ) → nat_lt n zero ≡ false
lt_zero n = le-ltb n zero (omega arith)

pub zero_lt : (n : ℕ) → nat_lt zero (suc n) ≡ true
zero_lt n = lt-ltb zero (suc n) (omega arith)

lesser_suc : (n : ℕ) (ns : List ℕ) → list_any (λ m. nat_lt m (suc n)) (map suc ns) ≡ list_any (λ m. nat_lt m n) ns
lesser_suc n [] = refl
lesser_suc n (m ∷ ns) = ap (λ b. b || list_any (λ k. nat_lt k (suc n)) (map suc ns)) (lt_suc m n) ∙ ap (λ b. nat_lt m n || b) (lesser_suc n ns)

fall_suc : (ns : List ℕ) → has_fall (map suc ns) ≡ has_fall ns
fall_suc [] = refl
fall_suc (n ∷ ns) = ap (λ b. b || has_fall (map suc ns)) (lesser_suc n ns) ∙ ap (λ b. list_any (λ m. nat_lt m n) ns || b) (fall_suc ns)

fall_later : (f : Field) (fs : List Field) (ks : List (List ℕ)) → Others f ks → is_out_of_order (f ∷ fs) ks ≡ is_out_of_order fs ks
fall_later f fs ks others = ap has_fall (places_later f fs ks others) ∙ fall_suc (map (place_of fs) ks)

below_zero : (ns : List ℕ) → list_any (λ m. nat_lt m zero) ns ≡ false
below_zero [] = refl
below_zero (n ∷ ns) = or_from (nat_lt n zero) (list_any (λ m. nat_lt m zero) ns) (lt_zero n) (below_zero ns)

-- names behind one that is not the first field's are not the first field's, where none falls
others_behind : (f : Field) (fs : List Field) (p : ℕ) (ks : List (List ℕ)) → list_any (λ m. nat_lt m (suc p)) (map (place_of (f ∷ fs)) ks) ≡ false → Others f ks
others_behind f fs p [] e = tt
others_behind f fs p (k ∷ ks) e =
    let x = or_parts (nat_lt (place_of (f ∷ fs) k) (suc p)) (list_any (λ m. nat_lt m (suc p)) (map (place_of (f ∷ fs)) ks)) e in
    (by (is_name_of k f) refl x.0, others_behind f fs p ks x.1)
  where
    by : (b : Bool) → is_name_of k f ≡ b → nat_lt (cond (is_name_of k f) zero (suc (place_of fs k))) (suc p) ≡ false → is_name_of k f ≡ false
    by true is h = let bad : true ≡ false = sym (zero_lt p) ∙ ap (λ c. nat_lt (cond c zero (suc (place_of fs k))) (suc p)) (sym is) ∙ h in absurd (never bad)
    by false is h = is

no_other : (f : Field) (k : List ℕ) (gs : List Field) → AllByRecursion (λ g. field_text f ≡ field_text g → ⊥) gs → field_text f ≡ k → list_any (is_name_of k) gs ≡ true → ⊥
no_other f k [] all same h = absurd cc
no_other f k (g ∷ gs) all same h = go (is_name_of k g) refl (λ is. no_other f k gs all.1 same (or_rest (is_name_of k g) (list_any (is_name_of k) gs) h is)) where
  go : (b : Bool) → is_name_of k g ≡ b → (is_name_of k g ≡ false → ⊥) → ⊥
  go true is more = all.0 (same ∙ sym (text_same (field_text g) k (sym is)))
  go false is more = more is

-- nor are names that no field of others has
others_known : (f : Field) (fs : List Field) (ks : List (List ℕ)) → AllByRecursion (λ g. field_text f ≡ field_text g → ⊥) fs → has_stranger fs ks ≡ false → Others f ks
others_known f fs [] apart e = tt
others_known f fs (k ∷ ks) apart e =
    let x = or_parts (not (list_any (is_name_of k) fs)) (has_stranger fs ks) e in
    (by (is_name_of k f) refl (not_false (list_any (is_name_of k) fs) x.0), others_known f fs ks apart x.1)
  where
    by : (b : Bool) → is_name_of k f ≡ b → list_any (is_name_of k) fs ≡ true → is_name_of k f ≡ false
    by true is h = absurd (no_other f k fs apart (text_same (field_text f) k (sym is)) h)
    by false is h = is

others_among : (f : Field) (ks : List (List ℕ)) → Others f ks → is_among (field_text f) ks ≡ false
others_among f ks others = pass_none (same_text (field_text f)) ks others

among_others : (f : Field) (ks : List (List ℕ)) → is_among (field_text f) ks ≡ false → Others f ks
among_others f ks e = none_pass (same_text (field_text f)) ks e

-- ---- a field less

pub and_true_false : (a b : Bool) → (a && b) ≡ false → b ≡ true → a ≡ false
and_true_false true b e k = absurd cc
and_true_false false b e k = refl

pub and_false : (a b : Bool) → b ≡ false → (a && b) ≡ false
and_false true b e = e
and_false false b e = refl

needed_down : (f : Field) (fs : List Field) (es : List (List ℕ × Data)) → writes_implicit (f ∷ fs) es ≡ false → writes_implicit fs es ≡ false
needed_down f fs [] e = refl
needed_down f fs (x ∷ es) e =
    let y = or_parts (is_needless (f ∷ fs) x) (writes_implicit (f ∷ fs) es) e in
    let z = or_parts (is_name_of x.0 f && is_implicit f.implicit x.1) (is_needless fs x) y.0 in
    or_from (is_needless fs x) (writes_implicit fs es) z.1 (needed_down f fs es y.1)

needed_up : (f : Field) (fs : List Field) (es : List (List ℕ × Data)) → Others f (names es) → writes_implicit fs es ≡ false → writes_implicit (f ∷ fs) es ≡ false
needed_up f fs [] others e = refl
needed_up f fs (x ∷ es) others e =
    let y = or_parts (is_needless fs x) (writes_implicit fs es) e in
    let first : (is_name_of x.0 f && is_implicit f.implicit x.1) ≡ false = ap (λ b. b && is_implicit f.implicit x.1) others.0 in
    or_from (is_needless (f ∷ fs) x) (writes_implicit (f ∷ fs) es) (or_from (is_name_of x.0 f && is_implicit f.implicit x.1) (is_needless fs x) first y.0) (needed_up f fs es others.1 y.1)

-- a name in front, which is no other field's
among_rest : (g : Field) (k : List ℕ) (ks : List (List ℕ)) → is_name_of k g ≡ false → is_among (field_text g) (k ∷ ks) ≡ is_among (field_text g) ks
among_rest g k ks other = ap (λ b. b || is_among (field_text g) ks) other

whole_front : (gs : List Field) (k : List ℕ) (ks : List (List ℕ)) → AllByRecursion (λ g. is_name_of k g ≡ false) gs → lacks_field gs (k ∷ ks) ≡ lacks_field gs ks
whole_front [] k ks apart = refl
whole_front (g ∷ gs) k ks apart =
    ap (λ b. (must_stand g && not b) || lacks_field gs (k ∷ ks)) (among_rest g k ks apart.0)
    ∙ ap (λ b. (must_stand g && not (is_among (field_text g) ks)) || b) (whole_front gs k ks apart.1)

pub apart_names : (f : Field) (k : List ℕ) → field_text f ≡ k → (gs : List Field) → AllByRecursion (λ g. field_text f ≡ field_text g → ⊥) gs → AllByRecursion (λ g. is_name_of k g ≡ false) gs
apart_names f k is [] all = tt
apart_names f k is (g ∷ gs) all = (by (is_name_of k g) refl, apart_names f k is gs all.1) where
  by : (b : Bool) → is_name_of k g ≡ b → is_name_of k g ≡ false
  by true same = absurd (all.0 (is ∙ sym (text_same (field_text g) k (sym same))))
  by false same = same

-- ---- the value of a field that is left out

bool_self : (b : Bool) → same_bool b b ≡ true
bool_self true = refl
bool_self false = refl

nat_self : (n : ℕ) → nat_eq n n ≡ true
nat_self n = eq-eqb n n refl

pub int_self : (n : ℤ) → same_int n n ≡ true
int_self (pos n) = nat_self n
int_self (negsuc n) = nat_self n

pub scalar_self : (s : Scalar) → is_scalar s (scalar_data s) ≡ true
scalar_self (C.Bool b) = bool_self b
scalar_self (C.Int n) = int_self n
scalar_self (C.Text s) = same_text_self s

-- ---- there are fields

pub record FieldsFor (fs : List Field) (es : List (List ℕ × Data)) : Type 0 where
  pub fields : List (Option Data)
  pub there : field_entries fs fields ≡ Some es

pub absent_field : (f : Field) (fs : List Field) (es : List (List ℕ × Data)) → must_stand f ≡ false → FieldsFor fs es → FieldsFor (f ∷ fs) es
absent_field f fs es free x = by f.optional refl where
  left_out : (o : Option Scalar) → f.implicit ≡ o → is_none o ≡ false → FieldsFor (f ∷ fs) es
  left_out None is h = absurd (never h)
  left_out (Some s) is h = record {
    fields = Some (scalar_data s) ∷ x.fields;
    there = ap (λ o. option_map (λ (qs : List (List ℕ × Data)). entries_of f (scalar_data s) ++ qs) o) x.there
        ∙ ap (λ b. Some (cond b [] ((field_text f, scalar_data s) ∷ []) ++ es)) (ap (λ o. is_implicit o (scalar_data s)) is ∙ scalar_self s);
  }

  by : (b : Bool) → f.optional ≡ b → FieldsFor (f ∷ fs) es
  by true is = record { fields = None ∷ x.fields; there = ap (λ b. cond b (field_entries fs x.fields) None) is ∙ x.there }
  by false is = left_out f.implicit refl (ap (λ b. not b && is_none f.implicit) (sym is) ∙ free)

pub fields_for : (fs : List Field) (es : List (List ℕ × Data)) → AreNamesApart fs → Fine fs es → FieldsFor fs es
fields_for [] [] apart fine = record { fields = []; there = refl }
fields_for [] (e ∷ es) apart fine = absurd (never fine.known)
fields_for (f ∷ fs) [] apart fine =
    let w = or_parts (must_stand f && true) (lacks_field fs []) fine.whole in
    absent_field f fs [] (and_true_false (must_stand f) true w.0 refl)
    (fields_for fs [] apart.1 (record { known = refl; whole = w.1; order = refl; once = refl; needed = refl }))
fields_for (f ∷ fs) (e ∷ es) apart fine = by (is_name_of e.0 f) refl (λ qs. fields_for fs qs apart.1) where
  behind : FieldsFor fs es → is_name_of e.0 f ≡ true → FieldsFor (f ∷ fs) (e ∷ es)
  behind x is =
      let n = or_parts (is_needless (f ∷ fs) e) (writes_implicit (f ∷ fs) es) fine.needed in
      let m = or_parts (is_name_of e.0 f && is_implicit f.implicit e.1) (is_needless fs e) n.0 in
      let kept : is_implicit f.implicit e.1 ≡ false = ap (λ b. b && is_implicit f.implicit e.1) (sym is) ∙ m.0 in
      record {
        fields = Some e.1 ∷ x.fields;
        there = ap (option_map (λ (qs : List (List ℕ × Data)). entries_of f e.1 ++ qs)) x.there
            ∙ ap (λ b. Some (cond b [] ((field_text f, e.1) ∷ []) ++ es)) kept
            ∙ ap (λ k. Some ((k, e.1) ∷ es)) (text_same (field_text f) e.0 (sym is));
      }

  by : (b : Bool) → is_name_of e.0 f ≡ b → ((qs : List (List ℕ × Data)) → Fine fs qs → FieldsFor fs qs) → FieldsFor (f ∷ fs) (e ∷ es)
  by true is more =
      let name : field_text f ≡ e.0 = text_same (field_text f) e.0 (sym is) in
      let t = or_parts (is_among e.0 (names es)) (has_twice (names es)) fine.once in
      let others : Others f (names es) = among_others f (names es) (ap (λ k. is_among k (names es)) name ∙ t.0) in
      let k = or_parts (not (list_any (is_name_of e.0) (f ∷ fs))) (has_stranger (f ∷ fs) (names es)) fine.known in
      let w = or_parts (must_stand f && not (is_among (field_text f) (e.0 ∷ names es))) (lacks_field fs (e.0 ∷ names es)) fine.whole in
      let o = or_parts (list_any (λ m. nat_lt m (place_of (f ∷ fs) e.0)) (map (place_of (f ∷ fs)) (names es))) (is_out_of_order (f ∷ fs) (names es)) fine.order in
      let n = or_parts (is_needless (f ∷ fs) e) (writes_implicit (f ∷ fs) es) fine.needed in
      behind (more es (record {
        known = known_down f fs (names es) others k.1;
        whole = sym (whole_front fs e.0 (names es) (apart_names f e.0 name fs apart.0)) ∙ w.1;
        order = sym (fall_later f fs (names es) others) ∙ o.1;
        once = t.1;
        needed = needed_down f fs es n.1;
      })) is
  by false is more =
      let o = or_parts (list_any (λ m. nat_lt m (place_of (f ∷ fs) e.0)) (map (place_of (f ∷ fs)) (names es))) (is_out_of_order (f ∷ fs) (names es)) fine.order in
      let later : list_any (λ m. nat_lt m (suc (place_of fs e.0))) (map (place_of (f ∷ fs)) (names es)) ≡ false
      = ap (λ p. list_any (λ m. nat_lt m p) (map (place_of (f ∷ fs)) (names es))) (sym (place_later f fs e.0 is)) ∙ o.0 in
      let others : Others f (names (e ∷ es)) = (is, others_behind f fs (place_of fs e.0) (names es) later) in
      let w = or_parts (must_stand f && not (is_among (field_text f) (names (e ∷ es)))) (lacks_field fs (names (e ∷ es))) fine.whole in
      absent_field f fs (e ∷ es)
      (and_true_false (must_stand f) (not (is_among (field_text f) (names (e ∷ es)))) w.0 (ap not (others_among f (names (e ∷ es)) others)))
      (more (e ∷ es) (record {
        known = known_down f fs (names (e ∷ es)) others fine.known;
        whole = w.1;
        order = sym (fall_later f fs (names (e ∷ es)) others) ∙ fine.order;
        once = fine.once;
        needed = needed_down f fs (e ∷ es) fine.needed;
      }))

-- ---- of fields that are there no cause holds

pub needless_apart : (k : List ℕ) (d : Data) (gs : List Field) → AllByRecursion (λ g. is_name_of k g ≡ false) gs → is_needless gs (k, d) ≡ false
needless_apart k d [] all = refl
needless_apart k d (g ∷ gs) all =
    or_from (is_name_of k g && is_implicit g.implicit d) (is_needless gs (k, d)) (ap (λ b. b && is_implicit g.implicit d) all.0) (needless_apart k d gs all.1)

module _ (f : Field) (fs : List Field) (apart : AllByRecursion (λ g. field_text f ≡ field_text g → ⊥) fs) where
  -- a field that is not written
  skipped : (es : List (List ℕ × Data)) → must_stand f ≡ false → Fine fs es → Fine (f ∷ fs) es
  skipped es free fine =
      let others = others_known f fs (names es) apart fine.known in
      record {
        known = known_up f fs (names es) fine.known;
        whole = or_from (must_stand f && not (is_among (field_text f) (names es))) (lacks_field fs (names es))
            (ap (λ b. b && not (is_among (field_text f) (names es))) free) fine.whole;
        order = fall_later f fs (names es) others ∙ fine.order;
        once = fine.once;
        needed = needed_up f fs es others fine.needed;
      }

  -- one that is
  put_first : (d : Data) (es : List (List ℕ × Data)) → is_implicit f.implicit d ≡ false → Fine fs es → Fine (f ∷ fs) ((field_text f, d) ∷ es)
  put_first d es kept fine =
      let k = field_text f in
      let ks = names es in
      let others = others_known f fs ks apart fine.known in
      let self : is_name_of k f ≡ true = same_text_self k in
      let far = apart_names f k refl fs apart in
      record {
        known = or_from (not (list_any (is_name_of k) (f ∷ fs))) (has_stranger (f ∷ fs) ks)
            (not_true (list_any (is_name_of k) (f ∷ fs)) (or_left (is_name_of k f) (list_any (is_name_of k) fs) self)) (known_up f fs ks fine.known);
        whole = or_from (must_stand f && not (is_among k (k ∷ ks))) (lacks_field fs (k ∷ ks))
            (and_false (must_stand f) (not (is_among k (k ∷ ks))) (not_true (is_among k (k ∷ ks)) (or_left (same_text k k) (is_among k ks) self)))
            (whole_front fs k ks far ∙ fine.whole);
        order = or_from (list_any (λ m. nat_lt m (place_of (f ∷ fs) k)) (map (place_of (f ∷ fs)) ks)) (is_out_of_order (f ∷ fs) ks)
            (ap (λ b. list_any (λ m. nat_lt m (cond b zero (suc (place_of fs k)))) (map (place_of (f ∷ fs)) ks)) self ∙ below_zero (map (place_of (f ∷ fs)) ks))
            (fall_later f fs ks others ∙ fine.order);
        once = or_from (is_among k ks) (has_twice ks) (others_among f ks others) fine.once;
        needed = or_from (is_needless (f ∷ fs) (k, d)) (writes_implicit (f ∷ fs) es)
            (or_from (is_name_of k f && is_implicit f.implicit d) (is_needless fs (k, d)) (and_false (is_name_of k f) (is_implicit f.implicit d) kept) (needless_apart k d fs far))
            (needed_up f fs es others fine.needed);
      }

  free_optional : f.optional ≡ true → must_stand f ≡ false
  free_optional e = ap (λ b. not b && is_none f.implicit) e

  free_implicit : (o : Option Scalar) (d : Data) → f.implicit ≡ o → is_implicit o d ≡ true → must_stand f ≡ false
  free_implicit None d is e = absurd cc
  free_implicit (Some s) d is e = and_false (not f.optional) (is_none f.implicit) (ap is_none is)

  added : (o : Option Data) (es : List (List ℕ × Data)) → (o ≡ None → f.optional ≡ true) → Fine fs es → Fine (f ∷ fs) (written f o ++ es)
  added None es absent fine = skipped es (free_optional (absent refl)) fine
  added (Some d) es absent fine = by (is_implicit f.implicit d) refl where
    by : (b : Bool) → is_implicit f.implicit d ≡ b → Fine (f ∷ fs) (cond b [] ((field_text f, d) ∷ []) ++ es)
    by true is = skipped es (free_implicit f.implicit d refl is) fine
    by false is = put_first d es is fine

pub fine_of : (fs : List Field) (os : List (Option Data)) (es : List (List ℕ × Data)) → AreNamesApart fs → field_entries fs os ≡ Some es → Fine fs es
fine_of [] [] es apart e = subst (Fine []) (same_Some [] es e) (record { known = refl; whole = refl; order = refl; once = refl; needed = refl })
fine_of [] (o ∷ os) es apart e = absurd (none-some es e)
fine_of (f ∷ fs) [] es apart e = absurd (none-some es e)
fine_of (f ∷ fs) (o ∷ os) es apart e =
    let x = field_from f fs o os es e in
    subst (Fine (f ∷ fs)) (sym x.is) (added f fs apart.0 o x.rest x.absent (fine_of fs os x.rest apart.1 x.later))
