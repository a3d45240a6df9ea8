-- A map with rising keys is that of some fields exactly where no cause of a struct as map holds of it.
use Rattle.std.proofs.Common.{◌≡◌, ℕ, List, [], ◌∷◌, ◌++◌, Bool, true, false, cond, ◌||◌, ◌&&◌, not, Option, Some, None, option_map, refl, sym, ◌∙◌, ap}
use Rattle.std.specs.Prelude.{is_some}
use Rattle.std.specs.List.{list_any, AllByRecursion}
use Rattle.std.specs.Cmp.Lexicographic.{same_text as text_same, other_text}
use Rattle.std.specs.Ordering.{match_ordering}
use Rattle.std.specs.declared.cmp.Ordering.{Ordering}
use Rattle.std.specs.declared.cmp.Ordering.TheVariants.{Less, Equal, Greater}
use Rattle.std.proofs.lemmas.Option.{same_Some, none-some}
use Rattle.std.proofs.lemmas.Bool.{or_parts, or_from}
use Rattle.ild_data.specs.Data.{Data}
use Rattle.ild_data.specs.Key.{key_cmp, same_text, value_at, put, Rises}
use Rattle.ild_schema.specs.declared.def.Field.{Field}
use Rattle.ild_typed.specs.Fields.{is_implicit, entries_of, field_entries}
use Rattle.ild_schema.specs.Marks.{field_text}
use Rattle.ild_typed.specs.Strings.{in_key_order}
use Rattle.ild_typed.specs.Named.{names, is_among, has_twice}
use Rattle.ild_typed.specs.StructWhy.{is_name_of, has_stranger, must_stand, lacks_field, is_needless, writes_implicit}
use Rattle.ild_typed.proofs.Entries.{value_sorted, same_text_self}
use Rattle.ild_typed.proofs.Rising.{rises_sorted, below_none, rising_same}
use Rattle.ild_typed.proofs.Cleans.{not_false, or_rest, never, none_pass, pass_none}
use Rattle.ild_typed.proofs.CleanFields.{Fine, FieldsFor, absent_field, and_true_false}

-- ---- what holds of pairs holds of them in the key order

module _ (P : List ℕ × Data → Type 0) where
  pub all_put : (k : List ℕ) (v : Data) (ms : List (List ℕ × Data)) → P (k, v) → AllByRecursion P ms → AllByRecursion P (put k v ms)
  all_put k v [] p all = (p, tt)
  all_put k v (m ∷ ms) p all = by (key_cmp k m.0) (all_put k v ms p all.1) where
    by : (o : Ordering) → AllByRecursion P (put k v ms) → AllByRecursion P (match_ordering o ((k, v) ∷ m ∷ ms) ((k, v) ∷ ms) (m ∷ put k v ms))
    by Less rest = (p, all)
    by Equal rest = (p, all.1)
    by Greater rest = (all.0, rest)

  all_sorted : (ps : List (List ℕ × Data)) → AllByRecursion P ps → AllByRecursion P (in_key_order ps)
  all_sorted [] all = tt
  all_sorted (p ∷ ps) all = all_put p.0 p.1 (in_key_order ps) all.0 (all_sorted ps all.1)

keys_pass : (p : List ℕ → Bool) (es : List (List ℕ × Data)) → list_any p (names es) ≡ false → AllByRecursion (λ (e : List ℕ × Data). p e.0 ≡ false) es
keys_pass p [] h = tt
keys_pass p (e ∷ es) h = let x = or_parts (p e.0) (list_any p (names es)) h in (x.0, keys_pass p es x.1)

pass_keys : (p : List ℕ → Bool) (es : List (List ℕ × Data)) → AllByRecursion (λ (e : List ℕ × Data). p e.0 ≡ false) es → list_any p (names es) ≡ false
pass_keys p [] all = refl
pass_keys p (e ∷ es) all = or_from (p e.0) (list_any p (names es)) all.0 (pass_keys p es all.1)

-- a name is among those of pairs where a look-up finds it
pub among_value : (k : List ℕ) (es : List (List ℕ × Data)) → is_among k (names es) ≡ is_some (value_at k es)
among_value k [] = refl
among_value k (e ∷ es) = by (same_text k e.0) (among_value k es) where
  by : (b : Bool) → is_among k (names es) ≡ is_some (value_at k es) → (b || is_among k (names es)) ≡ is_some (cond b (Some e.1) (value_at k es))
  by true rest = refl
  by false rest = rest

pub rises_once : (ms : List (List ℕ × Data)) → Rises ms → has_twice (names ms) ≡ false
rises_once [] up = refl
rises_once (m ∷ ms) up = or_from (is_among m.0 (names ms)) (has_twice (names ms)) (among_value m.0 ms ∙ ap is_some (below_none m.0 ms up.0 up.1)) (rises_once ms up.1)

lacks_same : (fs : List Field) (es qs : List (List ℕ × Data)) → ((k : List ℕ) → value_at k es ≡ value_at k qs) → lacks_field fs (names es) ≡ lacks_field fs (names qs)
lacks_same [] es qs same = refl
lacks_same (f ∷ fs) es qs same =
    let among : is_among (field_text f) (names es) ≡ is_among (field_text f) (names qs)
    = among_value (field_text f) es ∙ ap is_some (same (field_text f)) ∙ sym (among_value (field_text f) qs) in
    ap (λ b. (must_stand f && not b) || lacks_field fs (names es)) among
    ∙ ap (λ b. (must_stand f && not (is_among (field_text f) (names qs))) || b) (lacks_same fs es qs same)

-- what is asked of a map
pub record FineMap (fs : List Field) (ms : List (List ℕ × Data)) : Type 0 where
  pub known : has_stranger fs (names ms) ≡ false
  pub whole : lacks_field fs (names ms) ≡ false
  pub once : has_twice (names ms) ≡ false
  pub needed : writes_implicit fs ms ≡ false

pub map_fine : (fs : List Field) (es : List (List ℕ × Data)) → Fine fs es → FineMap fs (in_key_order es)
map_fine fs es fine =
    let p : List ℕ → Bool = λ k. not (list_any (is_name_of k) fs) in
    record {
      known = pass_keys p (in_key_order es) (all_sorted (λ e. p e.0 ≡ false) es (keys_pass p es fine.known));
      whole = lacks_same fs (in_key_order es) es (λ k. value_sorted k es) ∙ fine.whole;
      once = rises_once (in_key_order es) (rises_sorted es);
      needed = pass_none (is_needless fs) (in_key_order es) (all_sorted (λ e. is_needless fs e ≡ false) es (none_pass (is_needless fs) es fine.needed));
    }

-- ---- the fields of a map by their names

abbrev one_entry : List ℕ → Option Data → List (List ℕ × Data)
one_entry k None = []
one_entry k (Some d) = (k, d) ∷ []

abbrev looked : List Field → List (List ℕ × Data) → List (List ℕ × Data)
looked [] ms = []
looked (f ∷ fs) ms = one_entry (field_text f) (value_at (field_text f) ms) ++ looked fs ms

nothing_else : (b : Bool) (o : Option Data) → o ≡ None → cond b o None ≡ None
nothing_else true o e = e
nothing_else false o e = refl

looked_at : (q : List ℕ) (fs : List Field) (ms : List (List ℕ × Data)) → value_at q (looked fs ms) ≡ cond (list_any (is_name_of q) fs) (value_at q ms) None
looked_at q [] ms = refl
looked_at q (f ∷ fs) ms = by (value_at (field_text f) ms) refl (is_name_of q f) refl (looked_at q fs ms) where
  by : (o : Option Data) → value_at (field_text f) ms ≡ o → (b : Bool) → is_name_of q f ≡ b
      → value_at q (looked fs ms) ≡ cond (list_any (is_name_of q) fs) (value_at q ms) None
      → value_at q (one_entry (field_text f) o ++ looked fs ms) ≡ cond (b || list_any (is_name_of q) fs) (value_at q ms) None
  by None is true name rest =
      let none : value_at q ms ≡ None = ap (λ k. value_at k ms) (sym (text_same (field_text f) q (sym name))) ∙ is in
      rest ∙ nothing_else (list_any (is_name_of q) fs) (value_at q ms) none ∙ sym none
  by None is false name rest = rest
  by (Some d) is true name rest =
      let same : field_text f ≡ q = text_same (field_text f) q (sym name) in
      ap (λ k. cond (same_text q k) (Some d) (value_at q (looked fs ms))) same
      ∙ ap (λ b. cond b (Some d) (value_at q (looked fs ms))) (same_text_self q)
      ∙ sym is ∙ ap (λ k. value_at k ms) same
  by (Some d) is false name rest = other (same_text q (field_text f)) refl where
    other : (c : Bool) → same_text q (field_text f) ≡ c → cond c (Some d) (value_at q (looked fs ms)) ≡ cond (list_any (is_name_of q) fs) (value_at q ms) None
    other true h = absurd (other_text (field_text f) q (sym name) (sym (text_same q (field_text f) (sym h))))
    other false h = rest

-- a name that is found is that of a field
pub known_name : (q : List ℕ) (fs : List Field) (ms : List (List ℕ × Data)) → has_stranger fs (names ms) ≡ false → is_among q (names ms) ≡ true → list_any (is_name_of q) fs ≡ true
known_name q fs [] h k = absurd cc
known_name q fs (m ∷ ms) h k =
    let x = or_parts (not (list_any (is_name_of m.0) fs)) (has_stranger fs (names ms)) h in
    by (same_text q m.0) refl x.0 (λ is. known_name q fs ms x.1 (or_rest (same_text q m.0) (is_among q (names ms)) k is))
  where
    by : (b : Bool) → same_text q m.0 ≡ b → not (list_any (is_name_of m.0) fs) ≡ false → (same_text q m.0 ≡ false → list_any (is_name_of q) fs ≡ true) → list_any (is_name_of q) fs ≡ true
    by true is here more = ap (λ k. list_any (is_name_of k) fs) (text_same q m.0 (sym is)) ∙ not_false (list_any (is_name_of m.0) fs) here
    by false is here more = more is

pub looked_same : (fs : List Field) (ms : List (List ℕ × Data)) → has_stranger fs (names ms) ≡ false → (q : List ℕ) → value_at q (looked fs ms) ≡ value_at q ms
looked_same fs ms known q = looked_at q fs ms ∙ by (list_any (is_name_of q) fs) refl (value_at q ms) refl where
  by : (b : Bool) → list_any (is_name_of q) fs ≡ b → (o : Option Data) → value_at q ms ≡ o → cond b o None ≡ o
  by true is o there = refl
  by false is None there = refl
  by false is (Some d) there =
      let among : is_among q (names ms) ≡ true = among_value q ms ∙ ap is_some there in
      absurd (never (sym (known_name q fs ms known among) ∙ is))

-- an implicit value that is found is needless
kept_at : (f : Field) (fs : List Field) (ms : List (List ℕ × Data)) (d : Data) → writes_implicit (f ∷ fs) ms ≡ false → value_at (field_text f) ms ≡ Some d → is_implicit f.implicit d ≡ false
kept_at f fs [] d h there = absurd (none-some d there)
kept_at f fs (m ∷ ms) d h there =
    let x = or_parts (is_needless (f ∷ fs) m) (writes_implicit (f ∷ fs) ms) h in
    let y = or_parts (is_name_of m.0 f && is_implicit f.implicit m.1) (is_needless fs m) x.0 in
    by (same_text (field_text f) m.0) refl y.0 there (kept_at f fs ms d x.1)
  where
    by : (b : Bool) → same_text (field_text f) m.0 ≡ b → (is_name_of m.0 f && is_implicit f.implicit m.1) ≡ false
        → cond b (Some m.1) (value_at (field_text f) ms) ≡ Some d → (value_at (field_text f) ms ≡ Some d → is_implicit f.implicit d ≡ false) → is_implicit f.implicit d ≡ false
    by true is first e more = ap (is_implicit f.implicit) (sym (same_Some m.1 d e)) ∙ ap (λ b. b && is_implicit f.implicit m.1) (sym is) ∙ first
    by false is first e more = more e

needed_rest : (f : Field) (fs : List Field) (ms : List (List ℕ × Data)) → writes_implicit (f ∷ fs) ms ≡ false → writes_implicit fs ms ≡ false
needed_rest f fs [] h = refl
needed_rest f fs (m ∷ ms) h =
    let x = or_parts (is_needless (f ∷ fs) m) (writes_implicit (f ∷ fs) ms) h in
    let y = or_parts (is_name_of m.0 f && is_implicit f.implicit m.1) (is_needless fs m) x.0 in
    or_from (is_needless fs m) (writes_implicit fs ms) y.1 (needed_rest f fs ms x.1)

looked_for : (fs : List Field) (ms : List (List ℕ × Data)) → lacks_field fs (names ms) ≡ false → writes_implicit fs ms ≡ false → FieldsFor fs (looked fs ms)
looked_for [] ms whole needed = record { fields = []; there = refl }
looked_for (f ∷ fs) ms whole needed =
    let w = or_parts (must_stand f && not (is_among (field_text f) (names ms))) (lacks_field fs (names ms)) whole in
    by (value_at (field_text f) ms) refl w.0 (looked_for fs ms w.1 (needed_rest f fs ms needed))
  where
    by : (o : Option Data) → value_at (field_text f) ms ≡ o → (must_stand f && not (is_among (field_text f) (names ms))) ≡ false
        → FieldsFor fs (looked fs ms) → FieldsFor (f ∷ fs) (one_entry (field_text f) o ++ looked fs ms)
    by None is free x =
        absent_field f fs (looked fs ms)
        (and_true_false (must_stand f) (not (is_among (field_text f) (names ms))) free (ap not (among_value (field_text f) ms ∙ ap is_some is))) x
    by (Some d) is free x = record {
      fields = Some d ∷ x.fields;
      there = ap (option_map (λ (qs : List (List ℕ × Data)). entries_of f d ++ qs)) x.there
          ∙ ap (λ b. Some (cond b [] ((field_text f, d) ∷ []) ++ looked fs ms)) (kept_at f fs ms d needed is);
    }

pub record MapFor (fs : List Field) (ms : List (List ℕ × Data)) : Type 0 where
  pub fields : List (Option Data)
  pub entries : List (List ℕ × Data)
  pub there : field_entries fs fields ≡ Some entries
  pub is : in_key_order entries ≡ ms

pub map_for : (fs : List Field) (ms : List (List ℕ × Data)) → Rises ms → FineMap fs ms → MapFor fs ms
map_for fs ms up fine =
    let x = looked_for fs ms fine.whole fine.needed in
    record {
      fields = x.fields;
      entries = looked fs ms;
      there = x.there;
      is = rising_same (in_key_order (looked fs ms)) ms (rises_sorted (looked fs ms)) up (λ q. value_sorted q (looked fs ms) ∙ looked_same fs ms fine.known q);
    }
