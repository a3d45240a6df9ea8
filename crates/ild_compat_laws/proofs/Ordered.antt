-- Fields that stand in the same order in another struct, with others between them or behind them.
use Rattle.std.proofs.Common.{◌≡◌, ℕ, suc, ◌+◌, ◌-◌, ◌≤◌, inl, inr, Bool, true, false, cond, ◌&&◌, List, [], ◌∷◌, ◌++◌, map, length, Option, Some, None, refl, sym, ap, ◌∙◌, arith}
use Rattle.std.specs.Prelude.{bytes_eq, nat_le, slice_get, option_map, option_and_then}
use Rattle.std.specs.List.{AllByRecursion}
use Rattle.std.specs.Option.{option_map_or}
use Rattle.std.proofs.lemmas.Bool.{false≢true, cases_eq, eqb-true, leb-true, le-leb}
use Rattle.std.proofs.lemmas.Option.{same_Some, none-some}
use Rattle.std.proofs.lemmas.Slice.Eq.{bytes_eq-Decides}
use Rattle.ild_data.specs.Data.{Data}
use Rattle.ild_schema.specs.declared.def.Field.{Field}
use Rattle.ild_schema.specs.Apart.{AreApart}
use Rattle.ild_schema.specs.Marks.{field_text}
use Rattle.ild_typed.specs.Fields.{is_implicit, entries_of, field_entries, are_absent, tuple_items, all_items}
use Rattle.ild_typed.proofs.Basics.{map_from, if_from}
use Rattle.ild_compat.specs.Fields.{field_place, field_named, is_place, stand_from, rise_from}
use Rattle.ild_compat_laws.specs.inside.Carried.{IsIn}
use Rattle.ild_compat_laws.proofs.Agreeing.{found_at, texts_same, and_first, and_second, or_there}
use Rattle.ild_compat_laws.proofs.Picking.{pick, gathered, all_by, own_place, in_place}

-- as many as fields
abbrev pub Even : List Field → List (Option Data) → Type 0
Even [] [] = Unit {0}
Even [] (x ∷ xs) = ⊥
Even (f ∷ fs) [] = ⊥
Even (f ∷ fs) (x ∷ xs) = Even fs xs

abbrev pub left_out : Field → Data → Bool
left_out f d = is_implicit f.implicit d

-- ---- the entries of fields

pub entries_gathered : (fs : List Field) (xs : List (Option Data)) (es : List (List ℕ × Data)) → field_entries fs xs ≡ Some es → gathered field_text left_out fs xs ≡ es
entries_gathered [] [] es e = same_Some [] es e
entries_gathered [] (x ∷ xs) es e = absurd (none-some es e)
entries_gathered (f ∷ fs) [] es e = absurd (none-some es e)
entries_gathered (f ∷ fs) (Some d ∷ xs) es e =
    let m = map_from {B = List (List ℕ × Data)} (λ rest. entries_of f d ++ rest) (field_entries fs xs) es e in
    ap (λ rest. entries_of f d ++ rest) (entries_gathered fs xs m.item m.there) ∙ same_Some (entries_of f d ++ m.item) es m.made
entries_gathered (f ∷ fs) (None ∷ xs) es e = let r = if_from f.optional (field_entries fs xs) es e in entries_gathered fs xs es r.1

pub entries_even : (fs : List Field) (xs : List (Option Data)) (es : List (List ℕ × Data)) → field_entries fs xs ≡ Some es → Even fs xs
entries_even [] [] es e = tt
entries_even [] (x ∷ xs) es e = absurd (none-some es e)
entries_even (f ∷ fs) [] es e = absurd (none-some es e)
entries_even (f ∷ fs) (Some d ∷ xs) es e = let m = map_from {B = List (List ℕ × Data)} (λ rest. entries_of f d ++ rest) (field_entries fs xs) es e in entries_even fs xs m.item m.there
entries_even (f ∷ fs) (None ∷ xs) es e = let r = if_from f.optional (field_entries fs xs) es e in entries_even fs xs es r.1

pub gathered_entries : (P : Field → Option Data) (gs : List Field) → AllByRecursion (λ g. P g ≡ None → g.optional ≡ true) gs → field_entries gs (map P gs) ≡ Some (gathered field_text left_out gs (map P gs))
gathered_entries P [] h = refl
gathered_entries P (g ∷ gs) h = by (P g) (gathered_entries P gs h.1) h.0
  where
    by : (o : Option Data) → field_entries gs (map P gs) ≡ Some (gathered field_text left_out gs (map P gs)) → (o ≡ None → g.optional ≡ true) → field_entries (g ∷ gs) (o ∷ map P gs) ≡ Some (gathered field_text left_out (g ∷ gs) (o ∷ map P gs))
    by None rest free = ap (λ b. cond b (field_entries gs (map P gs)) None) (free refl) ∙ rest
    by (Some d) rest free = ap (option_map (λ es. entries_of g d ++ es)) rest

-- ---- picks

pick_none : (q : List ℕ) (fs : List Field) (xs : List (Option Data)) → ((f : Field) → IsIn f fs → q ≡ f.name → ⊥) → pick q fs xs ≡ None
pick_none q [] xs h = refl
pick_none q (f ∷ fs) [] h = refl
pick_none q (f ∷ fs) (x ∷ xs) h = by (bytes_eq q f.name) refl (pick_none q fs xs (λ g i. h g (inr i)))
  where
    by : (b : Bool) → bytes_eq q f.name ≡ b → pick q fs xs ≡ None → cond b x (pick q fs xs) ≡ None
    by true is rest = absurd (h f (inl refl) (texts_same q f.name is))
    by false is rest = rest

pick_here : (q : List ℕ) (f : Field) (fs : List Field) (x : Option Data) (xs : List (Option Data)) → q ≡ f.name → pick q (f ∷ fs) (x ∷ xs) ≡ x
pick_here q f fs x xs e = ap (λ b. cond b x (pick q fs xs)) ((bytes_eq-Decides q f.name).1 e)

pick_past : (q : List ℕ) (f : Field) (fs : List Field) (x : Option Data) (xs : List (Option Data)) → (q ≡ f.name → ⊥) → pick q (f ∷ fs) (x ∷ xs) ≡ pick q fs xs
pick_past q f fs x xs apart = by (bytes_eq q f.name) refl
  where
    by : (b : Bool) → bytes_eq q f.name ≡ b → cond b x (pick q fs xs) ≡ pick q fs xs
    by true is = absurd (apart (texts_same q f.name is))
    by false is = refl

-- ---- places

module _ (all : List Field) (apart : AreApart (λ f. f.name) all) where
  -- what is left of the fields from a place on
  abbrev pub Rest : ℕ → List Field → Type 0
  Rest n gs = (j : ℕ) → slice_get gs j ≡ slice_get all (n + j)

  rest_next : (n : ℕ) (g : Field) (gs : List Field) → Rest n (g ∷ gs) → Rest (suc n) gs
  rest_next n g gs s j = let e : n + suc j ≡ suc n + j = omega arith in s (suc j) ∙ ap (slice_get all) e

  rest_here : (n : ℕ) (g : Field) (gs : List Field) → Rest n (g ∷ gs) → slice_get all n ≡ Some g
  rest_here n g gs s = let e : n ≡ n + 0 = omega arith in ap (slice_get all) e ∙ sym (s 0)

  in_list : (gs : List Field) (g : Field) → IsIn g gs → (j : ℕ) × (slice_get gs j ≡ Some g)
  in_list [] g i = absurd i
  in_list (x ∷ xs) g (inl e) = (0, ap Some e)
  in_list (x ∷ xs) g (inr i) = let r = in_list xs g i in (suc r.0, r.1)

  -- those behind have other names
  behind_apart : (n : ℕ) (g : Field) (gs : List Field) (h : Field) → Rest n (g ∷ gs) → IsIn h gs → h.name ≡ g.name → ⊥
  behind_apart n g gs h s i e =
      let r = in_list gs h i in
      let there : slice_get all (suc n + r.0) ≡ Some h = sym (rest_next n g gs s r.0) ∙ r.1 in
      let same : suc n + r.0 ≡ n = apart (suc n + r.0) n h g there (rest_here n g gs s) e in
      absurd (omega (arith, same))

  past_end : (n i : ℕ) (q : List ℕ) → Rest n [] → n ≤ i → field_place q all ≡ Some i → ⊥
  past_end n i q s low e =
      let r = found_at (λ f. bytes_eq q f.name) all i e in
      let at : n + (i - n) ≡ i = omega (arith, low) in
      none-some r.item (s (i - n) ∙ ap (slice_get all) at ∙ r.there)

  place_name : (n : ℕ) (g : Field) (gs : List Field) (q : List ℕ) → Rest n (g ∷ gs) → field_place q all ≡ Some n → (q ≡ g.name) × (field_named q all ≡ Some g)
  place_name n g gs q s e =
      let r = found_at (λ f. bytes_eq q f.name) all n e in
      let same : r.item ≡ g = same_Some r.item g (sym r.there ∙ rest_here n g gs s) in
      (texts_same q r.item.name r.test ∙ ap (λ (f : Field). f.name) same, ap (option_and_then (λ i. slice_get all i)) e ∙ rest_here n g gs s)

  -- a field has its own place
  own : (n : ℕ) (g : Field) (gs : List Field) (q : List ℕ) → Rest n (g ∷ gs) → q ≡ g.name → field_place q all ≡ Some n
  own n g gs q s e =
      let here = rest_here n g gs s in
      let p = own_place all g q apart (in_place all n g here) e in
      p.first ∙ ap Some (apart p.at n g g p.there here refl)

  -- ---- in the same order

  rise_head : (n : ℕ) (f : Field) (fs : List Field) → rise_from all n (f ∷ fs) ≡ true → (i : ℕ) × (field_place f.name all ≡ Some i) × (n ≤ i) × (rise_from all (suc i) fs ≡ true)
  rise_head n f fs h =
      let r = or_there (λ i. nat_le n i && rise_from all (suc i) fs) (field_place f.name all) h in
      (r.0, r.1, leb-true n r.0 (and_first (nat_le n r.0) (rise_from all (suc r.0) fs) r.2), and_second (nat_le n r.0) (rise_from all (suc r.0) fs) r.2)

  rise_has : (n : ℕ) (fs : List Field) (f : Field) → rise_from all n fs ≡ true → IsIn f fs → (i : ℕ) × (field_place f.name all ≡ Some i) × (n ≤ i)
  rise_has n [] f h i = absurd i
  rise_has n (g ∷ fs) f h (inl e) = let r = rise_head n g fs h in (r.0, ap (λ (x : Field). field_place x.name all) (sym e) ∙ r.1, r.2)
  rise_has n (g ∷ fs) f h (inr i) = let r = rise_head n g fs h in let t = rise_has (suc r.0) fs f r.3 i in (t.0, t.1, omega (arith, r.2, t.2))

  and_true : (a b : Bool) → a ≡ true → b ≡ true → a && b ≡ true
  and_true true b h k = k
  and_true false b h k = absurd (false≢true h)

  rise_later : (n i : ℕ) (f : Field) (fs : List Field) → field_place f.name all ≡ Some i → suc n ≤ i → rise_from all (suc i) fs ≡ true → rise_from all (suc n) (f ∷ fs) ≡ true
  rise_later n i f fs e low h = ap (λ o. option_map_or (λ k. nat_le (suc n) k && rise_from all (suc k) fs) o false) e ∙ and_true (nat_le (suc n) i) (rise_from all (suc i) fs) (le-leb (suc n) i low) h

  module _ (P : Field → Option Data) where
    abbrev pub Same : List Field → List Field → List (Option Data) → Type 0
    Same gs fs xs = (g : Field) → IsIn g gs → P g ≡ pick g.name fs xs

    same_next : (n : ℕ) (g : Field) (gs : List Field) (f : Field) (fs : List Field) (x : Option Data) (xs : List (Option Data)) → Rest n (g ∷ gs) → f.name ≡ g.name → Same (g ∷ gs) (f ∷ fs) (x ∷ xs) → Same gs fs xs
    same_next n g gs f fs x xs s e same h i = same h (inr i) ∙ pick_past h.name f fs x xs (λ c. behind_apart n g gs h s i (c ∙ e))

    -- the same text in a block, and the same values left out
    abbrev pub Alike : List Field → Type 0
    Alike fs = (f : Field) → IsIn f fs → (g : Field) → field_named f.name all ≡ Some g → (field_text f ≡ field_text g) × ((d : Data) → left_out f d ≡ left_out g d)

    pub risen : (n : ℕ) (gs fs : List Field) (xs : List (Option Data)) → Rest n gs → rise_from all n fs ≡ true → Even fs xs → Same gs fs xs → Alike fs
        → gathered field_text left_out gs (map P gs) ≡ gathered field_text left_out fs xs
    risen n [] [] xs s r even same alike = refl
    risen n [] (f ∷ fs) xs s r even same alike = let h = rise_head n f fs r in absurd (past_end n h.0 f.name s h.2 h.1)
    risen n (g ∷ gs) [] xs s r even same alike =
        ap (λ o. gathered field_text left_out (g ∷ gs) (o ∷ map P gs)) (same g (inl refl)) ∙ risen (suc n) gs [] xs (rest_next n g gs s) refl even (λ h i. same h (inr i)) alike
    risen n (g ∷ gs) (f ∷ fs) [] s r even same alike = absurd even
    risen n (g ∷ gs) (f ∷ fs) (x ∷ xs) s r even same alike =
        let h = rise_head n f fs r in
        elim (cases_eq h.0 n) [
          | inl at ↦
              let here : field_place f.name all ≡ Some n = h.1 ∙ ap Some at in
              let m = place_name n g gs f.name s here in
              let later : rise_from all (suc n) fs ≡ true = ap (λ k. rise_from all (suc k) fs) (sym at) ∙ h.3 in
              let rest = risen (suc n) gs fs xs (rest_next n g gs s) later even (same_next n g gs f fs x xs s m.0 same) (λ k i. alike k (inr i)) in
              ap (λ o. gathered field_text left_out (g ∷ gs) (o ∷ map P gs)) (same g (inl refl) ∙ pick_here g.name f fs x xs (sym m.0)) ∙ head x rest (alike f (inl refl) g m.1)
          | inr other ↦
              let low : suc n ≤ h.0 = omega (arith, h.2, other) in
              let later : rise_from all (suc n) (f ∷ fs) ≡ true = rise_later n h.0 f fs h.1 low h.3 in
              ap (λ o. gathered field_text left_out (g ∷ gs) (o ∷ map P gs)) (same g (inl refl) ∙ pick_none g.name (f ∷ fs) (x ∷ xs) (λ k i e. apart_here k (rise_has (suc n) (f ∷ fs) k later i) (own n g gs k.name s (sym e))))
              ∙ risen (suc n) gs (f ∷ fs) (x ∷ xs) (rest_next n g gs s) later even (λ k i. same k (inr i)) alike
        ]
      where
        head : (x : Option Data) → gathered field_text left_out gs (map P gs) ≡ gathered field_text left_out fs xs → (field_text f ≡ field_text g) × ((d : Data) → left_out f d ≡ left_out g d)
            → gathered field_text left_out (g ∷ gs) (x ∷ map P gs) ≡ gathered field_text left_out (f ∷ fs) (x ∷ xs)
        head None rest a = rest
        head (Some d) rest a = λ i. cond (sym (a.1 d) i) [] ((sym a.0 i, d) ∷ []) ++ rest i

        apart_here : (k : Field) → (i : ℕ) × (field_place k.name all ≡ Some i) × (suc n ≤ i) → field_place k.name all ≡ Some n → ⊥
        apart_here k (i, e, low) here = let same_place : i ≡ n = same_Some i n (sym e ∙ here) in absurd (omega (arith, low, same_place))

    -- ---- one after another

    abbrev pub Lined : List Field → List Field → List (Option Data) → Type 0
    Lined gs [] xs = AllByRecursion (λ g. (P g ≡ None) × (g.optional ≡ true)) gs
    Lined [] (f ∷ fs) xs = ⊥
    Lined (g ∷ gs) (f ∷ fs) [] = ⊥
    Lined (g ∷ gs) (f ∷ fs) (x ∷ xs) = (P g ≡ x) × (f.optional ≡ true → g.optional ≡ true) × Lined gs fs xs

    place_is : (n : ℕ) (o : Option ℕ) → is_place n o ≡ true → o ≡ Some n
    place_is n None h = absurd (false≢true h)
    place_is n (Some i) h = ap Some (sym (eqb-true n i h))

    pub lined : (n : ℕ) (gs fs : List Field) (xs : List (Option Data)) → Rest n gs → stand_from all n fs ≡ true → Even fs xs → Same gs fs xs
        → ((f : Field) → IsIn f fs → (g : Field) → field_named f.name all ≡ Some g → f.optional ≡ true → g.optional ≡ true) → ((g : Field) → IsIn g gs → P g ≡ None → g.optional ≡ true) → Lined gs fs xs
    lined n gs [] xs s r even same free extra = all_by (λ g. (P g ≡ None) × (g.optional ≡ true)) gs (λ g i. (same g i, extra g i (same g i)))
    lined n [] (f ∷ fs) xs s r even same free extra = absurd (past_end n n f.name s (omega arith) (place_is n (field_place f.name all) (and_first (is_place n (field_place f.name all)) (stand_from all (suc n) fs) r)))
    lined n (g ∷ gs) (f ∷ fs) [] s r even same free extra = absurd even
    lined n (g ∷ gs) (f ∷ fs) (x ∷ xs) s r even same free extra =
        let here : field_place f.name all ≡ Some n = place_is n (field_place f.name all) (and_first (is_place n (field_place f.name all)) (stand_from all (suc n) fs) r) in
        let m = place_name n g gs f.name s here in (
          same g (inl refl) ∙ pick_here g.name f fs x xs (sym m.0),
          free f (inl refl) g m.1,
          lined (suc n) gs fs xs (rest_next n g gs s) (and_second (is_place n (field_place f.name all)) (stand_from all (suc n) fs) r) even (same_next n g gs f fs x xs s m.0 same) (λ k i. free k (inr i)) (λ k i. extra k (inr i)),
        )

    absent_rest : (gs : List Field) → AllByRecursion (λ g. (P g ≡ None) × (g.optional ≡ true)) gs → are_absent gs (map P gs) ≡ true
    absent_rest [] h = refl
    absent_rest (g ∷ gs) h = ap (λ o. are_absent (g ∷ gs) (o ∷ map P gs)) h.0.0 ∙ and_true g.optional (are_absent gs (map P gs)) h.0.1 (absent_rest gs h.1)

    absent_lined : (gs fs : List Field) (xs : List (Option Data)) → Lined gs fs xs → are_absent fs xs ≡ true → are_absent gs (map P gs) ≡ true
    absent_lined gs [] xs l h = absent_rest gs l
    absent_lined [] (f ∷ fs) xs l h = absurd l
    absent_lined (g ∷ gs) (f ∷ fs) [] l h = absurd l
    absent_lined (g ∷ gs) (f ∷ fs) (None ∷ xs) l h =
        ap (λ o. are_absent (g ∷ gs) (o ∷ map P gs)) l.0
        ∙ and_true g.optional (are_absent gs (map P gs)) (l.1 (and_first f.optional (are_absent fs xs) h)) (absent_lined gs fs xs l.2 (and_second f.optional (are_absent fs xs) h))
    absent_lined (g ∷ gs) (f ∷ fs) (Some d ∷ xs) l h = absurd (false≢true h)

    pub tuple_lined : (gs fs : List Field) (xs : List (Option Data)) (ts : List Data) → Lined gs fs xs → tuple_items fs xs ≡ Some ts → tuple_items gs (map P gs) ≡ Some ts
    tuple_lined [] [] [] ts l e = e
    tuple_lined gs [] (x ∷ xs) ts l e = absurd (none-some ts e)
    tuple_lined (g ∷ gs) [] [] ts l e = ap (λ o. tuple_items (g ∷ gs) (o ∷ map P gs)) l.0.0 ∙ ap (λ b. cond b (Some []) None) (and_true g.optional (are_absent gs (map P gs)) l.0.1 (absent_rest gs l.1)) ∙ e
    tuple_lined [] (f ∷ fs) xs ts l e = absurd l
    tuple_lined (g ∷ gs) (f ∷ fs) [] ts l e = absurd l
    tuple_lined (g ∷ gs) (f ∷ fs) (Some d ∷ xs) ts l e =
        let m = map_from {B = List Data} (λ ds. d ∷ ds) (tuple_items fs xs) ts e in
        ap (λ o. tuple_items (g ∷ gs) (o ∷ map P gs)) l.0 ∙ ap (option_map (λ ds. d ∷ ds)) (tuple_lined gs fs xs m.item l.2 m.there) ∙ m.made
    tuple_lined (g ∷ gs) (f ∷ fs) (None ∷ xs) ts l e =
        let r = if_from (are_absent (f ∷ fs) (None ∷ xs)) (Some []) ts e in
        ap (λ o. tuple_items (g ∷ gs) (o ∷ map P gs)) l.0
        ∙ ap (λ b. cond b (Some []) None) (sym (ap (λ o. are_absent (g ∷ gs) (o ∷ map P gs)) l.0) ∙ absent_lined (g ∷ gs) (f ∷ fs) (None ∷ xs) l r.0) ∙ r.1

    pub join_lined : (gs fs : List Field) (xs : List (Option Data)) (ts : List Data) → Lined gs fs xs → length gs ≡ length fs → all_items fs xs ≡ Some ts → all_items gs (map P gs) ≡ Some ts
    join_lined [] [] [] ts l n e = e
    join_lined gs [] (x ∷ xs) ts l n e = absurd (none-some ts e)
    join_lined (g ∷ gs) [] [] ts l n e = absurd (omega (arith, n))
    join_lined [] (f ∷ fs) xs ts l n e = absurd l
    join_lined (g ∷ gs) (f ∷ fs) [] ts l n e = absurd l
    join_lined (g ∷ gs) (f ∷ fs) (Some d ∷ xs) ts l n e =
        let m = map_from {B = List Data} (λ ds. d ∷ ds) (all_items fs xs) ts e in
        ap (λ o. all_items (g ∷ gs) (o ∷ map P gs)) l.0 ∙ ap (option_map (λ ds. d ∷ ds)) (join_lined gs fs xs m.item l.2 (omega (arith, n)) m.there) ∙ m.made
    join_lined (g ∷ gs) (f ∷ fs) (None ∷ xs) ts l n e = absurd (none-some ts e)
