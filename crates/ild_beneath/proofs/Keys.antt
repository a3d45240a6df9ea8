-- Entries with what stands in their values, in any order of keys.
use Rattle.std.proofs.Common.{◌≡◌, ℕ, Bool, true, false, cond, not, is_some, List, [], ◌∷◌, flat_map, Option, Some, None, refl, sym, ap, ◌∙◌, subst}
use Rattle.std.specs.List.{AllByRecursion, filter}
use Rattle.std.specs.FinMap.{find}
use Rattle.std.specs.Ordering.{is_eq}
use Rattle.std.specs.Cmp.Lexicographic.{same_text as text_same}
use Rattle.std.proofs.lemmas.Bool.{and_parts}
use Rattle.std.proofs.lemmas.Option.{none-some}
use Rattle.ild_data.specs.ByteOrder.{bytewise, no_key_twice}
use Rattle.ild_data.specs.Data.{Data}
use Rattle.ild_data.specs.Key.{same_text}
use Rattle.ild_hamt_trie.proofs.Parts.{key_itself}
use Rattle.ild_schema.specs.declared.number.Slot.{Slot}
use Rattle.ild_schema.specs.declared.number.TypeNo.{TypeNo}
use Rattle.ild_schema.specs.declared.row.Row.{Row}
use Rattle.ild_open_held.specs.Splits.{entry_parts}
use Rattle.ild_typed.proofs.Entries.{same_text_self}
use Rattle.ild_typed_places.specs.Places.{Places, nowhere, joined, places_over, at_key}
use Rattle.ild_beneath.specs.Children.{Child}
use Rattle.ild_beneath.proofs.Nodes.{Of, both, joined_none}

none_is : {A : Type 0} (o : Option A) → not (is_some o) ≡ true → o ≡ None
none_is None e = refl
none_is (Some x) e = absurd cc

-- a key that is not found is none of theirs
abbrev Apart : List ℕ → List (List ℕ × Data) → Type 0
Apart k es = AllByRecursion (λ e. k ≡ e.0 → ⊥) es

apart : (k : List ℕ) (es : List (List ℕ × Data)) → find bytewise k es ≡ None → Apart k es
apart k [] e = tt
apart k (x ∷ es) e = by (is_eq (bytewise k x.0)) refl e (λ rest. apart k es rest) where
  by : (b : Bool) → b ≡ is_eq (bytewise k x.0) → cond b (Some x.1) (find bytewise k es) ≡ None → (find bytewise k es ≡ None → Apart k es) → (k ≡ x.0 → ⊥) × Apart k es
  by true is e more = absurd (none-some x.1 (sym e))
  by false is e more = (λ same. (let t : false ≡ true = is ∙ ap (λ q. is_eq (bytewise k q)) (sym same) ∙ key_itself k in cc), more e)

module _ (rows : List Row) (ty : TypeNo) where
  -- the places in the values of the keys, in one order
  abbrev pub Zipped : (Data → List Child) → List (List ℕ × Data) → List (List ℕ × Places) → Type 0
  Zipped f [] [] = Unit {0}
  Zipped f [] (p ∷ ps) = ⊥
  Zipped f (e ∷ es) [] = ⊥
  Zipped f (e ∷ es) (p ∷ ps) = (e.0 ≡ p.0) × Of rows ty (f e.1) p.1 × Zipped f es ps

  pub zipped_over : (f : Slot → Data → List Child) (u : Slot) (es : List (List ℕ × Data)) (ps : List (List ℕ × Places)) → Zipped (f u) es ps
      → Of rows ty (flat_map (λ p. f p.0 p.1) (entry_parts u es)) (places_over (λ p. p.1) ps)
  zipped_over f u [] [] z = tt
  zipped_over f u [] (p ∷ ps) z = absurd z
  zipped_over f u (e ∷ es) [] z = absurd z
  zipped_over f u (e ∷ es) (p ∷ ps) z = both rows ty (f u e.1) (flat_map (λ p. f p.0 p.1) (entry_parts u es)) p.1 (places_over (λ p. p.1) ps) z.1 (zipped_over f u es ps z.2)

  others_none : (f : Data → List Child) (k : List ℕ) (es : List (List ℕ × Data)) (ps : List (List ℕ × Places)) → Zipped f es ps → Apart k es → at_key ps k ≡ nowhere
  others_none f k [] [] z a = refl
  others_none f k [] (p ∷ ps) z a = absurd z
  others_none f k (e ∷ es) [] z a = absurd z
  others_none f k (e ∷ es) (p ∷ ps) z a = by (same_text k p.0) refl (others_none f k es ps z.2 a.1) where
    by : (b : Bool) → b ≡ same_text k p.0 → at_key ps k ≡ nowhere → places_over (λ q. q.1) (cond b (p ∷ filter (λ q. same_text k q.0) ps) (filter (λ q. same_text k q.0) ps)) ≡ nowhere
    by true is rest = absurd (a.0 (text_same k p.0 is ∙ sym z.0))
    by false is rest = rest

  past_key : (p : List ℕ × Places) (ps : List (List ℕ × Places)) (k : List ℕ) → (k ≡ p.0 → ⊥) → at_key (p ∷ ps) k ≡ at_key ps k
  past_key p ps k away = by (same_text k p.0) refl where
    by : (b : Bool) → b ≡ same_text k p.0 → places_over (λ q. q.1) (cond b (p ∷ filter (λ q. same_text k q.0) ps) (filter (λ q. same_text k q.0) ps)) ≡ at_key ps k
    by true is = absurd (away (text_same k p.0 is))
    by false is = refl

  at_first : (p : List ℕ × Places) (ps : List (List ℕ × Places)) (k : List ℕ) → k ≡ p.0 → at_key ps k ≡ nowhere → at_key (p ∷ ps) k ≡ p.1
  at_first p ps k same none =
      let fs : List (List ℕ × Places) = filter (λ q. same_text k q.0) ps in
      ap (λ b. places_over (λ q. q.1) (cond b (p ∷ fs) fs)) (ap (same_text k) (sym same) ∙ same_text_self k) ∙ ap (joined p.1) none ∙ joined_none p.1

  more_keys : (f : Data → List Child) (p : List ℕ × Places) (ps : List (List ℕ × Places)) (es : List (List ℕ × Data)) → Apart p.0 es
      → AllByRecursion (λ e. Of rows ty (f e.1) (at_key ps e.0)) es → AllByRecursion (λ e. Of rows ty (f e.1) (at_key (p ∷ ps) e.0)) es
  more_keys f p ps [] a all = tt
  more_keys f p ps (e ∷ es) a all = (subst (λ q. Of rows ty (f e.1) q) (sym (past_key p ps e.0 (λ same. a.0 (sym same)))) all.0, more_keys f p ps es a.1 all.1)

  -- so of each key, where none stands twice
  pub zipped_at : (f : Data → List Child) (es : List (List ℕ × Data)) (ps : List (List ℕ × Places)) → Zipped f es ps → no_key_twice es ≡ true
      → AllByRecursion (λ e. Of rows ty (f e.1) (at_key ps e.0)) es
  zipped_at f [] [] z one = tt
  zipped_at f [] (p ∷ ps) z one = absurd z
  zipped_at f (e ∷ es) [] z one = absurd z
  zipped_at f (e ∷ es) (p ∷ ps) z one =
      let parts = and_parts (not (is_some (find bytewise e.0 es))) (no_key_twice es) one in
      let away : Apart e.0 es = apart e.0 es (none_is (find bytewise e.0 es) parts.0) in (
        subst (λ q. Of rows ty (f e.1) q) (sym (at_first p ps e.0 z.0 (others_none f e.0 es ps z.2 away))) z.1,
        more_keys f p ps es (subst (λ k. Apart k es) z.0 away) (zipped_at f es ps z.2 parts.1),
      )
