-- Turns over places in the key order of a table, and a discriminant that is put among them.
use Rattle.std.proofs.Common.{◌≡◌, ⊎_elim, ℕ, zero, suc, ◌+◌, ◌<◌, ◌≤◌, List, [], ◌∷◌, ◌++◌, length, take, drop, get_or, map, Bool, true, false, cond, Option, Some, None, option_map, slice_get, refl, sym, ap, ◌∙◌, arith}
use Rattle.std.specs.Prelude.{not, option_and_then}
use Rattle.std.specs.List.{AllByRecursion, filter}
use Rattle.std.specs.Option.{option_map_or, unwrap_or}
use Rattle.std.specs.Ordering.{is_lt, match_ordering, ordering_reverse}
use Rattle.std.specs.declared.cmp.Ordering.{Ordering}
use Rattle.std.specs.declared.cmp.Ordering.TheVariants.{Less, Equal, Greater}
use Rattle.std.proofs.lemmas.List.{map-append, take-append-drop}
use Rattle.std.proofs.lemmas.List.Elements.{filter-append}
use Rattle.std.proofs.lemmas.Option.{slice_get-map}
use Rattle.ild_schema.proofs.Finding.{got_at}
use Rattle.ild_data.proofs.Gets.{drop_at, drop_past}
use Rattle.ild_data.proofs.AllOf.{all_at}
use Rattle.ild_data.specs.Key.{key_cmp, key_less, put, IsBelow, Rises}
use Rattle.ild_data.proofs.Rising.{key_cmp_total, key_exact}
use Rattle.ild_schema.specs.declared.def.Field.{Field}
use Rattle.ild_schema.specs.Clear.{AreNamesApart}
use Rattle.ild_schema.specs.Indexed.{InKeyOrder, text_at, under_texts}
use Rattle.ild_schema.specs.Marks.{field_text}
use Rattle.ild_schema.specs.Value.{Value}
use Rattle.ild_build.specs.LeftOut.{is_left_out}
use Rattle.ild_build.specs.PartAt.{field_at}
use Rattle.ild_build_leaf.specs.Kept.{is_before, kept_at}
use Rattle.ild_build_pass.specs.inside.Places.{in_order, is_written, name_at, named, places_from, texts_of, written_of}
use Rattle.ild_build_pass.proofs.Keyed.{below_some, kept_is as kept_are, keyed}
use Rattle.ild_build_leaf.proofs.Turns.{kept_is, kept_none}
use Rattle.ild_build_leaf.proofs.Ordered.{less_is}

module _ (fs : List Field) (os : List (Option Value)) where
  -- ---- whether a field is written

  abbrev test : Option Field → Option Value → Bool
  test o p = option_map_or (λ (f : Field). option_map_or (λ v. not (is_left_out f.implicit v)) p false) o false

  pub no_field : (i : ℕ) → slice_get fs i ≡ None → is_written fs os i ≡ false
  no_field i none = ap (λ o. test o (field_at os i)) none

  no_value : (i : ℕ) (f : Field) → slice_get fs i ≡ Some f → field_at os i ≡ None → is_written fs os i ≡ false
  no_value i f at none = ap (λ o. test o (field_at os i)) at ∙ ap (test (Some f)) none

  left_or_not : (i : ℕ) (f : Field) (v : Value) (b : Bool) → slice_get fs i ≡ Some f → field_at os i ≡ Some v → is_left_out f.implicit v ≡ b → is_written fs os i ≡ not b
  left_or_not i f v b at there is = ap (λ o. test o (field_at os i)) at ∙ ap (test (Some f)) there ∙ ap not is

  pub not_kept : (i : ℕ) (f : Field) → slice_get fs i ≡ Some f → kept_at f os i ≡ None → is_written fs os i ≡ false
  not_kept i f at e = ⊎_elim (λ n. no_value i f at n) (λ x. left_or_not i f x.value true at x.there x.left) (kept_none f os i e)

  pub kept : (i : ℕ) (f : Field) (v : Value) → slice_get fs i ≡ Some f → kept_at f os i ≡ Some v → is_written fs os i ≡ true
  kept i f v at e = let x = kept_is f os i v e in left_or_not i f v false at x.there x.stays

  pub record Stands (i : ℕ) : Type 0 where
    pub field : Field
    pub value : Value
    pub at : slice_get fs i ≡ Some field
    pub there : field_at os i ≡ Some value

  pub stands : (i : ℕ) → is_written fs os i ≡ true → Stands i
  stands i is = by (slice_get fs i) refl (field_at os i) refl is
    where
      by : (o : Option Field) → slice_get fs i ≡ o → (p : Option Value) → field_at os i ≡ p → test o p ≡ true → Stands i
      by None at p there e = absurd cc
      by (Some f) at None there e = absurd cc
      by (Some f) at (Some v) there e = record { field = f; value = v; at = at; there = there }

  -- ---- turns

  turn : (ps : List ℕ) (i : ℕ) (b : Bool) → i < length ps → is_written fs os (get_or ps i 0) ≡ b → written_of fs os (drop i ps) ≡ cond b (get_or ps i 0 ∷ written_of fs os (drop (i + 1) ps)) (written_of fs os (drop (i + 1) ps))
  turn ps i b low is =
      ap (written_of fs os) (drop_at ps i (get_or ps i 0) (got_at ps i low))
      ∙ ap (λ c. cond c (get_or ps i 0 ∷ written_of fs os (drop (i + 1) ps)) (written_of fs os (drop (i + 1) ps))) is

  pub passes : (ps : List ℕ) (i : ℕ) → i < length ps → is_written fs os (get_or ps i 0) ≡ false → written_of fs os (drop i ps) ≡ written_of fs os (drop (i + 1) ps)
  passes ps i low is = turn ps i false low is

  pub takes : (ps : List ℕ) (i : ℕ) → i < length ps → is_written fs os (get_or ps i 0) ≡ true → written_of fs os (drop i ps) ≡ get_or ps i 0 ∷ written_of fs os (drop (i + 1) ps)
  takes ps i low is = turn ps i true low is

  pub none_left : (ps : List ℕ) (i : ℕ) → length ps ≤ i → written_of fs os (drop i ps) ≡ []
  none_left ps i h = ap (written_of fs os) (drop_past ps i h)

  -- ---- a key among the names

  put_between : (k : List ℕ) (n : ℕ) (xs ys : List (List ℕ × ℕ)) → AllByRecursion (λ p. key_cmp k p.0 ≡ Greater) xs → IsBelow k ys → put k n (xs ++ ys) ≡ xs ++ ((k, n) ∷ ys)
  put_between k n [] [] above below = refl
  put_between k n [] (y ∷ ys) above below = ap (λ o. match_ordering o ((k, n) ∷ y ∷ ys) ((k, n) ∷ ys) (y ∷ put k n ys)) below
  put_between k n (x ∷ xs) ys above below =
      ap (λ o. match_ordering o ((k, n) ∷ x ∷ (xs ++ ys)) ((k, n) ∷ (xs ++ ys)) (x ∷ put k n (xs ++ ys))) above.0 ∙ ap (λ zs. x ∷ zs) (put_between k n xs ys above.1 below)

  module _ (key : List ℕ) where
    greater : (n : ℕ) → is_written fs os n ≡ true → is_before fs key n ≡ true → key_cmp key (name_at fs key n) ≡ Greater
    greater n is before =
        let x = stands n is in
        let name = ap (λ o. option_map_or field_text o key) x.at in
        let less = less_is (key_cmp (field_text x.field) key) (sym (ap (λ o. option_map_or (λ (f : Field). key_less (field_text f) key) o true) x.at) ∙ before) in
        ap (key_cmp key) name ∙ key_cmp_total.antisymm key (field_text x.field) ∙ ap ordering_reverse less

    front : (ns : List ℕ) → AllByRecursion (λ n. is_before fs key n ≡ true) ns → AllByRecursion (λ p. key_cmp key p.0 ≡ Greater) (named fs key (written_of fs os ns))
    front [] all = tt
    front (n ∷ ns) all = by (is_written fs os n) refl (front ns all.1)
      where
        by : (b : Bool) → is_written fs os n ≡ b → AllByRecursion (λ p. key_cmp key p.0 ≡ Greater) (named fs key (written_of fs os ns))
            → AllByRecursion (λ p. key_cmp key p.0 ≡ Greater) (named fs key (cond b (n ∷ written_of fs os ns) (written_of fs os ns)))
        by true is rest = (greater n is all.0, rest)
        by false is rest = rest

    lesser : AllByRecursion (λ f. key ≡ field_text f → ⊥) fs → (n : ℕ) → is_before fs key n ≡ false → key_cmp key (unwrap_or (text_at (texts_of fs) n) []) ≡ Less
    lesser other n after =
        by (slice_get fs n) refl after
      where
        order : (f : Field) (o : Ordering) → (key ≡ field_text f → ⊥) → key_cmp (field_text f) key ≡ o → is_lt o ≡ false → ordering_reverse o ≡ Less
        order f Less apart is h = absurd cc
        order f Equal apart is h = absurd (apart (sym (key_exact (field_text f) key is)))
        order f Greater apart is h = refl

        by : (o : Option Field) → slice_get fs n ≡ o → option_map_or (λ (f : Field). key_less (field_text f) key) o true ≡ false → key_cmp key (unwrap_or (text_at (texts_of fs) n) []) ≡ Less
        by None at h = absurd cc
        by (Some f) at h =
            ap (λ o. key_cmp key (unwrap_or (option_and_then (λ t. t) o) [])) (slice_get-map {B = Option (List ℕ)} (λ (g : Field). Some (field_text g)) fs n ∙ ap (option_map {U = Option (List ℕ)} (λ (g : Field). Some (field_text g))) at)
            ∙ key_cmp_total.antisymm key (field_text f) ∙ order f (key_cmp (field_text f) key) (all_at (λ g. key ≡ field_text g → ⊥) fs n f other at) refl h

    risen : (c : ℕ) (ns : List ℕ) → Rises (under_texts (texts_of fs) ns) → Rises (under_texts (texts_of fs) (drop c ns))
    risen zero ns up = up
    risen (suc c) [] up = tt
    risen (suc c) (n ∷ ns) up = risen c ns up.1

    next_below : AllByRecursion (λ f. key ≡ field_text f → ⊥) fs → (c : ℕ) (ns : List ℕ) → (c < length ns → is_before fs key (get_or ns c 0) ≡ false) → IsBelow key (under_texts (texts_of fs) (drop c ns))
    next_below other zero [] next = tt
    next_below other zero (n ∷ ns) next = lesser other n (next (omega arith))
    next_below other (suc c) [] next = tt
    next_below other (suc c) (n ∷ ns) next = next_below other c ns (λ low. next (omega (arith, low)))

    -- a key of its own, behind the names before it
    pub placed_between : AreNamesApart fs → AllByRecursion (λ f. key ≡ field_text f → ⊥) fs → (n : ℕ) → slice_get fs n ≡ None → (c : ℕ) (ns : List ℕ) → InKeyOrder (texts_of fs) ns → AllByRecursion (λ m. is_before fs key m ≡ true) (take c ns)
        → (c < length ns → is_before fs key (get_or ns c 0) ≡ false) → named fs key (written_of fs os (take c ns) ++ (n ∷ written_of fs os (drop c ns))) ≡ put key n (in_order (named fs key (places_from 0 fs os)))
    placed_between apart other n none c ns order before next =
        let pair : ℕ → List ℕ × ℕ = λ i. (name_at fs key i, i) in
        let a = written_of fs os (take c ns) in
        let b = written_of fs os (drop c ns) in
        let below : IsBelow key (map pair b) = rw (kept_are fs os key (drop c ns)) (below_some (λ (p : List ℕ × ℕ). is_written fs os p.1) key (under_texts (texts_of fs) (drop c ns)) (next_below other c ns next) (risen c ns order.rising)) in
        map-append pair a (n ∷ b) ∙ ap (λ k. map pair a ++ ((k, n) ∷ map pair b)) (ap (λ o. option_map_or field_text o key) none)
        ∙ sym (put_between key n (map pair a) (map pair b) (front (take c ns) before) below)
        ∙ ap (put key n) (sym (map-append pair a b) ∙ ap (map pair) (sym (filter-append (is_written fs os) (take c ns) (drop c ns)) ∙ ap (filter (is_written fs os)) (take-append-drop c ns)) ∙ keyed fs os key apart ns order)
