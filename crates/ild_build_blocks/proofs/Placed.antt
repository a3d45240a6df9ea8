-- Blocks behind their children in the HAMTs of a value are so at its places.
use Rattle.std.proofs.Common.{◌≡◌, ◌⊎◌, inl, inr, ⊎_elim, ℕ, zero, suc, ◌+◌, ◌≤◌, Bool, true, false, ◌||◌, ◌&&◌, cond, List, [], ◌∷◌, ◌++◌, Option, Some, None, refl, sym, subst, arith}
use Rattle.std.specs.Prelude.{Contains, is_some, slice_get}
use Rattle.std.specs.Option.{option_map_or}
use Rattle.std.specs.Cmp.Lexicographic.{same_text as text_same}
use Rattle.std.proofs.lemmas.Bool.{and_parts}
use Rattle.ild_bulk_places.proofs.Ordering.{contains_right, contains_left}
use Rattle.ild_data.proofs.AllOf.{contains_more}
use Rattle.ild_data.specs.Among.{AreAmong}
use Rattle.ild_data.specs.Data.{Data}
use Rattle.ild_data.specs.Key.{same_text}
use Rattle.ild_data.specs.ByteOrder.{in_byte_order}
use Rattle.ild_data.specs.Trie.{trie}
use Rattle.ild_data.specs.TrieShape.{trie_levels}
use Rattle.ild_data.specs.declared.hamt_shape.HamtShape.{HamtShape}
use Rattle.ild_schema.specs.declared.number.TypeNo.{TypeNo}
use Rattle.ild_schema.specs.declared.number.Slot.{Slot}
use Rattle.ild_schema.specs.declared.def.TypeDef.{TypeDef}
use Rattle.ild_schema.specs.declared.def.TypeDef.TheVariants as D
use Rattle.ild_schema.specs.declared.def.MapForm.TheVariants as MF
use Rattle.ild_schema.specs.declared.def.Field.{Field}
use Rattle.ild_schema.specs.declared.row.Row.{Row}
use Rattle.ild_schema.specs.Slots.{form_of}
use Rattle.ild_schema.specs.Value as V
use Rattle.ild_schema.specs.Value.{Value, Values, Pairs, Optionals, values_list, pairs_list}
use Rattle.ild_typed.specs.Hamt.{whole}
use Rattle.ild_typed.specs.Represented.{represented_pairs}
use Rattle.ild_typed.specs.Slots.{element_of, fields_of, member_of}
use Rattle.ild_typed_places.specs.Parts.{LieIn}
use Rattle.ild_typed_places.specs.Places.{Place, Places, nowhere, joined, at_key, places_beneath, places_over, each_place, map_places, places_in, places_in_pairs, places_in_fields, tops}
use Rattle.ild_typed_places.proofs.Linked.{each_joined}
use Rattle.ild_typed_places.proofs.Parted.{elements, entries, members}
use Rattle.ild_bulk_places.specs.Following.{FollowsIn, HasPlaceOver}
use Rattle.ild_build_pass.specs.Placed.{PlacedIn, are_among, has_place_over, hamt_places, is_among, over_children}
use Rattle.ild_build_pass.specs.Weights.{Weight, hamt_weight, weigh, weigh_values, weigh_pairs, weigh_fields}

-- ---- the test tells a place

or_true : (a b : Bool) → (a || b) ≡ true → (a ≡ true) ⊎ (b ≡ true)
or_true true b e = inl refl
or_true false b e = inr e

is_from : (b : List ℕ) (cs : List (List ℕ)) → is_among b cs ≡ true → Contains cs b
is_from b [] e = absurd cc
is_from b (c ∷ cs) e = ⊎_elim (λ x. (zero, omega arith, sym (text_same b c (sym x)))) (λ x. contains_more c cs b (is_from b cs x)) (or_true (same_text b c) (is_among b cs) e)

are_from : (bs before : List (List ℕ)) → are_among bs before ≡ true → AreAmong bs before
are_from [] before e = tt
are_from (b ∷ bs) before e = let x = and_parts (is_among b before) (are_among bs before) e in (is_from b before x.0, are_from bs before x.1)

module _ (before : List (List ℕ)) (b : List ℕ) where
  place_from : (ps : List Place) → has_place_over ps before b ≡ true → (p : Place) × Contains ps p × (p.0 ≡ b) × AreAmong (tops p.1) before
  place_from [] e = absurd cc
  place_from (q ∷ ps) e =
      ⊎_elim
      (λ x. let y = and_parts (same_text q.0 b) (are_among (tops q.1) before) x in (q, (zero, omega arith, refl), text_same q.0 b (sym y.0), are_from (tops q.1) before y.1))
      (λ x. let y = place_from ps x in (y.0, contains_more q ps y.0 y.1, y.2, y.3))
      (or_true (same_text q.0 b && are_among (tops q.1) before) (has_place_over ps before b) e)

  lifted : (ps qs : Places) → LieIn ps qs → HasPlaceOver ps before b → HasPlaceOver qs before b
  lifted ps qs lie x = record { at = x.at; among = lie x.at x.among; is = x.is; children = x.children }

  left : (ps qs : Places) → HasPlaceOver ps before b → HasPlaceOver (joined ps qs) before b
  left ps qs x = lifted ps (joined ps qs) (λ q here. subst (λ (xs : List Place). Contains xs q) (sym (each_joined ps qs)) (contains_left (each_place ps) (each_place qs) q here)) x

  right : (ps qs : Places) → HasPlaceOver qs before b → HasPlaceOver (joined ps qs) before b
  right ps qs x = lifted qs (joined ps qs) (λ q here. subst (λ (xs : List Place). Contains xs q) (sym (each_joined ps qs)) (contains_right (each_place ps) (each_place qs) q here)) x

  either : (m n : ℕ) → 1 ≤ m + n → (1 ≤ m) ⊎ (1 ≤ n)
  either zero n k = inr (omega (arith, k))
  either (suc m) n k = inl (omega arith)

  under : (o : Option Slot) (w : Slot → ℕ) → 1 ≤ option_map_or w o 0 → (u : Slot) × (o ≡ Some u) × (1 ≤ w u)
  under None w k = absurd (omega (arith, k))
  under (Some u) w k = (u, refl, k)

  module _ (h : List ℕ → List ℕ) (rows : List Row) where
    abbrev test : Weight
    test = over_children h rows before b

    of_test : (p : HamtShape) (u : Slot) (ps : Pairs) → 1 ≤ test p u ps → HasPlaceOver (hamt_places h p rows u ps) before b
    of_test p u ps k = by (has_place_over (each_place (hamt_places h p rows u ps)) before b) refl k
      where
        by : (c : Bool) → has_place_over (each_place (hamt_places h p rows u ps)) before b ≡ c → 1 ≤ cond c 1 0 → HasPlaceOver (hamt_places h p rows u ps) before b
        by true e k = let x = place_from (each_place (hamt_places h p rows u ps)) e in record { at = x.0; among = x.1; is = x.2; children = x.3 }
        by false e k = absurd (omega (arith, k))

    same_hamt : (p : HamtShape) (u : Slot) (ps : Pairs) (key : TypeNo) (key_at at : ℕ) (o : Option (List (List ℕ × Data)))
        → option_map_or (λ es. cond (is_some (trie h p es 0)) (places_beneath (at_key (places_in_pairs h rows u ps)) h p (trie_levels p) 0 (in_byte_order es)) (places_over (λ q. q.1) (places_in_pairs h rows u ps))) o (places_over (λ q. q.1) (places_in_pairs h rows u ps))
        ≡ map_places h (Some (D.Map key key_at u at (MF.Hamt p))) o (places_in_pairs h rows u ps)
    same_hamt p u ps key key_at at None = refl
    same_hamt p u ps key key_at at (Some es) = refl

    of_hamt : (s : Slot) (ps : Pairs) (d : Option TypeDef) → form_of rows s ≡ d → 1 ≤ hamt_weight test d ps → HasPlaceOver (places_in h rows s (V.map ps)) before b
    of_hamt s ps (Some (D.Map key key_at u at (MF.Hamt p))) e k =
        subst (λ c. HasPlaceOver (option_map_or (λ w. map_places h c (represented_pairs (whole h) rows w ps) (places_in_pairs h rows w ps)) (element_of c) nowhere) before b) (sym e)
        (subst (λ qs. HasPlaceOver qs before b) (same_hamt p u ps key key_at at (represented_pairs (whole h) rows u ps)) (of_test p u ps k))
    of_hamt s ps (Some (D.Map key key_at u at MF.Map)) e k = absurd (omega (arith, k))
    of_hamt s ps (Some (D.Map key key_at u at MF.ListPairs)) e k = absurd (omega (arith, k))
    of_hamt s ps (Some (D.Map key key_at u at (MF.StringPairs i j))) e k = absurd (omega (arith, k))
    of_hamt s ps d e k = absurd (omega (arith, k))

    mutual
      pub of_value : (s : Slot) (v : Value) → 1 ≤ weigh test rows s v → HasPlaceOver (places_in h rows s v) before b
      of_value s (V.list vs) k =
          let x = under (element_of (form_of rows s)) (λ u. weigh_values test rows u vs) k in
          let y = of_values x.0 vs x.2 in
          lifted (places_in h rows x.0 y.1) (places_in h rows s (V.list vs)) (elements h rows s x.0 vs y.0 y.1 x.1 y.2) y.3
      of_value s (V.map ps) k =
          ⊎_elim (λ one. of_hamt s ps (form_of rows s) refl one)
          (λ more. let x = under (element_of (form_of rows s)) (λ u. weigh_pairs test rows u ps) more in
          let y = of_pairs x.0 ps x.2 in
          lifted (places_in h rows x.0 y.2) (places_in h rows s (V.map ps)) (entries h rows s x.0 ps y.0 y.1 y.2 x.1 y.3) y.4)
          (either (hamt_weight test (form_of rows s) ps) (option_map_or (λ u. weigh_pairs test rows u ps) (element_of (form_of rows s)) 0) k)
      of_value s (V.struct os) k = of_fields (fields_of (form_of rows s)) os k
      of_value s (V.union n v) k =
          let x = under (member_of (form_of rows s) n) (λ u. weigh test rows u v) k in
          lifted (places_in h rows x.0 v) (places_in h rows s (V.union n v)) (members h rows s x.0 n v x.1) (of_value x.0 v x.2)
      of_value s v k = absurd (omega (arith, k))

      of_values : (u : Slot) (vs : Values) → 1 ≤ weigh_values test rows u vs → (i : ℕ) × (v : Value) × (slice_get (values_list vs) i ≡ Some v) × HasPlaceOver (places_in h rows u v) before b
      of_values u V.no_values k = absurd (omega (arith, k))
      of_values u (V.value v vs) k =
          ⊎_elim (λ one. (zero, v, refl, of_value u v one)) (λ more. let y = of_values u vs more in (suc y.0, y.1, y.2, y.3)) (either (weigh test rows u v) (weigh_values test rows u vs) k)

      of_pairs : (u : Slot) (ps : Pairs) → 1 ≤ weigh_pairs test rows u ps → (i : ℕ) × (l : List ℕ) × (v : Value) × (slice_get (pairs_list ps) i ≡ Some (l, v)) × HasPlaceOver (places_in h rows u v) before b
      of_pairs u V.no_pairs k = absurd (omega (arith, k))
      of_pairs u (V.pair l v ps) k =
          ⊎_elim (λ one. (zero, l, v, refl, of_value u v one)) (λ more. let y = of_pairs u ps more in (suc y.0, y.1, y.2, y.3, y.4)) (either (weigh test rows u v) (weigh_pairs test rows u ps) k)

      of_fields : (fs : List Field) (os : Optionals) → 1 ≤ weigh_fields test rows fs os → HasPlaceOver (places_in_fields h rows fs os) before b
      of_fields fs V.no_optionals k = absurd (omega (arith, k))
      of_fields [] (V.absent os) k = absurd (omega (arith, k))
      of_fields [] (V.present v os) k = absurd (omega (arith, k))
      of_fields (f ∷ fs) (V.absent os) k = of_fields fs os k
      of_fields (f ∷ fs) (V.present v os) k =
          ⊎_elim (λ one. left (places_in h rows f.slot v) (places_in_fields h rows fs os) (of_value f.slot v one))
          (λ more. right (places_in h rows f.slot v) (places_in_fields h rows fs os) (of_fields fs os more)) (either (weigh test rows f.slot v) (weigh_fields test rows fs os) k)

pub placed_follows : (h : List ℕ → List ℕ) (rows : List Row) (s : Slot) (v : Value) (before bs : List (List ℕ)) → PlacedIn h rows (λ μ. weigh μ rows s v) before bs → FollowsIn (places_in h rows s v) before bs
placed_follows h rows s v before [] placed = tt
placed_follows h rows s v before (b ∷ bs) placed = (of_value before b h rows s v placed.0, placed_follows h rows s v (before ++ b ∷ []) bs placed.1)
