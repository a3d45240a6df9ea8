-- The blocks at the tops of the places in the values of a HAMT's entries are among those that were added for the entries.
use Rattle.std.proofs.Common.{◌≡◌, inl, inr, ℕ, ◌≤◌, Bool, true, false, cond, is_some, List, [], ◌∷◌, ◌++◌, Some, refl, sym, ap, ◌∙◌, subst, arith}
use Rattle.std.specs.List.{AllByRecursion, sum_by}
use Rattle.std.specs.Option.{option_map_or}
use Rattle.std.specs.Prelude.{Contains}
use Rattle.std.proofs.lemmas.List.Elements.{Contains-append_right}
use Rattle.std.proofs.lemmas.List.Sums.{sum_by-cons}
use Rattle.std.specs.Cmp.Lexicographic.{same_text as text_same, nat_list_eq_equiv}
use Rattle.ild_bulk.specs.Planned.{planned}
use Rattle.ild_edges.specs.Among.{IsIn}
use Rattle.ild_edges.proofs.Among.{IsIn-contains}
use Rattle.ild_data.proofs.AllOf.{all_split}
use Rattle.ild_data.specs.Among.{AreAmong}
use Rattle.ild_data.specs.ByteOrder.{in_byte_order}
use Rattle.ild_data.specs.Data.{Data}
use Rattle.ild_data.specs.Key.{same_text}
use Rattle.ild_data.specs.Trie.{trie}
use Rattle.ild_data.specs.TrieShape.{trie_levels}
use Rattle.ild_data.specs.declared.hamt_shape.HamtShape.{HamtShape}
use Rattle.ild_schema.specs.declared.number.Slot.{Slot}
use Rattle.ild_schema.specs.declared.row.Row.{Row}
use Rattle.ild_schema.specs.Value as V
use Rattle.ild_schema.specs.Value.{Pairs, pairs_list}
use Rattle.ild_typed.specs.Blocks.{nodes, nodes_of_pairs}
use Rattle.ild_typed.specs.Hamt.{whole}
use Rattle.ild_typed.specs.Represented.{represented_pairs}
use Rattle.ild_typed_places.specs.Places.{Places, nowhere, place, at_key, blocks_in, places_beneath, places_in_pairs, places_over, tops}
use Rattle.ild_typed_places.proofs.Keyed.{InEach, at_keys}
use Rattle.ild_typed_places.proofs.Listing.{all_from}
use Rattle.ild_typed_places.proofs.Values.{alike}
use Rattle.ild_bulk_places.specs.Following.{FollowsIn}
use Rattle.ild_bulk_places.proofs.Ordering.{plans}
use Rattle.ild_build_pass.specs.Placed.{PlacedIn, hamt_places}
use Rattle.ild_build_pass.specs.Weights.{beneath, entries_weight}
use Rattle.ild_build_pass.proofs.Judges.{pairs_nodes}
use Rattle.ild_build_pass.proofs.Placing.{follows_placed}
use Rattle.ild_build_pass.proofs.Weighing.{pairs_weigh}

-- ---- lists in which each block stands as often

abbrev is_block : List ℕ → List ℕ → ℕ
is_block b x = cond (same_text b x) 1 0

counted : (b : List ℕ) (xs : List (List ℕ)) → IsIn b xs → 1 ≤ sum_by (is_block b) xs
counted b [] is = absurd is
counted b (x ∷ xs) (inl e) =
    let one : is_block b x ≡ 1 = ap (λ y. is_block b y) (sym e) ∙ ap (λ c. cond c 1 0) (nat_list_eq_equiv.refl b) in
    omega (arith, one, sum_by-cons {X = List ℕ} (is_block b) x xs)
counted b (x ∷ xs) (inr is) = let more = counted b xs is in omega (arith, more, sum_by-cons {X = List ℕ} (is_block b) x xs)

found : (b : List ℕ) (xs : List (List ℕ)) → 1 ≤ sum_by (is_block b) xs → IsIn b xs
found b [] h = absurd (omega (arith, h))
found b (x ∷ xs) h = by (λ k. found b xs k) (same_text b x) refl
  where
    by : (1 ≤ sum_by (is_block b) xs → IsIn b xs) → (c : Bool) → same_text b x ≡ c → IsIn b (x ∷ xs)
    by more true e = inl (text_same b x (sym e))
    by more false e = let none : is_block b x ≡ 0 = ap (λ c. cond c 1 0) e in inr (more (omega (arith, h, none, sum_by-cons {X = List ℕ} (is_block b) x xs)))

each_among : (xs ys : List (List ℕ)) → ((f : List ℕ → ℕ) → sum_by f xs ≡ sum_by f ys) → AreAmong xs ys
each_among xs ys same = by xs (λ b is. found b ys (let one = counted b xs is in let e = same (is_block b) in omega (arith, one, e)))
  where
    by : (zs : List (List ℕ)) → ((b : List ℕ) → IsIn b zs → IsIn b ys) → AreAmong zs ys
    by [] f = tt
    by (z ∷ zs) f = (IsIn-contains z ys (f z (inl refl)), by zs (λ b is. f b (inr is)))

all_right : (bs before after : List (List ℕ)) → AreAmong bs after → AreAmong bs (before ++ after)
all_right [] before after all = tt
all_right (b ∷ bs) before after all = (Contains-append_right before after b all.0, all_right bs before after all.1)

tops_all : (P : List ℕ → Type 0) (ps : Places) → AllByRecursion P (blocks_in ps) → AllByRecursion P (tops ps)
tops_all P nowhere all = tt
tops_all P (place b beneath ps) all = (all.0, tops_all P ps (all_split P (blocks_in beneath) (blocks_in ps) all.1).1)

module _ (h : List ℕ → List ℕ) (rows : List Row) (u : Slot) where
  in_pairs : (P : List ℕ → Type 0) (ps : Pairs) → AllByRecursion P (nodes_of_pairs h rows u ps) → InEach P (places_in_pairs h rows u ps)
  in_pairs P V.no_pairs all = tt
  in_pairs P (V.pair k v ps) all = let x = all_split P (nodes h rows u v) (nodes_of_pairs h rows u ps) all in ((alike P h rows u v).0 x.0, in_pairs P ps x.1)

  -- the blocks of a HAMT that were planned behind those of its entries
  pub hamt_placed : (p : HamtShape) (ps : Pairs) (es : List (List ℕ × Data)) (node : Data) (before added bs : List (List ℕ)) → represented_pairs (whole h) rows u ps ≡ Some es → trie h p es 0 ≡ Some node
      → ((f : List ℕ → ℕ) → sum_by f added ≡ entries_weight (beneath h rows f) rows u (pairs_list ps)) → bs ≡ planned h p (trie_levels p) 0 (in_byte_order es)
      → PlacedIn h rows (λ μ. μ p u ps) (before ++ added) bs
  hamt_placed p ps es node before added bs are is sums all =
      let ts = places_in_pairs h rows u ps in
      let flat : Places = places_over (λ q. q.1) ts in
      let under : Places = places_beneath (at_key ts) h p (trie_levels p) 0 (in_byte_order es) in
      let same : hamt_places h p rows u ps ≡ under
      = ap (λ o. option_map_or (λ fs. cond (is_some (trie h p fs 0)) (places_beneath (at_key ts) h p (trie_levels p) 0 (in_byte_order fs)) flat) o flat) are ∙ ap (λ o. cond (is_some o) under flat) is in
      let inside : AreAmong (nodes_of_pairs h rows u ps) (before ++ added)
      = all_right (nodes_of_pairs h rows u ps) before added (each_among (nodes_of_pairs h rows u ps) added (λ f. pairs_nodes h rows f u ps ∙ pairs_weigh rows (beneath h rows f) u ps ∙ sym (sums f))) in
      let each = in_pairs (Contains (before ++ added)) ps inside in
      let ready = all_from (λ (e : List ℕ × Data). AreAmong (tops (at_key ts e.0)) (before ++ added))
      (λ e. tops_all (Contains (before ++ added)) (at_key ts e.0) (at_keys (Contains (before ++ added)) ts each e.0)) (in_byte_order es) in
      follows_placed h rows p u ps (before ++ added) bs
      (subst (λ ps'. FollowsIn ps' (before ++ added) bs) (sym same)
      (subst (λ xs. FollowsIn under (before ++ added) xs) (sym all) (plans (at_key ts) h p (trie_levels p) 0 (in_byte_order es) (before ++ added) ready)))
