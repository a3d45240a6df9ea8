-- The places in a part of a value are places in the value.
use Rattle.std.proofs.Common.{◌≡◌, ℕ, zero, suc, ◌+◌, ◌^◌, nat_le, Bool, true, false, cond, List, [], ◌∷◌, length, map, Option, Some, None, refl, ap, subst, arith}
use Rattle.std.specs.Prelude.{is_some, slice_get, Contains}
use Rattle.std.specs.List.{AllByRecursion, filter, range_with_len}
use Rattle.std.specs.Option.{option_map_or}
use Rattle.std.specs.Cmp.Lexicographic.{nat_list_eq_equiv}
use Rattle.std.proofs.lemmas.Option.{none-some, same_Some}
use Rattle.ild_data.proofs.AllOf.{all_split, all_contained}
use Rattle.ild_data.specs.ByteOrder.{in_byte_order}
use Rattle.ild_data.specs.Data.{Data}
use Rattle.ild_data.specs.Key.{same_text}
use Rattle.ild_data.specs.Trie.{part, node_of, at_depth, trie}
use Rattle.ild_data.specs.declared.hamt_shape.HamtShape.{HamtShape}
use Rattle.ild_data.specs.TrieShape.{trie_levels}
use Rattle.ild_schema.specs.declared.number.Slot.{Slot}
use Rattle.ild_schema.specs.declared.def.TypeDef.{TypeDef}
use Rattle.ild_schema.specs.declared.def.TypeDef.TheVariants as D
use Rattle.ild_schema.specs.declared.def.MapForm.TheVariants as MF
use Rattle.ild_schema.specs.declared.row.Row.{Row}
use Rattle.ild_schema.specs.Slots.{form_of}
use Rattle.ild_schema.specs.Value as V
use Rattle.ild_schema.specs.Value.{Value, Values, Pairs, values_list, pairs_list}
use Rattle.ild_hamt_trie.proofs.Index.{index_below}
use Rattle.ild_typed.specs.Hamt.{whole}
use Rattle.ild_typed.specs.Represented.{represented_pairs}
use Rattle.ild_typed.proofs.Rooms.{all_more}
use Rattle.ild_typed_places.specs.Places.{Places, nowhere, Place, joined, places_over, each_place, node_place, bucket_or_node, places_beneath, at_key, map_places, places_in, places_in_values, places_in_pairs}
use Rattle.ild_typed_places.specs.Parts.{LieIn, PlacesOfElements, PlacesOfEntries, PlacesOfMembers}
use Rattle.ild_typed_places.proofs.Linked.{each_joined}
use Rattle.ild_typed_places.proofs.Listing.{all_mapped, all_one, in_range, mapped_all}
use Rattle.ild_typed_places.proofs.Ordered.{from_order, from_parts}
use Rattle.ild_typed_places.proofs.Values.{keys_are, one_each}

module _ (Q : Place → Type 0) where
  abbrev Each : Places → Type 0
  Each ps = AllByRecursion Q (each_place ps)

  both : (ps qs : Places) → Each (joined ps qs) → Each ps × Each qs
  both ps qs all = all_split Q (each_place ps) (each_place qs) (subst (AllByRecursion Q) (each_joined ps qs) all)

  over : {X : Type 0} (f : X → Places) (xs : List X) → Each (places_over f xs) → AllByRecursion (λ x. Each (f x)) xs
  over f [] all = tt
  over f (x ∷ xs) all = let parts = both (f x) (places_over f xs) all in (parts.0, over f xs parts.1)

  module _ (inner : List ℕ → Places) where
    abbrev Inside : List (List ℕ × Data) → Type 0
    Inside es = AllByRecursion (λ e. Each (inner e.0)) es

    of_node : (o : Option Data) (ps : Places) → Each (node_place o ps) → Each ps
    of_node None ps all = all
    of_node (Some n) ps all = (all_split Q (each_place ps) [] all.1).0

    of_slot : (below : List (List ℕ × Data) → Option Data) (ps : List (List ℕ × Data) → Places) (es : List (List ℕ × Data)) (b : Bool) → (Each (ps es) → Inside es) → Each (bucket_or_node b inner below ps es) → Inside es
    of_slot below ps es true f all = over (λ e. inner e.0) es all
    of_slot below ps es false f all = f (of_node (below es) (ps es) all)

    of_beneath : (h : List ℕ → List ℕ) (p : HamtShape) (left depth : ℕ) (es : List (List ℕ × Data)) → Each (places_beneath inner h p left depth es) → Inside es
    unfolding places_beneath
    of_beneath h p zero depth es all = over (λ e. inner e.0) es all
    of_beneath h p (suc left) depth es all =
        let slots = over (λ i. bucket_or_node (nat_le (length (part (at_depth h p depth) es i)) p.bucket) inner (node_of h p left (depth + 1)) (places_beneath inner h p left (depth + 1)) (part (at_depth h p depth) es i)) (range_with_len 0 (2 ^ p.width)) all in
        from_parts (λ e. Each (inner e.0)) (at_depth h p depth) (2 ^ p.width) es (λ k. index_below p (h k) depth)
        (λ j low. of_slot (node_of h p left (depth + 1)) (places_beneath inner h p left (depth + 1)) (part (at_depth h p depth) es j) (nat_le (length (part (at_depth h p depth) es j)) p.bucket)
        (λ below. of_beneath h p left (depth + 1) (part (at_depth h p depth) es j) below)
        (in_range (λ i. Each (bucket_or_node (nat_le (length (part (at_depth h p depth) es i)) p.bucket) inner (node_of h p left (depth + 1)) (places_beneath inner h p left (depth + 1)) (part (at_depth h p depth) es i))) 0 (2 ^ p.width) j slots (omega arith) (omega (arith, low))))

  abbrev InAll : List (List ℕ × Places) → Type 0
  InAll ts = AllByRecursion (λ t. Each t.1) ts

  fewer : (t : List ℕ × Places) (ts : List (List ℕ × Places)) (k : List ℕ) → Each (at_key (t ∷ ts) k) → Each (at_key ts k)
  fewer t ts k all = by (same_text k t.0) all where
    by : (b : Bool) → Each (places_over (λ q. q.1) (cond b (t ∷ filter (λ q. same_text k q.0) ts) (filter (λ q. same_text k q.0) ts))) → Each (at_key ts k)
    by true a = (both t.1 (at_key ts k) a).1
    by false a = a

  first : (t : List ℕ × Places) (ts : List (List ℕ × Places)) → Each (at_key (t ∷ ts) t.0) → Each t.1
  first t ts all =
      let fs : List (List ℕ × Places) = filter (λ q. same_text t.0 q.0) ts in
      (both t.1 (places_over (λ q. q.1) fs) (subst (λ b. Each (places_over (λ q. q.1) (cond b (t ∷ fs) fs))) (nat_list_eq_equiv.refl t.0) all)).0

  of_keys : (ts : List (List ℕ × Places)) → AllByRecursion (λ t. Each (at_key ts t.0)) ts → InAll ts
  of_keys [] all = tt
  of_keys (t ∷ ts) all = (first t ts all.0, of_keys ts (all_more (λ q. Each (at_key (t ∷ ts) q.0)) (λ q. Each (at_key ts q.0)) (λ q a. fewer t ts q.0 a) ts all.1))

  of_hamt : (h : List ℕ → List ℕ) (p : HamtShape) (es : List (List ℕ × Data)) (ts : List (List ℕ × Places)) → map (λ e. e.0) es ≡ map (λ t. t.0) ts → (o : Option Data) → trie h p es 0 ≡ o
      → Each (cond (is_some o) (places_beneath (at_key ts) h p (trie_levels p) 0 (in_byte_order es)) (places_over (λ t. t.1) ts)) → InAll ts
  of_hamt h p es ts same None e all = over (λ t. t.1) ts all
  of_hamt h p es ts same (Some d) e all =
      let inside = from_order (λ i. Each (at_key ts i.0)) es (one_each h p es d e) (of_beneath (at_key ts) h p (trie_levels p) 0 (in_byte_order es) all) in
      of_keys ts (mapped_all (λ k. Each (at_key ts k)) (λ t. t.0) ts (subst (AllByRecursion (λ k. Each (at_key ts k))) same (all_mapped (λ k. Each (at_key ts k)) (λ e. e.0) es inside)))

  of_map : (h : List ℕ → List ℕ) (d : Option TypeDef) (o : Option (List (List ℕ × Data))) (ts : List (List ℕ × Places)) → ((es : List (List ℕ × Data)) → o ≡ Some es → map (λ e. e.0) es ≡ map (λ t. t.0) ts)
      → Each (map_places h d o ts) → InAll ts
  of_map h (Some (D.Map key key_at value at (MF.Hamt p))) (Some es) ts same all = of_hamt h p es ts (same es refl) (trie h p es 0) refl all
  of_map h (Some (D.Map key key_at value at (MF.Hamt p))) None ts same all = over (λ t. t.1) ts all
  of_map h (Some (D.Map key key_at value at MF.Map)) o ts same all = over (λ t. t.1) ts all
  of_map h (Some (D.Map key key_at value at MF.ListPairs)) o ts same all = over (λ t. t.1) ts all
  of_map h (Some (D.Map key key_at value at (MF.StringPairs i e))) o ts same all = over (λ t. t.1) ts all
  of_map h d o ts same all = over (λ t. t.1) ts all

  module _ (h : List ℕ → List ℕ) (rows : List Row) (u : Slot) where
    of_values : (vs : Values) (i : ℕ) (v : Value) → slice_get (values_list vs) i ≡ Some v → Each (places_in_values h rows u vs) → Each (places_in h rows u v)
    of_values V.no_values i v e all = absurd (none-some v e)
    of_values (V.value w vs) zero v e all = subst (λ x. Each (places_in h rows u x)) (same_Some w v e) (both (places_in h rows u w) (places_in_values h rows u vs) all).0
    of_values (V.value w vs) (suc i) v e all = of_values vs i v e (both (places_in h rows u w) (places_in_values h rows u vs) all).1

    of_pairs : (ps : Pairs) (i : ℕ) (k : List ℕ) (v : Value) → slice_get (pairs_list ps) i ≡ Some (k, v) → InAll (places_in_pairs h rows u ps) → Each (places_in h rows u v)
    of_pairs V.no_pairs i k v e all = absurd (none-some (k, v) e)
    of_pairs (V.pair l w ps) zero k v e all = subst (λ x. Each (places_in h rows u x)) (ap (λ (p : List ℕ × Value). p.1) (same_Some (l, w) (k, v) e)) all.0
    of_pairs (V.pair l w ps) (suc i) k v e all = of_pairs ps i k v e all.1

lie : (ps qs : Places) → ((Q : Place → Type 0) → AllByRecursion Q (each_place qs) → AllByRecursion Q (each_place ps)) → LieIn ps qs
lie ps qs f p here = all_contained (Contains (each_place qs)) (each_place ps) p (f (Contains (each_place qs)) (all_one (each_place qs))) here

pub elements : PlacesOfElements
elements h rows s u vs i v e at =
    lie (places_in h rows u v) (places_in h rows s (V.list vs))
    (λ Q all. of_values Q h rows u vs i v at (subst (λ o. AllByRecursion Q (each_place (option_map_or (λ w. places_in_values h rows w vs) o nowhere))) e all))

pub entries : PlacesOfEntries
entries h rows s u ps i k v e at =
    lie (places_in h rows u v) (places_in h rows s (V.map ps))
    (λ Q all. of_pairs Q h rows u ps i k v at
    (of_map Q h (form_of rows s) (represented_pairs (whole h) rows u ps) (places_in_pairs h rows u ps) (λ es is. keys_are h rows u ps es is)
    (subst (λ o. AllByRecursion Q (each_place (option_map_or (λ w. map_places h (form_of rows s) (represented_pairs (whole h) rows w ps) (places_in_pairs h rows w ps)) o nowhere))) e all)))

pub members : PlacesOfMembers
members h rows s u n v e =
    lie (places_in h rows u v) (places_in h rows s (V.union n v)) (λ Q all. subst (λ o. AllByRecursion Q (each_place (option_map_or (λ w. places_in h rows w v) o nowhere))) e all)
