-- The places of a HAMT of which the entry of one key is another, or has come or gone.
use Rattle.std.proofs.Common.{◌≡◌, ◌≢◌, ℕ, cond, List, [], Option, Some, None, option_map, refl, ap, sym, subst, ◌∙◌}
use Rattle.std.specs.Prelude.{is_some, option_and_then}
use Rattle.std.specs.List.{AllByRecursion}
use Rattle.std.specs.Option.{option_map_or}
use Rattle.std.proofs.lemmas.Option.{same_Some}
use Rattle.ild_data.proofs.AllOf.{all_indexed}
use Rattle.ild_data.specs.ByteOrder.{in_byte_order}
use Rattle.ild_data.specs.Data.{Data}
use Rattle.ild_data.specs.Key.{value_at, put, without}
use Rattle.ild_data.specs.Trie.{trie}
use Rattle.ild_data.specs.TrieShape.{trie_levels}
use Rattle.ild_schema.specs.declared.def.MapForm.TheVariants as MF
use Rattle.ild_schema.specs.declared.def.TypeDef.{TypeDef}
use Rattle.ild_schema.specs.declared.def.TypeDef.TheVariants as D
use Rattle.ild_schema.specs.declared.number.Slot.{Slot}
use Rattle.ild_schema.specs.declared.row.Row.{Row}
use Rattle.ild_schema.specs.Slots.{form_of}
use Rattle.ild_schema.specs.Value as V
use Rattle.ild_schema.specs.Value.{Value, Pairs, pairs_of, pairs_list}
use Rattle.ild_splice_changes.proofs.Maps.{put-other, without-other}
use Rattle.ild_hamt_trie.specs.Way.{way}
use Rattle.ild_hamt_trie.proofs.Parts.{in_order-sorted, find-sorted}
use Rattle.ild_typed.specs.Composed.{composed}
use Rattle.ild_typed.specs.Hamt.{root_map, whole}
use Rattle.ild_typed.specs.Layer as L
use Rattle.ild_typed.specs.Represented.{layered, represented, represented_pairs}
use Rattle.ild_typed.specs.Slots.{element_of}
use Rattle.ild_typed.proofs.Basics.{map_from, then_from}
use Rattle.ild_typed_places.specs.Places.{Place, Places, nowhere, places_over, at_key, places_beneath, map_places, places_in, places_in_pairs}
use Rattle.ild_typed_places.proofs.Parted.{entries}
use Rattle.ild_typed_fronts.proofs.Pathing.{pairs_back}
use Rattle.ild_path_edits.proofs.Typing.{each_put, each_without}
use Rattle.ild_path_nodes.specs.NodeLaws.{IsHamt}
use Rattle.ild_path_held.proofs.Orders.{same_find}
use Rattle.ild_hamt_climb.specs.Rewriting.{DiffersAt}
use Rattle.ild_path_way.specs.Way.{nodes_on, nodes_for}
use Rattle.ild_path_passed.proofs.Joined.{Each, over_each, lying}
use Rattle.ild_path_passed.proofs.Keyed.{at_keys, data_of, data_at, keyed, keyed_each, other_put, other_without}
use Rattle.ild_path_passed.proofs.Trieing.{passes}

module _ (Q : Place → Type 0) (Given : List ℕ → Type 0) (gives : (b : List ℕ) (ps : Places) → Given b → Q (b, ps)) (h : List ℕ → List ℕ) (rows : List Row) (s elem : Slot) where
  abbrev pub EntryPasses : List ℕ × Value → Type 0
  EntryPasses x = Each Q (places_in h rows elem x.1)

  abbrev In : List (List ℕ × Value) → Places
  In xs = places_in h rows s (V.map (pairs_of xs))

  -- the places in the values of a map are places of the map
  pub entries_pass : (ps : Pairs) → element_of (form_of rows s) ≡ Some elem → Each Q (places_in h rows s (V.map ps)) → AllByRecursion EntryPasses (pairs_list ps)
  entries_pass ps e all =
      all_indexed EntryPasses (pairs_list ps) (λ i x is. lying Q (places_in h rows elem x.1) (places_in h rows s (V.map ps)) (entries h rows s elem ps i x.0 x.1 e is) all)

  module _ (is : IsHamt rows s elem) where
    abbrev Own : TypeDef
    Own = D.Map is.0 is.1 elem is.2 (MF.Hamt is.3)

    -- ---- the parts of a HAMT that has data

    record HasData (xs : List (List ℕ × Value)) : Type 0 where
      entries : List (List ℕ × Data)
      are : data_of h rows elem xs ≡ Some entries
      node : Data
      tree : trie h is.3 entries 0 ≡ Some node

    has_data : (xs : List (List ℕ × Value)) (t : Data) → represented (whole h) rows s (V.map (pairs_of xs)) ≡ Some t → HasData xs
    has_data xs t made =
        let e : layered (whole h) (Some Own) (option_map L.map (data_of h rows elem xs)) ≡ Some t =
        sym (ap (λ o. layered (whole h) o (option_map L.map (option_and_then (λ u. represented_pairs (whole h) rows u (pairs_of xs)) (element_of o)))) is.4) ∙ made in
        let l = then_from (composed (whole h) Own) (option_map L.map (data_of h rows elem xs)) t e in
        let m = map_from L.map (data_of h rows elem xs) l.item l.there in
        let n = map_from (root_map is.3) (trie h is.3 m.item 0) t (ap (composed (whole h) Own) (same_Some (L.map m.item) l.item m.made) ∙ l.made) in
        record { entries = m.item; are = m.there; node = n.item; tree = n.there }

    places_at : (xs : List (List ℕ × Value)) (o : Option (List (List ℕ × Data))) → data_of h rows elem xs ≡ o → In xs ≡ map_places h (Some Own) o (keyed h rows elem xs)
    places_at xs o e =
        ap (λ d. option_map_or (λ u. map_places h d (represented_pairs (whole h) rows u (pairs_of xs)) (places_in_pairs h rows u (pairs_of xs))) (element_of d) nowhere) is.4
        ∙ ap (λ o. map_places h (Some Own) o (keyed h rows elem xs)) e

    in_trie : (xs : List (List ℕ × Value)) (es : List (List ℕ × Data)) (o : Option Data) → data_of h rows elem xs ≡ Some es → trie h is.3 es 0 ≡ o
        → In xs ≡ cond (is_some o) (places_beneath (at_key (keyed h rows elem xs)) h is.3 (trie_levels is.3) 0 (in_byte_order es)) (places_over (λ t. t.1) (keyed h rows elem xs))
    in_trie xs es o e tree =
        places_at xs (Some es) e
        ∙ ap (λ (o : Option Data). cond (is_some o) (places_beneath (at_key (keyed h rows elem xs)) h is.3 (trie_levels is.3) 0 (in_byte_order es)) (places_over (λ t. t.1) (keyed h rows elem xs))) tree

    way_at : (k : List ℕ) (xs : List (List ℕ × Value)) (es : List (List ℕ × Data)) (o : Option Data) → data_of h rows elem xs ≡ Some es → trie h is.3 es 0 ≡ o
        → nodes_for h rows (form_of rows s) (V.map (pairs_of xs)) k ≡ cond (is_some o) (way h is.3 k (trie_levels is.3) 0 (in_byte_order es)) []
    way_at k xs es o e tree =
        ap (λ d. nodes_for h rows d (V.map (pairs_of xs)) k) is.4 ∙ ap (λ o. option_map_or (nodes_on h is.3 k) o []) e
        ∙ ap (λ (o : Option Data). cond (is_some o) (way h is.3 k (trie_levels is.3) 0 (in_byte_order es)) []) tree

    -- ---- entries that differ at a key

    module _ (k : List ℕ) (xs ys : List (List ℕ × Value)) (others : (q : List ℕ) → k ≢ q → value_at q ys ≡ value_at q xs)
        (keys : (q : List ℕ) → k ≢ q → at_key (keyed h rows elem ys) q ≡ at_key (keyed h rows elem xs) q) where
      differs : (es fs : List (List ℕ × Data)) → data_of h rows elem xs ≡ Some es → data_of h rows elem ys ≡ Some fs → DiffersAt k (in_byte_order es) (in_byte_order fs)
      differs es fs e f = record {
        was = in_order-sorted es;
        now = in_order-sorted fs;
        others = λ q apart.
            find-sorted q fs ∙ same_find q fs ∙ data_at h rows elem q ys fs f ∙ ap (option_and_then (represented (whole h) rows elem)) (others q (λ same. apart (sym same)))
            ∙ sym (data_at h rows elem q xs es e) ∙ sym (same_find q es) ∙ sym (find-sorted q es);
      }

      pub differing : (t : Data) → represented (whole h) rows s (V.map (pairs_of xs)) ≡ Some t → Each Q (In xs) → AllByRecursion EntryPasses xs → AllByRecursion EntryPasses ys
          → AllByRecursion Given (nodes_for h rows (form_of rows s) (V.map (pairs_of ys)) k) → Each Q (In ys)
      differing t made all was now given = by (data_of h rows elem ys) refl where
        old : HasData xs
        old = has_data xs t made

        flat : Each Q (places_over (λ t. t.1) (keyed h rows elem ys))
        flat = over_each Q (λ t. t.1) (keyed h rows elem ys) (keyed_each h rows elem Q ys now)

        in_tries : (fs : List (List ℕ × Data)) → data_of h rows elem ys ≡ Some fs → (o : Option Data) → trie h is.3 fs 0 ≡ o → Each Q (In ys)
        in_tries fs f None g = subst (Each Q) (sym (in_trie ys fs None f g)) flat
        in_tries fs f (Some node) g =
            subst (Each Q) (sym (in_trie ys fs (Some node) f g))
            (passes Q h is.3 (at_key (keyed h rows elem xs)) (at_key (keyed h rows elem ys)) (at_keys Q (keyed h rows elem xs) (keyed_each h rows elem Q xs was))
            (at_keys Q (keyed h rows elem ys) (keyed_each h rows elem Q ys now)) k (λ q apart. keys q (λ same. apart (sym same))) Given gives (trie_levels is.3) 0
            (in_byte_order old.entries) (in_byte_order fs) (differs old.entries fs old.are f) (subst (Each Q) (in_trie xs old.entries (Some old.node) old.are old.tree) all)
            (subst (AllByRecursion Given) (way_at k ys fs (Some node) f g) given))

        by : (o : Option (List (List ℕ × Data))) → data_of h rows elem ys ≡ o → Each Q (In ys)
        by None f = subst (Each Q) (sym (places_at ys None f)) flat
        by (Some fs) f = in_tries fs f (trie h is.3 fs 0) refl

    -- ---- an entry put, or gone

    module _ (k : List ℕ) (ps : Pairs) (t : Data) (made : represented (whole h) rows s (V.map ps) ≡ Some t) (all : Each Q (places_in h rows s (V.map ps))) where
      abbrev pub xs : List (List ℕ × Value)
      xs = pairs_list ps

      was : AllByRecursion EntryPasses xs
      was = entries_pass ps (ap element_of is.4) all

      back : pairs_of xs ≡ ps
      back = pairs_back ps

      pub entry_put : (w : Value) → Each Q (places_in h rows elem w) → AllByRecursion Given (nodes_for h rows (form_of rows s) (V.map (pairs_of (put k w xs))) k) → Each Q (In (put k w xs))
      entry_put w new given =
          differing k xs (put k w xs) (λ q apart. put-other k q w xs apart) (λ q apart. other_put h rows elem q k w xs apart) t
          (ap (λ qs. represented (whole h) rows s (V.map qs)) back ∙ made) (subst (λ qs. Each Q (places_in h rows s (V.map qs))) (sym back) all) was (each_put EntryPasses k w xs was new) given

      pub entry_gone : AllByRecursion Given (nodes_for h rows (form_of rows s) (V.map (pairs_of (without k xs))) k) → Each Q (In (without k xs))
      entry_gone given =
          differing k xs (without k xs) (λ q apart. without-other k q xs apart) (λ q apart. other_without h rows elem q k xs apart) t
          (ap (λ qs. represented (whole h) rows s (V.map qs)) back ∙ made) (subst (λ qs. Each Q (places_in h rows s (V.map qs))) (sym back) all) was (each_without EntryPasses k xs was) given
