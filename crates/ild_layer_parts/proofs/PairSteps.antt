-- The pairs of a list, one after another.
use Rattle.std.proofs.Common.{◌≡◌, ℕ, ◌+◌, ◌-◌, ◌^◌, ◌≤◌, min, List, [], ◌∷◌, length, map, true, false, Some, None, refl, sym, ap, subst, arith, inl, inr}
use Rattle.std.specs.Borrow.{Bor}
use Rattle.std.specs.Prelude.{◌⊎◌}
use Rattle.ild_data.specs.Data as T
use Rattle.ild_data.specs.Data.{Data}
use Rattle.ild_cbor.specs.declared.items.Items.{Items}
use Rattle.ild_cbor.specs.declared.node.Node.{Node}
use Rattle.ild_cbor.specs.declared.piece.Piece.TheVariants as Q
use Rattle.ild_cbor.specs.Nodes.{HasData}
use Rattle.ild_cbor.specs.Steps.{HasItems, ItemsGive}
use Rattle.ild_schema.specs.Slots.{plainly}
use Rattle.ild_schema.specs.declared.def.MapForm.TheVariants as MF
use Rattle.ild_schema.specs.declared.row.Row.{Row}
use Rattle.ild_typed.specs.Named.{is_pair, is_two}
use Rattle.ild_typed.specs.Spots.{Spot, entry_spots, item, key_spot, value_spot}
use Rattle.ild_typed.specs.Strings.{pair_data}
use Rattle.ild_layer_parts.specs.declared.pair_entries.PairEntries.{PairEntries}
use Rattle.ild_layer_parts.specs.declared.part.Part.{Part}
use Rattle.ild_layer_places.specs.declared.way.Way.{Way}
use Rattle.ild_layer_parts.specs.PairEntries.{HasPairs, IsPairHeld}
use Rattle.ild_layer_parts.specs.Entries.{held_count}
use Rattle.ild_layer_parts.specs.Ways.{LeadsFirst}
use Rattle.ild_layer_parts.proofs.Leading.{goes_up, leads_there}
use Rattle.ild_layer_places.specs.Places.{steps_of}
use Rattle.ild_data.specs.Limits.{longest_block}
use Rattle.ild_layer_parts.specs.Part.{IsSpotted, TakesSpot}
use Rattle.ild_layer_pairs.proofs.Judging.{pair_same}

module _ (s : PairEntries) (ps : List Spot) (h : HasPairs s ps) where
  pub pair_value : (rows : List Row) (x : Node) (r : Part) (way : Way) → s.held ≡ Some x → r ≡ record { slot = s.value; piece = Q.Node x; is_key = false; way = way }
      → (next : ℕ) → next ≡ min (s.place + 1) (2 ^ 64 - 1) → (rest : PairEntries) → rest ≡ record { key = s.key; value = s.value; items = s.items; place = next; held = None }
      → (others : List Spot) × TakesSpot rows ps others r × HasPairs rest others
  pair_value rows x r way held same next up rest is =
      let k = subst (λ o. IsPairHeld s o h.entries ps) held h.is in
      let one : held_count s.held ≡ 1 = ap held_count held in
      let few = h.few in
      let here : next ≡ s.place + 1 = goes_up s.place next (omega (arith, few, one)) up in
      let behind : List Spot = entry_spots MF.ListPairs s.key s.value (s.place + 1) h.entries in
      let spot : Spot = value_spot s.value k.0 (item s.place ∷ item 1 ∷ []) in (
        behind,
        record { first = spot; is = k.2; spotted = subst (λ y. IsSpotted rows y spot) (sym same) (record { slot = refl; key = refl; stands = k.1 }) },
        subst (λ z. HasPairs z behind) (sym is) (subst (λ n. HasPairs (record { key = s.key; value = s.value; items = s.items; place = n; held = None }) behind) (sym here)
            (record { entries = h.entries; left = h.left; few = omega (arith, few, one); is = refl })),
      )

  pub pair_value_way : (x : Node) → s.held ≡ Some x → (r : Part) → steps_of r.way ≡ item s.place ∷ item 1 ∷ [] → LeadsFirst r ps
  pair_value_way x held r way =
      let k = subst (λ o. IsPairHeld s o h.entries ps) held h.is in
      leads_there r ps (value_spot s.value k.0 (item s.place ∷ item 1 ∷ [])) (entry_spots MF.ListPairs s.key s.value (s.place + 1) h.entries) k.2 way

  module _ (free : s.held ≡ None) where
    all_left : ps ≡ entry_spots MF.ListPairs s.key s.value s.place h.entries
    all_left = subst (λ o. IsPairHeld s o h.entries ps) free h.is

    pub pair_key_way : (r : Part) → steps_of r.way ≡ item s.place ∷ item 0 ∷ [] → LeadsFirst r ps
    pair_key_way r way = subst (LeadsFirst r) (sym all_left) (by h.entries) where
      by : (es : List (List ℕ × Data)) → LeadsFirst r (entry_spots MF.ListPairs s.key s.value s.place es)
      by [] = tt
      by (e ∷ es) = way

    pub pair_end : (after : Items) → ItemsGive s.items None after → ps ≡ []
    pair_end after gives = by h.entries h.left all_left where
      by : (es : List (List ℕ × Data)) → HasItems s.items (T.items_of (map pair_data es)) → ps ≡ entry_spots MF.ListPairs s.key s.value s.place es → ps ≡ []
      by [] left is = is
      by (e ∷ es) left is = absurd (gives (T.items_of (map pair_data (e ∷ es))) left)

    module _ (n : Node) (after : Items) (gives : ItemsGive s.items (Some n) after) where
      -- each of them is a pair
      pub pair_never : ((d : Data) → HasData n d → (is_pair d ≡ false) ⊎ (is_two d ≡ false)) → ps ≡ []
      pair_never odd = by h.entries h.left where
        none : (e : List ℕ × Data) → (is_pair (pair_data e) ≡ false) ⊎ (is_two (pair_data e) ≡ false) → ⊥
        none e (inl k) = cc
        none e (inr k) = cc

        by : (es : List (List ℕ × Data)) → HasItems s.items (T.items_of (map pair_data es)) → ps ≡ []
        by [] left = absurd (gives T.no_items left)
        by (e ∷ es) left = absurd (none e (odd (pair_data e) (gives (T.items_of (map pair_data (e ∷ es))) left).stands))

      pub pair_key : (rows : List Row) (k : Bor (List ℕ)) (v : Node) (r : Part) (way : Way) → r ≡ record { slot = plainly s.key; piece = Q.Text k; is_key = true; way = way }
          → ((d : Data) → HasData n d → (e : Data) × (d ≡ pair_data (k.now, e)) × HasData v e) → (rest : PairEntries) → rest ≡ record { key = s.key; value = s.value; items = after; place = s.place; held = Some v }
          → (others : List Spot) × TakesSpot rows ps others r × HasPairs rest others
      pair_key rows k v r way same shape rest is = by h.entries h.left h.few all_left where
        by : (es : List (List ℕ × Data)) → HasItems s.items (T.items_of (map pair_data es)) → s.place + held_count s.held + length es ≤ longest_block
            → ps ≡ entry_spots MF.ListPairs s.key s.value s.place es → (others : List Spot) × TakesSpot rows ps others r × HasPairs rest others
        by [] left few all = absurd (gives T.no_items left)
        by (e ∷ es) left few all =
            let x = gives (T.items_of (map pair_data (e ∷ es))) left in
            let y = shape (pair_data e) x.stands in
            let parts = pair_same e (k.now, y.0) y.1 in
            let spot : Spot = key_spot s.key e.0 (item s.place ∷ item 0 ∷ []) in
            let behind : List Spot = entry_spots MF.ListPairs s.key s.value (s.place + 1) es in
            let others : List Spot = value_spot s.value e.1 (item s.place ∷ item 1 ∷ []) ∷ behind in (
              others,
              record {
                first = spot;
                is = all;
                spotted = subst (λ z. IsSpotted rows z spot) (sym same) (record { slot = refl; key = refl; stands = ap T.text parts.0 });
              },
              subst (λ z. HasPairs z others) (sym is) (record {
                entries = es;
                left = x.left;
                few = omega (arith, few);
                is = (e.1, subst (HasData v) (sym parts.1) y.2, refl);
              }),
            )
