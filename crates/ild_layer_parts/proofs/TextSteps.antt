-- The pairs of a text, one after another.
use Rattle.std.proofs.Common.{◌≡◌, ℕ, ◌+◌, List, [], ◌∷◌, true, false, Some, None, refl, sym, ◌∙◌, ap, subst}
use Rattle.std.specs.Borrow.{Bor}
use Rattle.ild_data.specs.Data as T
use Rattle.ild_data.specs.Data.{Data}
use Rattle.ild_cbor.specs.declared.piece.Piece.TheVariants as Q
use Rattle.ild_schema.specs.Slots.{plainly}
use Rattle.ild_schema.specs.declared.def.MapForm.TheVariants as MF
use Rattle.ild_schema.specs.declared.row.Row.{Row}
use Rattle.ild_layer_fields.specs.Entries.{text_entries}
use Rattle.ild_text.specs.Parts.{pairs_in}
use Rattle.ild_text.specs.declared.parts.PairParts.{PairParts}
use Rattle.ild_typed.specs.Spots.{Spot, entry_spots, key_spot, value_spot}
use Rattle.ild_layer_parts.specs.declared.part.Part.{Part}
use Rattle.ild_layer_parts.specs.declared.text_entries.TextEntries.{TextEntries}
use Rattle.ild_layer_places.specs.declared.way.Way.{Way}
use Rattle.ild_layer_parts.specs.Part.{IsSpotted, TakesSpot}
use Rattle.ild_layer_parts.specs.Texts.{HasTexts, IsTextHeld}
use Rattle.ild_layer_parts.specs.Ways.{LeadsFirst}
use Rattle.ild_layer_parts.proofs.Leading.{leads_there}
use Rattle.ild_layer_places.specs.Places.{steps_of}

module _ (s : TextEntries) (ps : List Spot) (h : HasTexts s ps) where
  pub text_value : (rows : List Row) (x : Bor (List ℕ)) (r : Part) (way : Way) → s.held ≡ Some x → r ≡ record { slot = s.value; piece = Q.Text x; is_key = false; way = way }
      → (rest : TextEntries) → rest ≡ record { key = s.key; value = s.value; split = s.split; held = None } → (others : List Spot) × TakesSpot rows ps others r × HasTexts rest others
  text_value rows x r way held same rest is =
      let behind : List Spot = entry_spots (MF.StringPairs h.inner h.entry) s.key s.value h.at (text_entries (pairs_in s.split)) in
      let spot : Spot = value_spot s.value (T.text x.now) [] in (
        behind,
        record { first = spot; is = subst (λ o. IsTextHeld s o behind ps) held h.is; spotted = subst (λ y. IsSpotted rows y spot) (sym same) (record { slot = refl; key = refl; stands = refl }) },
        subst (λ z. HasTexts z behind) (sym is) (record { inner = h.inner; entry = h.entry; at = h.at; is = refl }),
      )

  pub text_value_way : (x : Bor (List ℕ)) → s.held ≡ Some x → (r : Part) → steps_of r.way ≡ [] → LeadsFirst r ps
  text_value_way x held r way =
      let behind : List Spot = entry_spots (MF.StringPairs h.inner h.entry) s.key s.value h.at (text_entries (pairs_in s.split)) in
      leads_there r ps (value_spot s.value (T.text x.now) []) behind (subst (λ o. IsTextHeld s o behind ps) held h.is) way

  module _ (free : s.held ≡ None) where
    all_left : ps ≡ entry_spots (MF.StringPairs h.inner h.entry) s.key s.value h.at (text_entries (pairs_in s.split))
    all_left = subst (λ o. IsTextHeld s o (entry_spots (MF.StringPairs h.inner h.entry) s.key s.value h.at (text_entries (pairs_in s.split))) ps) free h.is

    pub text_end : pairs_in s.split ≡ [] → ps ≡ []
    text_end none = all_left ∙ ap (λ qs. entry_spots (MF.StringPairs h.inner h.entry) s.key s.value h.at (text_entries qs)) none

    pub text_key_way : (r : Part) → steps_of r.way ≡ [] → LeadsFirst r ps
    text_key_way r way = subst (LeadsFirst r) (sym all_left) (by (text_entries (pairs_in s.split))) where
      by : (es : List (List ℕ × Data)) → LeadsFirst r (entry_spots (MF.StringPairs h.inner h.entry) s.key s.value h.at es)
      by [] = tt
      by (e ∷ es) = way

    pub text_key : (rows : List Row) (k v : Bor (List ℕ)) (split : PairParts) (r : Part) (way : Way) → r ≡ record { slot = plainly s.key; piece = Q.Text k; is_key = true; way = way }
        → pairs_in s.split ≡ (k.now, v.now) ∷ pairs_in split → (rest : TextEntries) → rest ≡ record { key = s.key; value = s.value; split = split; held = Some v }
        → (others : List Spot) × TakesSpot rows ps others r × HasTexts rest others
    text_key rows k v split r way same first rest is =
        let behind : List Spot = entry_spots (MF.StringPairs h.inner h.entry) s.key s.value (h.at + 1) (text_entries (pairs_in split)) in
        let spot : Spot = key_spot s.key k.now [] in (
          value_spot s.value (T.text v.now) [] ∷ behind,
          record {
            first = spot;
            is = all_left ∙ ap (λ qs. entry_spots (MF.StringPairs h.inner h.entry) s.key s.value h.at (text_entries qs)) first;
            spotted = subst (λ y. IsSpotted rows y spot) (sym same) (record { slot = refl; key = refl; stands = refl });
          },
          subst (λ z. HasTexts z (value_spot s.value (T.text v.now) [] ∷ behind)) (sym is) (record { inner = h.inner; entry = h.entry; at = h.at + 1; is = refl }),
        )
