-- The first of the parts that are left, form by form.
use Rattle.std.proofs.Common.{◌≡◌, ℕ, ◌+◌, List, [], ◌∷◌, Option, Some, None, true, refl, sym, ◌∙◌, ap, subst}
use Rattle.std.specs.Borrow.{Bor}
use Rattle.ild_cbor.specs.declared.node.Node.{Node}
use Rattle.ild_cbor.specs.declared.piece.Piece.TheVariants as P
use Rattle.ild_layer_piece.specs.Entries.{EntriesGive}
use Rattle.ild_layer_piece.specs.declared.walk.MapEntries.{MapEntries}
use Rattle.ild_layer_piece.proofs.Walking.{none_left, first_left}
use Rattle.ild_schema.specs.Slots.{plainly}
use Rattle.ild_schema.specs.declared.def.MapForm.TheVariants as MF
use Rattle.ild_schema.specs.declared.row.Row.{Row}
use Rattle.ild_typed.specs.Spots.{Spot, entry_spots, key_spot, value_spot, key, under}
use Rattle.ild_layer_parts.specs.declared.entries.Entries.{Entries}
use Rattle.ild_layer_parts.specs.declared.part.Part.{Part}
use Rattle.ild_layer_parts.specs.declared.parts.Parts.{Parts}
use Rattle.ild_layer_places.specs.declared.way.Way.{Way}
use Rattle.ild_layer_parts.specs.Entries.{HasEntries, FirstIsHeld}
use Rattle.ild_layer_parts.specs.Part.{IsSpotted, TakesSpot}
use Rattle.ild_layer_parts.specs.Parts.{HasLeft, LeadsOn, SplitsOff}
use Rattle.ild_layer_parts.specs.Ways.{LeadsFirst}
use Rattle.ild_layer_parts.proofs.Leading.{leads_there}
use Rattle.ild_layer_places.specs.Places.{steps_of}

module _ (s : Entries) (ps : List Spot) (h : HasEntries s ps) (free : s.held ≡ None) where
  all_left : ps ≡ entry_spots MF.Map s.key s.value h.at h.entries
  all_left = subst (λ o. FirstIsHeld s o (entry_spots MF.Map s.key s.value h.at h.entries) ps) free h.is

  pub entry_end : (t : MapEntries) → EntriesGive s.left None t → ps ≡ []
  entry_end t gives = all_left ∙ ap (entry_spots MF.Map s.key s.value h.at) (none_left s.left t h.entries gives h.left)

  pub key_step : (rows : List Row) (x : Bor (List ℕ) × Node) (t : MapEntries) (r : Part) (way : Way) → r ≡ record { slot = plainly s.key; piece = P.Text x.0; is_key = true; way = way }
      → EntriesGive s.left (Some x) t → (rest : List Spot) × TakesSpot rows ps rest r × HasEntries (record { key = s.key; value = s.value; left = t; held = Some x }) rest
  key_step rows x t r way is gives =
      let f = first_left s.left t x h.entries gives h.left in
      let k : Spot = key_spot s.key x.0.now (key x.0.now ∷ []) in (
        value_spot s.value f.value (under x.0.now ∷ []) ∷ entry_spots MF.Map s.key s.value (h.at + 1) f.rest,
        record {
          first = k;
          is = all_left ∙ ap (entry_spots MF.Map s.key s.value h.at) f.is;
          spotted = subst (λ y. IsSpotted rows y k) (sym is) (record { slot = refl; key = refl; stands = refl });
        },
        record { entries = f.rest; left = f.left; at = h.at + 1; is = (f.value, f.stands, refl) },
      )

  pub key_way : (x : Bor (List ℕ) × Node) (t : MapEntries) → EntriesGive s.left (Some x) t → (r : Part) → steps_of r.way ≡ key x.0.now ∷ [] → LeadsFirst r ps
  key_way x t gives r way =
      let f = first_left s.left t x h.entries gives h.left in
      leads_there r ps (key_spot s.key x.0.now (key x.0.now ∷ [])) (value_spot s.value f.value (under x.0.now ∷ []) ∷ entry_spots MF.Map s.key s.value (h.at + 1) f.rest)
      (all_left ∙ ap (entry_spots MF.Map s.key s.value h.at) f.is) way

pub value_way : (s : Entries) (ps : List Spot) → HasEntries s ps → (x : Bor (List ℕ) × Node) → s.held ≡ Some x → (r : Part) → steps_of r.way ≡ under x.0.now ∷ [] → LeadsFirst r ps
value_way s ps h x held r way =
    let behind : List Spot = entry_spots MF.Map s.key s.value h.at h.entries in
    let k = subst (λ o. FirstIsHeld s o behind ps) held h.is in
    leads_there r ps (value_spot s.value k.0 (under x.0.now ∷ [])) behind k.2 way

-- a part is handed out
pub takes_off : (rows : List Row) (ps rest : List Spot) (x : Part) (behind : Parts) → TakesSpot rows ps rest x → HasLeft rows behind rest → SplitsOff rows ps (Some x) behind
takes_off rows ps rest x behind k left = record { taken = k.first ∷ []; others = rest; is = k.is; first = (k.first, refl, k.spotted); left = left }

pub leads_as : (rows : List Row) (p q : Parts) (o : Option Part) (ps : List Spot) → p ≡ q → LeadsOn rows q o ps → LeadsOn rows p o ps
leads_as rows p q o ps is h = subst (λ r. LeadsOn rows r o ps) (sym is) h

pub left_as : (rows : List Row) (p q : Parts) (ps : List Spot) → p ≡ q → HasLeft rows p ps → HasLeft rows q ps
left_as rows p q ps is h = subst (λ r. HasLeft rows r ps) is h
