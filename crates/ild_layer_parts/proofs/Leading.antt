-- Counters of parts, and ways of the first spots.
use Rattle.std.proofs.Common.{◌≡◌, ◌≤◌, ℕ, ◌+◌, ◌-◌, ◌^◌, List, [], ◌∷◌, None, length, map, min, refl, sym, subst, arith}
use Rattle.ild_data.specs.Data as T
use Rattle.ild_data.specs.Data.{Data}
use Rattle.ild_data.specs.Limits.{longest_block}
use Rattle.ild_data.proofs.Sizes.{items_count}
use Rattle.ild_cbor.specs.Steps.{HasItems}
use Rattle.ild_cbor.specs.declared.items.Items.{Items}
use Rattle.ild_layer_places.specs.Places.{steps_of}
use Rattle.ild_schema.specs.declared.def.MapForm.TheVariants as MF
use Rattle.ild_schema.specs.declared.number.Slot.{Slot}
use Rattle.ild_schema.specs.declared.number.TypeNo.{TypeNo}
use Rattle.ild_typed.specs.Spots.{Spot, element_spots, entry_spots}
use Rattle.ild_typed.specs.Strings.{pair_data}
use Rattle.ild_layer_parts.specs.declared.part.Part.{Part}
use Rattle.ild_layer_parts.specs.Elements.{HasElements}
use Rattle.ild_layer_parts.specs.PairEntries.{HasPairs}
use Rattle.ild_layer_parts.specs.Ways.{LeadsFirst}

pub leads_there : (r : Part) (ps : List Spot) (p : Spot) (rest : List Spot) → ps ≡ p ∷ rest → steps_of r.way ≡ p.at → LeadsFirst r ps
leads_there r ps p rest is way = subst (LeadsFirst r) (sym is) way

-- a counter goes on
pub goes_up : (n next : ℕ) → n + 1 ≤ longest_block → next ≡ min (n + 1) (2 ^ 64 - 1) → next ≡ n + 1
goes_up n next few up = omega (arith, few, up)

pub few_items : (s : Items) (ds : T.Items) → HasItems s ds → length (T.items_list ds) ≤ longest_block
few_items s ds h = let count = items_count ds in let sized = h.sized in omega (arith, count, sized)

pairs_count : (es : List (List ℕ × Data)) → length (T.items_list (T.items_of (map pair_data es))) ≡ length es
pairs_count [] = refl
pairs_count (e ∷ es) = let more = pairs_count es in omega (arith, more)

pub few_pairs : (s : Items) (es : List (List ℕ × Data)) → HasItems s (T.items_of (map pair_data es)) → length es ≤ longest_block
few_pairs s es h = let few = few_items s (T.items_of (map pair_data es)) h in let same = pairs_count es in omega (arith, few, same)

-- ---- from the first on

pub first_elements : (slot : Slot) (s : Items) (ds : T.Items) → HasItems s ds → HasElements (record { slot = slot; items = s; place = 0 }) (element_spots slot 0 (T.items_list ds))
first_elements slot s ds has = record { items = ds; left = has; few = let few = few_items s ds has in omega (arith, few); is = refl }

pub first_pairs : (key : TypeNo) (value : Slot) (s : Items) (es : List (List ℕ × Data)) → HasItems s (T.items_of (map pair_data es))
    → HasPairs (record { key = key; value = value; items = s; place = 0; held = None }) (entry_spots MF.ListPairs key value 0 es)
first_pairs key value s es has = record { entries = es; left = has; few = let few = few_pairs s es has in omega (arith, few); is = refl }
