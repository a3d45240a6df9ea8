-- Blocks of which each stands behind its children at a place in some HAMT of those that are weighed.
use Rattle.std.specs.Prelude.{ℕ, ◌≤◌, Bool, true, false, ◌||◌, ◌&&◌, cond, List, [], ◌∷◌, ◌++◌, is_some}
use Rattle.std.specs.Option.{option_map_or}
use Rattle.ild_data.specs.ByteOrder.{in_byte_order}
use Rattle.ild_data.specs.Key.{same_text}
use Rattle.ild_data.specs.Trie.{trie}
use Rattle.ild_data.specs.TrieShape.{trie_levels}
use Rattle.ild_data.specs.declared.hamt_shape.HamtShape.{HamtShape}
use Rattle.ild_schema.specs.declared.number.Slot.{Slot}
use Rattle.ild_schema.specs.declared.row.Row.{Row}
use Rattle.ild_schema.specs.Value.{Pairs}
use Rattle.ild_typed.specs.Hamt.{whole}
use Rattle.ild_typed.specs.Represented.{represented_pairs}
use Rattle.ild_typed_places.specs.Places.{Place, Places, at_key, each_place, places_beneath, places_in_pairs, places_over, tops}
use Rattle.ild_build_pass.specs.Weights.{Weight}

abbrev pub is_among : List ℕ → List (List ℕ) → Bool
is_among b [] = false
is_among b (c ∷ cs) = same_text b c || is_among b cs

abbrev pub are_among : List (List ℕ) → List (List ℕ) → Bool
are_among [] before = true
are_among (b ∷ bs) before = is_among b before && are_among bs before

-- one of the places has the block, and its children are all among these
abbrev pub has_place_over : List Place → List (List ℕ) → List ℕ → Bool
has_place_over [] before b = false
has_place_over (p ∷ ps) before b = (same_text p.0 b && are_among (tops p.1) before) || has_place_over ps before b

-- the places of a HAMT, by its shape, the slot of its values and its entries
abbrev pub hamt_places : (List ℕ → List ℕ) → HamtShape → List Row → Slot → Pairs → Places
hamt_places h p rows u ps = option_map_or
    (λ es. cond (is_some (trie h p es 0)) (places_beneath (at_key (places_in_pairs h rows u ps)) h p (trie_levels p) 0 (in_byte_order es)) (places_over (λ q. q.1) (places_in_pairs h rows u ps)))
    (represented_pairs (whole h) rows u ps) (places_over (λ q. q.1) (places_in_pairs h rows u ps))

-- one where it has such a place
abbrev pub over_children : (List ℕ → List ℕ) → List Row → List (List ℕ) → List ℕ → Weight
over_children h rows before b p u ps = cond (has_place_over (each_place (hamt_places h p rows u ps)) before b) 1 0

abbrev pub PlacedIn : (List ℕ → List ℕ) → List Row → (Weight → ℕ) → List (List ℕ) → List (List ℕ) → Type 0
PlacedIn h rows weight before [] = Unit {0}
PlacedIn h rows weight before (b ∷ bs) = (1 ≤ weight (over_children h rows before b)) × PlacedIn h rows weight (before ++ b ∷ []) bs
