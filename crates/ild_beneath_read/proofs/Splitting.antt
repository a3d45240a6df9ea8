-- The first of the parts that are left.
use Rattle.std.proofs.Common.{◌≡◌, ℕ, List, [], ◌∷◌, ◌++◌, Option, Some, None, option_map, refl, ap, ◌∙◌}
use Rattle.std.specs.Borrow.{Bor}
use Rattle.ild_cbor.specs.Nodes.{HasData}
use Rattle.ild_cbor.specs.Steps.{HasItems, ItemsGive}
use Rattle.ild_cbor.specs.declared.items.Items.{Items}
use Rattle.ild_cbor.specs.declared.node.Node.{Node}
use Rattle.ild_data.specs.Data as T
use Rattle.ild_data.specs.Data.{Data}
use Rattle.ild_layer_fields.proofs.Pairing.{item_end, item_step}
use Rattle.ild_layer_piece.proofs.Walking.{first_left, none_left}
use Rattle.ild_layer_piece.specs.Entries.{EntriesGive, Found}
use Rattle.ild_layer_piece.specs.declared.walk.MapEntries.{MapEntries}
use Rattle.ild_open_held.specs.Splits.{Part, element_parts, entry_parts}
use Rattle.ild_schema.specs.declared.number.Slot.{Slot}
use Rattle.ild_typed.specs.Named.{entry_of, items_or, pair_entries}
use Rattle.ild_typed.specs.NodeReading.{pair_in}
use Rattle.ild_beneath_read.specs.inside.Left.{OfEntries, OfItems, SplitsOff, in_slot, value_parts}
use Rattle.ild_beneath_read.specs.inside.Pairs.{IsNamed}
use Rattle.ild_beneath_read.specs.declared.parts.Parts.TheVariants as P

-- ---- items

record OneMore (parts : List Data → List Part) (t : Items) (n : Node) (ps : List Part) : Type 0 where
  pub one : Data
  pub stands : HasData n one
  pub rest : T.Items
  pub left : HasItems t rest
  pub is : ps ≡ parts (one ∷ T.items_list rest)

module _ (parts : List Data → List Part) (s t : Items) (ps : List Part) (h : OfItems parts s ps) where
  one_more : (n : Node) → ItemsGive s (Some n) t → OneMore parts t n ps
  one_more n gives =
      let x = item_step s h.items n t gives h.left in
      record { one = x.one; stands = x.stands; rest = x.rest; left = x.left; is = h.is ∙ ap (λ ds. parts (T.items_list ds)) x.is }

  pub items_over : parts [] ≡ [] → ItemsGive s None t → ps ≡ []
  items_over none gives = h.is ∙ ap (λ ds. parts (T.items_list ds)) (item_end s h.items t gives h.left) ∙ none

module _ (u : Slot) (s t : Items) (n : Node) (ps : List Part) (gives : ItemsGive s (Some n) t) where
  pub split_item : OfItems (element_parts u) s ps → SplitsOff ps (Some (u, n)) (P.Items u t)
  split_item h =
      let x = one_more (element_parts u) s t ps h n gives in
      record { others = element_parts u (T.items_list x.rest); first = (x.one, x.stands, x.is); left = record { items = x.rest; left = x.left; is = refl } }

  -- ---- pairs with names

  abbrev pairs : List Data → List Part
  pairs ds = entry_parts u (pair_entries ds)

  pair_first : (k : Bor (List ℕ)) (v : Node) (es fs : List (List ℕ × Data)) → IsNamed es (Some (k, v)) → (d : Data) × HasData v d × (entry_parts u (es ++ fs) ≡ (u, d) ∷ entry_parts u fs)
  pair_first k v [] fs h = absurd h
  pair_first k v (e ∷ es) fs h = (e.1, h.2, ap (λ gs. (u, e.1) ∷ entry_parts u (gs ++ fs)) h.0)

  pair_none : (es fs : List (List ℕ × Data)) → IsNamed es None → entry_parts u (es ++ fs) ≡ entry_parts u fs
  pair_none [] fs h = refl
  pair_none (e ∷ es) fs h = absurd h

  pub split_pair : (k : Bor (List ℕ)) (v : Node) → ((d : Data) → HasData n d → IsNamed (entry_of (items_or d)) (Some (k, v))) → OfItems pairs s ps → SplitsOff ps (Some (u, v)) (P.Pairs u t)
  split_pair k v named h =
      let x = one_more pairs s t ps h n gives in
      let y = pair_first k v (entry_of (items_or x.one)) (pair_entries (T.items_list x.rest)) (named x.one x.stands) in
      record { others = pairs (T.items_list x.rest); first = (y.0, y.1, x.is ∙ y.2); left = record { items = x.rest; left = x.left; is = refl } }

  pub pass_pair : ((d : Data) → HasData n d → IsNamed (entry_of (items_or d)) None) → OfItems pairs s ps → SplitsOff ps None (P.Pairs u t)
  pass_pair named h =
      let x = one_more pairs s t ps h n gives in
      let y = pair_none (entry_of (items_or x.one)) (pair_entries (T.items_list x.rest)) (named x.one x.stands) in
      record { others = pairs (T.items_list x.rest); first = x.is ∙ y; left = record { items = x.rest; left = x.left; is = refl } }

  -- ---- entries of a bucket

  held_first : (v : Node) (o : Option Data) (qs : List Part) → Found o (Some v) → (d : Data) × HasData v d × (in_slot u o ++ qs ≡ (u, d) ∷ qs)
  held_first v None qs h = absurd h
  held_first v (Some d) qs h = (d, h, refl)

  held_none : (o : Option Data) (qs : List Part) → Found o None → in_slot u o ++ qs ≡ qs
  held_none None qs h = refl
  held_none (Some d) qs h = absurd h

  pub split_held : (v : Node) → ((d : Data) → HasData n d → Found (option_map (λ p. p.1) (pair_in d)) (Some v)) → OfItems (value_parts u) s ps → SplitsOff ps (Some (u, v)) (P.Bucket u t)
  split_held v held h =
      let x = one_more (value_parts u) s t ps h n gives in
      let y = held_first v (option_map (λ p. p.1) (pair_in x.one)) (value_parts u (T.items_list x.rest)) (held x.one x.stands) in
      record { others = value_parts u (T.items_list x.rest); first = (y.0, y.1, x.is ∙ y.2); left = record { items = x.rest; left = x.left; is = refl } }

  pub pass_held : ((d : Data) → HasData n d → Found (option_map (λ p. p.1) (pair_in d)) None) → OfItems (value_parts u) s ps → SplitsOff ps None (P.Bucket u t)
  pass_held held h =
      let x = one_more (value_parts u) s t ps h n gives in
      let y = held_none (option_map (λ p. p.1) (pair_in x.one)) (value_parts u (T.items_list x.rest)) (held x.one x.stands) in
      record { others = value_parts u (T.items_list x.rest); first = x.is ∙ y; left = record { items = x.rest; left = x.left; is = refl } }

-- ---- entries of a map

module _ (u : Slot) (s t : MapEntries) (ps : List Part) (h : OfEntries u s ps) where
  pub split_entry : (x : Bor (List ℕ) × Node) → EntriesGive s (Some x) t → SplitsOff ps (Some (u, x.1)) (P.Entries u t)
  split_entry x gives =
      let y = first_left s t x h.entries gives h.left in
      record { others = entry_parts u y.rest; first = (y.value, y.stands, h.is ∙ ap (entry_parts u) y.is); left = record { entries = y.rest; left = y.left; is = refl } }

  pub entries_over : EntriesGive s None t → ps ≡ []
  entries_over gives = h.is ∙ ap (entry_parts u) (none_left s t h.entries gives h.left)
