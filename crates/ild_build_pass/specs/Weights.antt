-- What the HAMTs in a value weigh together: each by itself, nested ones too (IPLD HashMap).
use Rattle.std.specs.Prelude.{ℕ, ◌+◌, List, [], ◌∷◌, cond, map, is_none, is_some, Option, Some, None, slice_get, option_and_then, option_map}
use Rattle.std.specs.List.{sum_by}
use Rattle.std.specs.Option.{option_map_or}
use Rattle.ild_data.specs.ByteOrder.{in_byte_order}
use Rattle.ild_data.specs.Data as T
use Rattle.ild_data.specs.Data.{Data}
use Rattle.ild_data.specs.Spell.{spell}
use Rattle.ild_data.specs.Trie.{trie}
use Rattle.ild_data.specs.TrieBlocks.{nodes_beneath}
use Rattle.ild_data.specs.TrieShape.{trie_levels}
use Rattle.ild_data.specs.declared.hamt_shape.HamtShape.{HamtShape}
use Rattle.ild_schema.specs.declared.number.Slot.{Slot}
use Rattle.ild_schema.specs.declared.def.TypeDef.{TypeDef}
use Rattle.ild_schema.specs.declared.def.TypeDef.TheVariants as D
use Rattle.ild_schema.specs.declared.def.MapForm.TheVariants as MF
use Rattle.ild_schema.specs.declared.def.Field.{Field}
use Rattle.ild_schema.specs.declared.row.Row.{Row}
use Rattle.ild_schema.specs.Slots.{form_of}
use Rattle.ild_schema.specs.Value as V
use Rattle.ild_schema.specs.Value.{Value, Values, Pairs, Optionals, pairs_list}
use Rattle.ild_typed.specs.Hamt.{root_map, whole}
use Rattle.ild_typed.specs.Represented.{represented_pairs}
use Rattle.ild_typed.specs.Slots.{element_of, fields_of, member_of}
use Rattle.ild_build.specs.PartAt.{field_at}

-- of one HAMT, by its shape, the slot of its values and its entries
abbrev pub Weight : Type 0
Weight = HamtShape → Slot → Pairs → ℕ

abbrev pub hamt_weight : Weight → Option TypeDef → Pairs → ℕ
hamt_weight μ (Some (D.Map key key_at value at (MF.Hamt p))) ps = μ p value ps
hamt_weight μ d ps = 0

-- ---- of all in a value

abbrev mutual
  pub weigh : Weight → List Row → Slot → Value → ℕ
  weigh μ rows s (V.list vs) = option_map_or (λ u. weigh_values μ rows u vs) (element_of (form_of rows s)) 0
  weigh μ rows s (V.map ps) = hamt_weight μ (form_of rows s) ps + option_map_or (λ u. weigh_pairs μ rows u ps) (element_of (form_of rows s)) 0
  weigh μ rows s (V.struct os) = weigh_fields μ rows (fields_of (form_of rows s)) os
  weigh μ rows s (V.union n v) = option_map_or (λ u. weigh μ rows u v) (member_of (form_of rows s) n) 0
  weigh μ rows s v = 0

  pub weigh_values : Weight → List Row → Slot → Values → ℕ
  weigh_values μ rows s V.no_values = 0
  weigh_values μ rows s (V.value v vs) = weigh μ rows s v + weigh_values μ rows s vs

  pub weigh_pairs : Weight → List Row → Slot → Pairs → ℕ
  weigh_pairs μ rows s V.no_pairs = 0
  weigh_pairs μ rows s (V.pair k v ps) = weigh μ rows s v + weigh_pairs μ rows s ps

  pub weigh_fields : Weight → List Row → List Field → Optionals → ℕ
  weigh_fields μ rows fs V.no_optionals = 0
  weigh_fields μ rows [] (V.absent os) = 0
  weigh_fields μ rows [] (V.present v os) = 0
  weigh_fields μ rows (f ∷ fs) (V.absent os) = weigh_fields μ rows fs os
  weigh_fields μ rows (f ∷ fs) (V.present v os) = weigh μ rows f.slot v + weigh_fields μ rows fs os

-- ---- of plain lists of parts

abbrev pub items_weight : Weight → List Row → Slot → List Value → ℕ
items_weight μ rows s [] = 0
items_weight μ rows s (v ∷ vs) = weigh μ rows s v + items_weight μ rows s vs

abbrev pub entries_weight : Weight → List Row → Slot → List (List ℕ × Value) → ℕ
entries_weight μ rows s [] = 0
entries_weight μ rows s (p ∷ ps) = weigh μ rows s p.1 + entries_weight μ rows s ps

abbrev pub fields_weight : Weight → List Row → List Field → List (Option Value) → ℕ
fields_weight μ rows [] os = 0
fields_weight μ rows (f ∷ fs) [] = 0
fields_weight μ rows (f ∷ fs) (Some v ∷ os) = weigh μ rows f.slot v + fields_weight μ rows fs os
fields_weight μ rows (f ∷ fs) (None ∷ os) = fields_weight μ rows fs os

-- the field at a place, if it is there
abbrev pub place_weight : Weight → List Row → List Field → List (Option Value) → ℕ → ℕ
place_weight μ rows fs os i = option_map_or (λ (f : Field). option_map_or (λ v. weigh μ rows f.slot v) (field_at os i) 0) (slice_get fs i) 0

abbrev pub places_weight : Weight → List Row → List Field → List (Option Value) → List ℕ → ℕ
places_weight μ rows fs os [] = 0
places_weight μ rows fs os (i ∷ is) = place_weight μ rows fs os i + places_weight μ rows fs os is

-- ---- two weights

-- the blocks of the nodes beneath a root
abbrev pub beneath_of : (List ℕ → List ℕ) → HamtShape → Option (List (List ℕ × Data)) → List (List ℕ)
beneath_of h p None = []
beneath_of h p (Some es) = cond (is_some (trie h p es 0)) (nodes_beneath h p (trie_levels p) 0 (in_byte_order es)) []

-- those blocks, each by its own weight
abbrev pub beneath : (List ℕ → List ℕ) → List Row → (List ℕ → ℕ) → Weight
beneath h rows f p value ps = sum_by f (beneath_of h p (represented_pairs (whole h) rows value ps))

abbrev pub bare_keys : List (List ℕ × Value) → List (List ℕ × Data)
bare_keys ps = map (λ (p : List ℕ × Value). (p.0, T.null)) ps

-- one where there is no trie of the keys, whatever stands at them
abbrev pub crowded : (List ℕ → List ℕ) → Weight
crowded h p value ps = cond (is_none (trie h p (bare_keys (pairs_list ps)) 0)) 1 0

-- ---- the root map of a HAMT

abbrev pub hamt_made : (List ℕ → List ℕ) → HamtShape → List Row → Slot → Pairs → Option (List ℕ)
hamt_made h p rows value ps = option_map spell (option_map (root_map p) (option_and_then (λ es. trie h p es 0) (represented_pairs (whole h) rows value ps)))
