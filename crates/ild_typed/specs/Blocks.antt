-- The blocks of the HAMT nodes in a value (IPLD HashMap, "Element"): those beneath each root that has a trie, nested ones too.
use Rattle.std.specs.Prelude.{ℕ, cond, List, [], ◌∷◌, ◌++◌, Option, Some, is_some}
use Rattle.std.specs.Option.{option_map_or}
use Rattle.ild_data.specs.ByteOrder.{in_byte_order}
use Rattle.ild_data.specs.Data.{Data}
use Rattle.ild_data.specs.Trie.{trie}
use Rattle.ild_data.specs.TrieBlocks.{nodes_beneath}
use Rattle.ild_data.specs.TrieShape.{trie_levels}
use Rattle.ild_schema.specs.declared.number.Slot.{Slot}
use Rattle.ild_schema.specs.declared.def.TypeDef.{TypeDef}
use Rattle.ild_schema.specs.declared.def.TypeDef.TheVariants as D
use Rattle.ild_schema.specs.declared.def.MapForm.TheVariants as MF
use Rattle.ild_schema.specs.declared.def.Field.{Field}
use Rattle.ild_schema.specs.declared.row.Row.{Row}
use Rattle.ild_schema.specs.Value as V
use Rattle.ild_schema.specs.Value.{Value, Values, Pairs, Optionals}
use Rattle.ild_schema.specs.Slots.{form_of}
use Rattle.ild_typed.specs.Slots.{element_of, fields_of, member_of}
use Rattle.ild_typed.specs.Hamt.{whole}
use Rattle.ild_typed.specs.Represented.{represented_pairs}

-- the blocks of the nodes beneath the root of a HAMT with these entries
abbrev pub hamt_nodes : (List ℕ → List ℕ) → Option TypeDef → Option (List (List ℕ × Data)) → List (List ℕ)
hamt_nodes h (Some (D.Map key key_at value at (MF.Hamt p))) (Some es) =
    cond (is_some (trie h p es 0)) (nodes_beneath h p (trie_levels p) 0 (in_byte_order es)) []
hamt_nodes h d es = []

abbrev mutual
  pub nodes : (List ℕ → List ℕ) → List Row → Slot → Value → List (List ℕ)
  nodes h rows s (V.list vs) = option_map_or (λ u. nodes_of_values h rows u vs) (element_of (form_of rows s)) []
  nodes h rows s (V.map ps) =
      option_map_or (λ u. hamt_nodes h (form_of rows s) (represented_pairs (whole h) rows u ps) ++ nodes_of_pairs h rows u ps) (element_of (form_of rows s)) []
  nodes h rows s (V.struct os) = nodes_of_fields h rows (fields_of (form_of rows s)) os
  nodes h rows s (V.union n v) = option_map_or (λ u. nodes h rows u v) (member_of (form_of rows s) n) []
  nodes h rows s v = []

  pub nodes_of_values : (List ℕ → List ℕ) → List Row → Slot → Values → List (List ℕ)
  nodes_of_values h rows s V.no_values = []
  nodes_of_values h rows s (V.value v vs) = nodes h rows s v ++ nodes_of_values h rows s vs

  pub nodes_of_pairs : (List ℕ → List ℕ) → List Row → Slot → Pairs → List (List ℕ)
  nodes_of_pairs h rows s V.no_pairs = []
  nodes_of_pairs h rows s (V.pair k v ps) = nodes h rows s v ++ nodes_of_pairs h rows s ps

  pub nodes_of_fields : (List ℕ → List ℕ) → List Row → List Field → Optionals → List (List ℕ)
  nodes_of_fields h rows fs V.no_optionals = []
  nodes_of_fields h rows [] (V.absent os) = []
  nodes_of_fields h rows [] (V.present v os) = []
  nodes_of_fields h rows (f ∷ fs) (V.absent os) = nodes_of_fields h rows fs os
  nodes_of_fields h rows (f ∷ fs) (V.present v os) = nodes h rows f.slot v ++ nodes_of_fields h rows fs os
