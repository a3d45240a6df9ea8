-- The shown form of a value (IPLD Schemas, "type-level representation"): fields and members by their names, whatever the
-- strategy. Of a HAMT's root alone the data are shown. Of a value that is not of its slot's type, parts without a slot are left out.
use Rattle.std.specs.Prelude.{ℕ, List, [], ◌∷◌}
use Rattle.std.specs.Option.{option_map_or}
use Rattle.ild_data.specs.Data as T
use Rattle.ild_data.specs.Data.{Data}
use Rattle.ild_schema.specs.declared.number.Slot.{Slot}
use Rattle.ild_schema.specs.declared.def.Field.{Field}
use Rattle.ild_schema.specs.declared.def.Member.{Member}
use Rattle.ild_schema.specs.declared.def.EnumMember.{EnumMember}
use Rattle.ild_schema.specs.declared.row.Row.{Row}
use Rattle.ild_schema.specs.Value as V
use Rattle.ild_schema.specs.Value.{Value, Values, Pairs, Optionals}
use Rattle.ild_typed.specs.Strings.{map_data, in_key_order}
use Rattle.ild_schema.specs.Slots.{form_of}
use Rattle.ild_typed.specs.Slots.{element_of, fields_of, member_at, enum_member_at, slot_of}

abbrev mutual
  pub shown : List Row → Slot → Value → Data
  shown rows s V.null = T.null
  shown rows s (V.boolean b) = T.boolean b
  shown rows s (V.integer n) = T.integer n
  shown rows s (V.text t) = T.text t
  shown rows s (V.bytes t) = T.bytes t
  shown rows s (V.link t) = T.link t
  shown rows s (V.any d) = d
  shown rows s V.unit = T.map T.no_members
  shown rows s (V.enum n) = T.text (option_map_or (λ (m : EnumMember). m.name) (enum_member_at (form_of rows s) n) [])
  shown rows s (V.hamt d) = d
  shown rows s (V.list vs) = T.list (option_map_or (λ u. shown_values rows u vs) (element_of (form_of rows s)) T.no_items)
  shown rows s (V.map ps) = map_data (option_map_or (λ u. in_key_order (shown_pairs rows u ps)) (element_of (form_of rows s)) [])
  shown rows s (V.struct os) = map_data (in_key_order (shown_fields rows (fields_of (form_of rows s)) os))
  shown rows s (V.union n v) = map_data (option_map_or (λ (m : Member). (m.name, shown rows (slot_of m) v) ∷ []) (member_at (form_of rows s) n) [])

  pub shown_values : List Row → Slot → Values → T.Items
  shown_values rows s V.no_values = T.no_items
  shown_values rows s (V.value v vs) = T.item (shown rows s v) (shown_values rows s vs)

  pub shown_pairs : List Row → Slot → Pairs → List (List ℕ × Data)
  shown_pairs rows s V.no_pairs = []
  shown_pairs rows s (V.pair k v ps) = (k, shown rows s v) ∷ shown_pairs rows s ps

  pub shown_fields : List Row → List Field → Optionals → List (List ℕ × Data)
  shown_fields rows fs V.no_optionals = []
  shown_fields rows [] (V.absent os) = []
  shown_fields rows [] (V.present v os) = []
  shown_fields rows (f ∷ fs) (V.absent os) = shown_fields rows fs os
  shown_fields rows (f ∷ fs) (V.present v os) = (f.name, shown rows f.slot v) ∷ shown_fields rows fs os
