-- The parts of one layer of a value by their places, each with the slot that its type gives to the place (IPLD Schemas,
-- "Recursive kinds"): the elements of a list, the values of a map, the fields of a struct, the member of a union.
use Rattle.std.specs.Prelude.{ℕ, zero, suc, List, Option, Some, None, option_map, option_and_then, slice_get, length}
use Rattle.ild_schema.specs.declared.number.Slot.{Slot}
use Rattle.ild_schema.specs.declared.def.TypeDef.{TypeDef}
use Rattle.ild_schema.specs.Value as V
use Rattle.ild_schema.specs.Value.{Value, values_list, pairs_list, optionals_list}
use Rattle.ild_typed.specs.Slots.{element_of, fields_of, member_of}

-- a part with its slot, where there are both
abbrev pub in_slot : Option Slot → Option Value → Option (Slot × Value)
in_slot None o = None
in_slot (Some s) o = option_map {U = Slot × Value} (λ v. (s, v)) o

-- how many places there are
abbrev pub places : Value → ℕ
places (V.list vs) = length (values_list vs)
places (V.map ps) = length (pairs_list ps)
places (V.struct os) = length (optionals_list os)
places (V.union n v) = 1
places v = 0

abbrev pub field_at : List (Option Value) → ℕ → Option Value
field_at os i = option_and_then (λ o. o) (slice_get os i)

abbrev pub member_at : Value → ℕ → Option Value
member_at v zero = Some v
member_at v (suc i) = None

-- the part at a place; a field that is left out is none
abbrev pub value_part_at : Option TypeDef → Value → ℕ → Option (Slot × Value)
value_part_at d (V.list vs) i = in_slot (element_of d) (slice_get (values_list vs) i)
value_part_at d (V.map ps) i = in_slot (element_of d) (option_map (λ p. p.1) (slice_get (pairs_list ps) i))
value_part_at d (V.struct os) i = in_slot (option_map (λ f. f.slot) (slice_get (fields_of d) i)) (field_at (optionals_list os) i)
value_part_at d (V.union n v) i = in_slot (member_of d n) (member_at v i)
value_part_at d v i = None
