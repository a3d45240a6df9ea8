-- What a segment leads to in a holder, and the holder with that part set. What is not addressed stays.
use Rattle.std.specs.Prelude.{ℕ, suc, ◌+◌, ◌*◌, ◌-◌, List, [], ◌∷◌, Bool, true, false, Option, Some, None, slice_get, slice_set, option_map, option_and_then, decimal, if◌then◌else◌}
use Rattle.std.specs.Option.{option_map_or}
use Rattle.ild_data.specs.Decimal.{digits_value}
use Rattle.ild_data.specs.Key.{same_text, put, value_at}
use Rattle.ild_schema.specs.declared.def.Field.{Field}
use Rattle.ild_schema.specs.declared.def.Member.{Member}
use Rattle.ild_schema.specs.declared.number.Slot.{Slot}
use Rattle.ild_schema.specs.Prelude.{anything}
use Rattle.ild_schema.specs.Value.{Value}
use Rattle.ild_schema.specs.Slots.{plainly}
use Rattle.ild_typed.specs.Holder.{Holder, fields, member, entries, elements, any_entries, any_elements, nothing, of_any, data_in}

-- the number that a segment is in decimal, without leading zeros
unfoldable pub index_of : List ℕ → Option ℕ
index_of segment = if same_text segment (decimal (digits_value 0 segment)) then Some (digits_value 0 segment) else None

-- the field of a name: its slot, and its value where it is present
abbrev pub field_at : List ℕ → List Field → List (Option Value) → Option (Slot × Value)
field_at name [] os = None
field_at name (f ∷ fs) [] = None
field_at name (f ∷ fs) (o ∷ os) = if same_text name f.name then option_map (λ v. (f.slot, v)) o else field_at name fs os

abbrev pub set_field : {V : Type 0} → List ℕ → Option V → List Field → List (Option V) → List (Option V)
set_field name o [] os = os
set_field name o (f ∷ fs) [] = []
set_field name o (f ∷ fs) (p ∷ os) = if same_text name f.name then o ∷ os else p ∷ set_field name o fs os

-- the first member of a name, with its number
abbrev pub next_member : ℕ × Member → ℕ × Member
next_member p = (suc p.0, p.1)

abbrev pub member_named : List ℕ → List Member → Option (ℕ × Member)
member_named name [] = None
member_named name (m ∷ ms) = if same_text name m.name then Some (0, m) else option_map next_member (member_named name ms)

-- the held member, where it has this name
abbrev pub held_as : List ℕ → Value → Option Member → Option (Slot × Value)
held_as name v None = None
held_as name v (Some m) = if same_text name m.name then Some (plainly m.ty, v) else None

-- the part to which a segment leads, with its slot
abbrev pub part : Holder → List ℕ → Option (Slot × Value)
part (fields fs os) s = field_at s fs os
part (member ms n v) s = held_as s v (slice_get ms n)
part (entries key slot paired ps) s = option_map (λ v. (slot, v)) (value_at s ps)
part (elements slot vs) s = option_map (λ v. (slot, v)) (option_and_then (λ i. slice_get vs i) (index_of s))
part (any_entries ms) s = option_map (λ d. (anything, of_any d)) (value_at s ms)
part (any_elements ds) s = option_map (λ d. (anything, of_any d)) (option_and_then (λ i. slice_get ds i) (index_of s))
part (nothing v) s = None

-- the entries with v at k: in the place of the one that is there, else last
abbrev pub put_last : {V : Type 0} → List ℕ → V → List (List ℕ × V) → List (List ℕ × V)
put_last k v [] = (k, v) ∷ []
put_last k v (m ∷ ms) = if same_text k m.0 then (k, v) ∷ ms else m ∷ put_last k v ms

abbrev pub put_by : {V : Type 0} → Bool → List ℕ → V → List (List ℕ × V) → List (List ℕ × V)
put_by true k v ms = put_last k v ms
put_by false k v ms = put k v ms

-- at a place, if a segment is one
abbrev pub at_index : {X : Type 0} → (ℕ → List X → List X) → Option ℕ → List X → List X
at_index f None xs = xs
at_index f (Some i) xs = f i xs

-- the holder with w where the segment leads, and all else as it was: a field is set, a member held, an entry replaced or added,
-- an element replaced
abbrev pub set_part : Holder → List ℕ → Value → Holder
set_part (fields fs os) s w = fields fs (set_field s (Some w) fs os)
set_part (member ms n v) s w = option_map_or (λ (p : ℕ × Member). member ms p.0 w) (member_named s ms) (member ms n v)
set_part (entries key slot paired ps) s w = entries key slot paired (put_by paired s w ps)
set_part (elements slot vs) s w = elements slot (at_index (λ i xs. slice_set xs i w) (index_of s) vs)
set_part (any_entries ms) s w = any_entries (put s (data_in w) ms)
set_part (any_elements ds) s w = any_elements (at_index (λ i xs. slice_set xs i (data_in w)) (index_of s) ds)
set_part (nothing v) s w = nothing v
