-- The parts of a front in order, in their slots: the elements of a list, and the entries of a map with their keys.
use Rattle.std.specs.Prelude.{ℕ, List, Option, Some, None, map}
use Rattle.ild_data.specs.Data.{Data}
use Rattle.ild_schema.specs.Prelude.{anything}
use Rattle.ild_schema.specs.Value.{Value}
use Rattle.ild_schema.specs.declared.number.Slot.{Slot}
use Rattle.ild_typed.specs.At.{InSlot}
use Rattle.ild_typed.specs.Holder.{Holder, any_elements, any_entries, elements, entries, of_any}

abbrev pub in_slot : Slot → List Value → List InSlot
in_slot u vs = map (λ v. (u, v)) vs

abbrev pub in_any : List Data → List InSlot
in_any ds = map (λ d. (anything, of_any d)) ds

abbrev pub elements_in : Holder → Option (List InSlot)
elements_in (elements u vs) = Some (in_slot u vs)
elements_in (any_elements ds) = Some (in_any ds)
elements_in h = None

abbrev pub keyed_in : Slot → List (List ℕ × Value) → List (List ℕ × InSlot)
keyed_in u ps = map {B = List ℕ × InSlot} (λ p. (p.0, (u, p.1))) ps

abbrev pub keyed_any : List (List ℕ × Data) → List (List ℕ × InSlot)
keyed_any ms = map {B = List ℕ × InSlot} (λ m. (m.0, (anything, of_any m.1))) ms

abbrev pub entries_in : Holder → Option (List (List ℕ × InSlot))
entries_in (entries key u paired ps) = Some (keyed_in u ps)
entries_in (any_entries ms) = Some (keyed_any ms)
entries_in h = None
