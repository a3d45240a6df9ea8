use Rattle.std.proofs.Common.{◌≡◌, ◌-◌, length, option_map}
use Rattle.ild_data.specs.Data.{Items, items_list}
use Rattle.ild_cbor.specs.Chain.{chain}
use Rattle.ild_cbor.specs.Steps.{HasItems}
use Rattle.ild_node_slots.proofs.Telling.{EntriesAhead}
use Rattle.ild_node_slots.proofs.told.next_entries.Given as goal

abbrev pub invariant-loop : goal.invariant-loop
invariant-loop l = (es ds : Items) → HasItems l.fn.items (chain es ds) → length (items_list es) ≡ l.count → EntriesAhead l.items es ds (option_map (λ s. s.now) l.last) (l.count - l.counter)
