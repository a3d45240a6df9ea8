use Rattle.std.proofs.Common.{ℕ, List, map}
use Rattle.ild_data.specs.Data as T
use Rattle.ild_data.specs.Data.{Data}
use Rattle.ild_cbor.specs.Steps.{HasItems}
use Rattle.ild_typed.specs.Strings.{pair_data}
use Rattle.ild_layer_fields.proofs.Pairing.{Seeking}
use Rattle.ild_view_entries.proofs.entry.pair_value.Given as goal

abbrev pub invariant-loop-item : goal.invariant-loop-item
invariant-loop-item l = (es : List (List ℕ × Data)) → HasItems l.items (T.items_of (map pair_data es)) → Seeking l.key es l.left
