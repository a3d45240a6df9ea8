use Rattle.std.proofs.Common.{ℕ, List, map}
use Rattle.ild_data.specs.Data.{Data}
use Rattle.ild_data.specs.Trie.{entry_data}
use Rattle.ild_node_slots.specs.Items.{IsAtItem}
use Rattle.ild_node_slots.proofs.Left.{ValuesLeft}
use Rattle.ild_node_slots.proofs.parts.value_at.Given as goal

abbrev pub invariant-loop-item : goal.invariant-loop-item
invariant-loop-item l = (es : List (List ℕ × Data)) → IsAtItem l.bucket (map entry_data es) 0 l.fn.entries → ValuesLeft l.bucket l.item-iterator l.key es
