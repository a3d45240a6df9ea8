use Rattle.std.proofs.Common.{List}
use Rattle.ild_data.specs.Trie.{TrieSlot}
use Rattle.ild_data.specs.declared.hamt_shape.HamtShape.{HamtShape}
use Rattle.ild_node_slots.specs.Steps.{IsAtSlot}
use Rattle.ild_node_slots.specs.Views.{HasSlots}
use Rattle.ild_open_nodes.proofs.Weighing.{Weighs}
use Rattle.ild_open_nodes.proofs.weigh.is_many.Given as goal

abbrev pub invariant-loop : goal.invariant-loop
invariant-loop l = (p : HamtShape) (ss : List TrieSlot) → HasSlots p l.fn.view ss → IsAtSlot l.fn.view ss l.counter l.slots × Weighs p ss l.counter l.left
