-- The root of a HAMT, which is what a front has of it.
use Rattle.std.specs.Prelude.{List, Option, Some, None}
use Rattle.ild_data.specs.Data.{Data}
use Rattle.ild_data.specs.Trie.{TrieSlot}
use Rattle.ild_data.specs.declared.hamt_shape.HamtShape.{HamtShape}
use Rattle.ild_node_slots.specs.Views.{HasSlots}
use Rattle.ild_node_slots.specs.declared.view.NodeView.{NodeView}
use Rattle.ild_schema.specs.Value as V
use Rattle.ild_schema.specs.Value.{Value}
use Rattle.ild_typed.specs.Node.{IsRoot}

abbrev pub root_in : Value → Option Data
root_in (V.hamt d) = Some d
root_in v = None

-- the view of its node in the type's shape, exactly where there is a root
abbrev pub RootAt : Option HamtShape → Data → NodeView → Type 0
RootAt (Some p) d n = (slots : List TrieSlot) × IsRoot p slots d × HasSlots p n slots
RootAt None d n = ⊥

abbrev pub RootIs : Option HamtShape → Option Data → Option NodeView → Type 0
RootIs o None None = Unit {0}
RootIs o (Some d) (Some n) = RootAt o d n
RootIs o None (Some n) = ⊥
RootIs o (Some d) None = ⊥
