use Rattle.std.proofs.Common.{List}
use Rattle.ild_schema.specs.declared.row.Row.{Row}
use Rattle.ild_typed.specs.Spots.{Spot}
use Rattle.ild_layer_parts.specs.Elements.{HasElements}
use Rattle.ild_layer_parts.specs.inside.Leaf.{FitsOfKind, PassesOver}
use Rattle.ild_layer_parts.proofs.behind.behind_elements.Given as goal

abbrev pub invariant-loop-behind : goal.invariant-loop-behind
invariant-loop-behind l =
    (rows : List Row) (ps : List Spot) → FitsOfKind rows l.fn.elements.slot l.fn.wanted → HasElements l.fn.elements ps → PassesOver rows ps (HasElements (record { slot = l.fn.elements.slot; items = l.items; place = l.place }))

abbrev pub decreases-loop-behind : goal.decreases-loop-behind
decreases-loop-behind l = l.items.left
