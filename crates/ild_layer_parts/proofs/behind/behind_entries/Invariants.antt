use Rattle.std.proofs.Common.{List}
use Rattle.ild_cbor.specs.declared.kind.Kind.TheVariants as K
use Rattle.ild_schema.specs.Slots.{plainly}
use Rattle.ild_schema.specs.declared.row.Row.{Row}
use Rattle.ild_typed.specs.Spots.{Spot}
use Rattle.ild_layer_parts.specs.Entries.{HasEntries}
use Rattle.ild_layer_parts.specs.inside.Leaf.{FitsOfKind, PassesOver}
use Rattle.ild_layer_parts.proofs.Passing.{Open}
use Rattle.ild_layer_parts.proofs.behind.behind_entries.Given as goal

abbrev pub invariant-loop-behind : goal.invariant-loop-behind
invariant-loop-behind l =
    (rows : List Row) (ps : List Spot) → FitsOfKind rows (plainly l.fn.entries.key) K.Text → FitsOfKind rows l.fn.entries.value l.fn.wanted → HasEntries l.fn.entries ps → PassesOver rows ps (HasEntries (Open l.fn.entries l.left))

abbrev pub decreases-loop-behind : goal.decreases-loop-behind
decreases-loop-behind l = l.left.pairs.left
