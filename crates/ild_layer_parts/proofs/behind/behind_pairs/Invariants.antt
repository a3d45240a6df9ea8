use Rattle.std.proofs.Common.{List}
use Rattle.ild_cbor.specs.declared.kind.Kind.TheVariants as K
use Rattle.ild_schema.specs.Slots.{plainly}
use Rattle.ild_schema.specs.declared.row.Row.{Row}
use Rattle.ild_typed.specs.Spots.{Spot}
use Rattle.ild_layer_parts.specs.PairEntries.{HasPairs}
use Rattle.ild_layer_parts.specs.inside.Leaf.{FitsOfKind, PassesOver}
use Rattle.ild_layer_parts.proofs.Passing.{From}
use Rattle.ild_layer_parts.proofs.behind.behind_pairs.Given as goal

abbrev pub invariant-loop-behind : goal.invariant-loop-behind
invariant-loop-behind l =
    (rows : List Row) (ps : List Spot) → FitsOfKind rows (plainly l.fn.pairs.key) K.Text → FitsOfKind rows l.fn.pairs.value l.fn.wanted → HasPairs l.fn.pairs ps → PassesOver rows ps (HasPairs (From l.fn.pairs l.items l.place))

abbrev pub decreases-loop-behind : goal.decreases-loop-behind
decreases-loop-behind l = l.items.left
