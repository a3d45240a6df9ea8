use Rattle.std.proofs.Common.{◌-◌, ◌≡◌, ◌≤◌, List}
use Rattle.ild_schema.specs.declared.row.Row.{Row}
use Rattle.ild_typed.specs.Spots.{Spot}
use Rattle.ild_layer_parts.specs.Fields.{HasFields, written_in}
use Rattle.ild_layer_parts.proofs.fields.Fields.written_before.Given as goal

abbrev pub invariant-loop-i : goal.invariant-loop-i
invariant-loop-i l = (l.i ≤ l.self.next) × (l.written ≤ l.i) × ((rows : List Row) (ps : List Spot) (h : HasFields rows l.self ps) → l.written ≡ written_in l.i l.self.def.now.fields h.held)

abbrev pub decreases-loop-i : goal.decreases-loop-i
decreases-loop-i l = l.self.next - l.i
