use Rattle.std.proofs.Common.{◌≡◌, ◌≤◌, ◌-◌, ℕ, List, Option, Some, drop}
use Rattle.ild_data.specs.Data.{Data}
use Rattle.ild_path_changes.specs.Places.{field_data, field_named, field_place, left_out, written_before}
use Rattle.ild_schema.specs.Clear.{AreNamesApart}
use Rattle.ild_schema.specs.declared.def.Field.{Field}
use Rattle.ild_typed.specs.Fields.{field_entries}
use Rattle.ild_path_last.proofs.Passing.{Walks}
use Rattle.ild_path_last.proofs.seat.field_seat.Given as goal
use Rattle.ild_path_steps.specs.Seats.{HasPairs}

abbrev pub invariant-loop-i : goal.invariant-loop-i
invariant-loop-i l = (l.i ≤ l.number) × ((ds : List (Option Data)) (es : List (List ℕ × Data)) (k : List ℕ) (g : Field) → field_entries l.fields ds ≡ Some es → HasPairs l.items es → AreNamesApart l.fields → field_named k l.fields ≡ Some g
    → l.number ≡ field_place k l.fields → Walks k g (written_before left_out k l.fields ds) l.number (field_data k l.fields ds) (drop l.i l.fields) (drop l.i ds) l.i l.place l.left)

abbrev pub decreases-loop-i : goal.decreases-loop-i
decreases-loop-i l = l.number - l.i
