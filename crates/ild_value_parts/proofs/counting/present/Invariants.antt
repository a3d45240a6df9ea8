use Rattle.std.proofs.Common.{◌≡◌, ◌<◌, ◌+◌, length, [], drop}
use Rattle.ild_script_meaning.specs.Reads.{present_fields}
use Rattle.ild_schema.specs.Value.{optionals_list}
use Rattle.ild_value_shown.proofs.Forms.{present_shown}
use Rattle.ild_value_parts.proofs.counting.present.Given as goal

abbrev pub invariant-loop-i : goal.invariant-loop-i
invariant-loop-i l =
    (length (optionals_list l.vals) < 18446744073709551616)
    × (l.count + length (present_shown [] (drop l.i l.fields) (drop l.i (optionals_list l.vals))) ≡ length (present_fields l.fields (optionals_list l.vals)))
