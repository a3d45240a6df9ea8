use Rattle.std.proofs.Common.{◌≡◌, ◌++◌, map, drop}
use Rattle.ild_data.specs.Data.{items_list}
use Rattle.ild_schema.specs.Value.{optionals_list}
use Rattle.ild_value_shown.proofs.Forms.{present_shown}
use Rattle.ild_value_parts.specs.Lists.{fields}
use Rattle.ild_value_parts.proofs.Lists.{named_entry}
use Rattle.ild_value_parts.proofs.listed.fields.Given as goal

abbrev pub invariant-loop-i : goal.invariant-loop-i
invariant-loop-i l = items_list l.pairs ++ map named_entry (present_shown l.acc (drop l.i l.declared) (drop l.i (optionals_list l.vals))) ≡ fields l.acc l.declared (optionals_list l.vals)
