use Rattle.std.proofs.Common.{◌+◌, ◌*◌}
use Rattle.ild_parse_grammar.specs.ReferenceSeen.{refers_of, nesting, nesting_of}
use Rattle.ild_resolve.proofs.reference.+reference.Given as goal

abbrev pub decreases-inline_type : goal.decreases-inline_type
decreases-inline_type l = 3 * nesting_of (refers_of l.inline.now) + 2

abbrev pub decreases-list_row : goal.decreases-list_row
decreases-list_row l = 3 * nesting l.elem.now + 1

abbrev pub decreases-map_row : goal.decreases-map_row
decreases-map_row l = 3 * nesting l.value.now + 1

abbrev pub decreases-slot_in : goal.decreases-slot_in
decreases-slot_in l = 3 * nesting l.reference.now
