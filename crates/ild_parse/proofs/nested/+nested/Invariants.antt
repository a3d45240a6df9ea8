use Rattle.std.proofs.Common.{◌+◌, ◌*◌}
use Rattle.ild_parse.proofs.nested.+nested.Given as goal

abbrev pub decreases-read_inline : goal.decreases-read_inline
decreases-read_inline l = 4 * l.room

abbrev pub decreases-read_ref : goal.decreases-read_ref
decreases-read_ref l = 4 * l.room + 1

abbrev pub decreases-read_element : goal.decreases-read_element
decreases-read_element l = 4 * l.room + 2

abbrev pub decreases-read_pair : goal.decreases-read_pair
decreases-read_pair l = 4 * l.room + 2

abbrev pub decreases-read_list : goal.decreases-read_list
decreases-read_list l = 4 * l.room + 3

abbrev pub decreases-read_map : goal.decreases-read_map
decreases-read_map l = 4 * l.room + 3
