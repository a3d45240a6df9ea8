use Rattle.ild_data.proofs.varint.+groups_behind.Given as goal

abbrev pub decreases-groups_behind : goal.decreases-groups_behind
decreases-groups_behind l = l.room
