use Rattle.std.proofs.Common.{◌≡◌, take, map, true}
use Rattle.ild_data.specs.Data.{members_of}
use Rattle.ild_data.specs.Seen.{pair_of}
use Rattle.ild_value_meaning.specs.Names.{are_named}
use Rattle.ild_value.proofs.part.are_named.Given as goal

abbrev pub invariant-loop-pair : goal.invariant-loop-pair
invariant-loop-pair l = are_named l.def.fields (members_of (map pair_of (take l.pair-index l.pair-items))) ≡ true
