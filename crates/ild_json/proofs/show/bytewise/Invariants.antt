use Rattle.std.proofs.Common.{◌≡◌, map, take}
use Rattle.ild_data.specs.Seen.{pair_of}
use Rattle.ild_json.specs.Tokens.{entries_seen}
use Rattle.ild_json.proofs.show.bytewise.Given as goal

abbrev pub invariant-loop-pair : goal.invariant-loop-pair
invariant-loop-pair l = entries_seen l.pairs.items ≡ map pair_of (take l.pair-index l.pair-items)
