use Rattle.ild_cbor.specs.Nodes.{HasData}
use Rattle.ild_data.specs.Data.{Members, map, members_list}
use Rattle.ild_splice.proofs.Searching.{Passed}
use Rattle.ild_splice.proofs.entry.place_of.Given as goal

abbrev pub invariant-loop-found : goal.invariant-loop-found
invariant-loop-found l = (ms : Members) → HasData l.node (map ms) → Passed l.key (members_list ms) l.passed l.rest
