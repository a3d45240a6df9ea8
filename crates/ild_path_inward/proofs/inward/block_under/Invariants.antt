use Rattle.std.proofs.Common.{◌≡◌, drop}
use Rattle.ild_path_inward.specs.Refuses.{block_behind}
use Rattle.ild_path_inward.proofs.inward.block_under.Given as goal

abbrev pub invariant-loop-hop : goal.invariant-loop-hop
invariant-loop-hop l = block_behind l.at (drop l.hop-index l.hops) ≡ block_behind l.block l.hops
