use Rattle.std.proofs.Common.{◌≡◌, ◌++◌, take}
use Rattle.ild_inclusion_prove.proofs.adding.add_all.Given as goal

abbrev pub invariant-loop-block : goal.invariant-loop-block
invariant-loop-block l = l.proof ≡ l.initial.proof ++ take l.block-index l.blocks
