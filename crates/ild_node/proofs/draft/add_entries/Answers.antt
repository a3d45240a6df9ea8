use Rattle.std.proofs.Common.{refl, arith}
use Rattle.ild_node.proofs.Drafting.{entries-done}
use Rattle.ild_node.proofs.draft.add_entries.Goals as goal

pub returns : goal.returns
returns c = λ h es are. entries-done h es c.args.out.now _ _ c.args.entries.now _ c.loop-hashed.hashed-index are c.in_ok-head.ensures.ok refl c.loop-hashed.invariant (omega arith)
