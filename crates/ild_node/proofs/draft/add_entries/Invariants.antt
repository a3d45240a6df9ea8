use Rattle.std.proofs.Common.{◌≡◌, ◌++◌, take, flat_map}
use Rattle.ild_node.proofs.Drafting.{entry_bytes}
use Rattle.ild_node.proofs.draft.add_entries.Given as goal

abbrev pub invariant-loop-hashed : goal.invariant-loop-hashed
invariant-loop-hashed l = l.out ≡ l.initial.out ++ flat_map entry_bytes (take l.hashed-index l.entries)
