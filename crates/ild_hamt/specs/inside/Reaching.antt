-- The parts of what reaching a node gives.
use Rattle.std.specs.Prelude.{ℕ, List, Result, Ok, Err}
use Rattle.ild_node_slots.specs.declared.fault.HamtFault.{HamtFault}
use Rattle.ild_hamt.specs.declared.reaching.Reached.{Reached}

-- the block alone
abbrev pub reached_block : Result Reached HamtFault → Result (List ℕ) HamtFault
reached_block (Ok r) = Ok r.block
reached_block (Err e) = Err e
