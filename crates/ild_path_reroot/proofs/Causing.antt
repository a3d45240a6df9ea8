-- What is left over every store by a call behind which a block is written.
use Rattle.std.proofs.Common.{List, ℕ}
use Rattle.std.specs.Prelude.{IfErr, Result, Ok, Err}
use Rattle.ild_edges.specs.Store.{Moment}
use Rattle.ild_node_slots.specs.declared.fault.HamtFault.{HamtFault}
use Rattle.ild_node_slots.specs.declared.fault.HamtFault.TheVariants as F
use Rattle.ild_hamt.specs.Edits.{CausedBy}
use Rattle.ild_path_reroot.specs.Reroots.{IsWritingFault}

pub caused_after : (m n : Moment) (b : List ℕ) (r : Result (List ℕ) HamtFault) → CausedBy m (Ok b) n → IfErr r IsWritingFault → CausedBy m r n
caused_after m n b (Ok c) x is = record { cause = tt; later = x.later }
caused_after m n b (Err F.Size) x is = record { cause = tt; later = x.later }
caused_after m n b (Err F.Memory) x is = record { cause = tt; later = x.later }
caused_after m n b (Err F.Exhausted) x is = absurd is
caused_after m n b (Err F.NoKey) x is = absurd is
caused_after m n b (Err F.Store) x is = absurd is
caused_after m n b (Err (F.Block id why)) x is = absurd is
caused_after m n b (Err (F.Clash id kept new)) x is = absurd is
