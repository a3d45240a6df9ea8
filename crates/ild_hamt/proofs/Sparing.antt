-- What an edit leaves, whatever the trail, the root and the store are.
use Rattle.std.proofs.Common.{◌≡◌, List, ℕ, sym, subst}
use Rattle.std.specs.Prelude.{Result, Ok, Err}
use Rattle.ild_edges.specs.Store.{Moment, Later}
use Rattle.ild_edges.proofs.Later.{Later-refl}
use Rattle.ild_node_slots.specs.declared.fault.HamtFault.{HamtFault}
use Rattle.ild_node_slots.specs.declared.fault.HamtFault.TheVariants as F
use Rattle.ild_bulk.specs.Faults.{plan_fault}
use Rattle.ild_bulk.specs.Putting.{PutsAll}
use Rattle.ild_bulk.specs.declared.fault.PlanFault.{PlanFault}
use Rattle.ild_bulk.specs.declared.fault.PlanFault.TheVariants as P
use Rattle.ild_hamt_climb.specs.Planning.{PutsWay}
use Rattle.ild_hamt.specs.Edits.{CausedBy, FaultCause}

pub caused-memory : (m : Moment) → CausedBy m (Err F.Memory) m
caused-memory m = record { cause = tt; later = Later-refl m }

-- nothing was planned
pub caused-plan : (m : Moment) (e : PlanFault) → CausedBy m (Err (plan_fault e)) m
caused-plan m P.Exhausted = record { cause = tt; later = Later-refl m }
caused-plan m P.Memory = caused-memory m

pub caused-key : (m : Moment) → CausedBy m (Err F.NoKey) m
caused-key m = record { cause = tt; later = Later-refl m }

put-cause : (plan : List (List ℕ)) (m n : Moment) (e : HamtFault) → PutsAll m plan (Err e) n → FaultCause m e n
put-cause plan m n F.Store p = p.answer
put-cause plan m n (F.Clash id kept new) p = p.answer.1
put-cause plan m n (F.Block id why) p = absurd p.answer
put-cause plan m n F.Exhausted p = tt
put-cause plan m n F.Memory p = tt
put-cause plan m n F.NoKey p = tt
put-cause plan m n F.Size p = tt

caused-put : (plan : List (List ℕ)) (m n : Moment) (e : HamtFault) → PutsAll m plan (Err e) n → CausedBy m (Err e) n
caused-put plan m n e p = record { cause = put-cause plan m n e p; later = p.later }

pub caused-way : (root : List ℕ) (plan : List (List ℕ)) (m n : Moment) (r : Result (List ℕ) HamtFault) → PutsWay root plan m r n → CausedBy m r n
caused-way root plan m n (Ok b) p = record { cause = tt; later = p.2.later }
caused-way root plan m n (Err F.Size) p = record { cause = tt; later = subst (Later m) (sym p.1) (Later-refl m) }
caused-way root plan m n (Err F.Exhausted) p = caused-put plan m n F.Exhausted p.1
caused-way root plan m n (Err F.Memory) p = caused-put plan m n F.Memory p.1
caused-way root plan m n (Err F.NoKey) p = caused-put plan m n F.NoKey p.1
caused-way root plan m n (Err F.Store) p = caused-put plan m n F.Store p.1
caused-way root plan m n (Err (F.Block id why)) p = caused-put plan m n (F.Block id why) p.1
caused-way root plan m n (Err (F.Clash id kept new)) p = caused-put plan m n (F.Clash id kept new) p.1
