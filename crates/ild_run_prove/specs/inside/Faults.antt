-- What the faults of opening a root, and of a proof behind it, are told as.
use Rattle.ild_node_slots.specs.declared.fault.HamtFault.{HamtFault}
use Rattle.ild_node_slots.specs.declared.fault.HamtFault.TheVariants as H
use Rattle.ild_open_parts.specs.declared.fault.OpenFault.{OpenFault}
use Rattle.ild_open_parts.specs.declared.fault.OpenFault.TheVariants as O
use Rattle.ild_run_prove.specs.declared.fault.ProveFault.{ProveFault}
use Rattle.ild_run_prove.specs.declared.fault.ProveFault.TheVariants as F

abbrev pub open_fault : OpenFault → ProveFault
open_fault (O.Block id why) = F.Block id why
open_fault O.Store = F.Store
open_fault O.Memory = F.Memory

abbrev pub made_fault : HamtFault → ProveFault
made_fault (H.Block id why) = F.Block id why
made_fault H.Store = F.Store
made_fault e = F.Memory
