-- The faults of what is called, as those of reading.
use Rattle.std.specs.Prelude.{Result, Ok, Err}
use Rattle.ild_hamt.specs.declared.trail.Trail.{Trail}
use Rattle.ild_open_parts.specs.declared.fault.OpenFault.{OpenFault}
use Rattle.ild_open_parts.specs.declared.fault.OpenFault.TheVariants as O
use Rattle.ild_node_slots.specs.declared.fault.HamtFault.{HamtFault}
use Rattle.ild_node_slots.specs.declared.fault.HamtFault.TheVariants as H
use Rattle.ild_run_follow.specs.declared.fault.ReadFault.{ReadFault}
use Rattle.ild_run_follow.specs.declared.fault.ReadFault.TheVariants as F

abbrev pub hamt_fault : HamtFault → ReadFault
hamt_fault (H.Block id why) = F.Block id why
hamt_fault H.Store = F.Store
hamt_fault e = F.Memory

abbrev pub entered_as : Result Trail HamtFault → Result Trail ReadFault
entered_as (Ok t) = Ok t
entered_as (Err e) = Err (hamt_fault e)

abbrev pub open_fault : OpenFault → ReadFault
open_fault (O.Block id why) = F.Block id why
open_fault O.Store = F.Store
open_fault O.Memory = F.Memory
