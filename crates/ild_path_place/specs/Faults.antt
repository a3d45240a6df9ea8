-- The faults of a HAMT's descent, as those of a path.
use Rattle.ild_node_slots.specs.declared.fault.HamtFault.{HamtFault}
use Rattle.ild_node_slots.specs.declared.fault.HamtFault.TheVariants as H
use Rattle.ild_path_place.specs.declared.fault.PathFault.{PathFault}
use Rattle.ild_path_place.specs.declared.fault.PathFault.TheVariants as F

abbrev pub hamt_fault : HamtFault → PathFault
hamt_fault (H.Block id why) = F.Block id why
hamt_fault H.Store = F.Store
hamt_fault e = F.Memory
