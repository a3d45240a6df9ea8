-- The faults of calls on HAMTs that only read.
use Rattle.ild_node_slots.specs.declared.fault.HamtFault.{HamtFault}
use Rattle.ild_node_slots.specs.declared.fault.HamtFault.TheVariants as F

-- a block is refused, the store failed, or memory is wanting; of the other faults none comes
abbrev pub IsReadFault : HamtFault → Type 0
IsReadFault (F.Block id why) = Unit {0}
IsReadFault F.Store = Unit {0}
IsReadFault F.Memory = Unit {0}
IsReadFault e = ⊥
