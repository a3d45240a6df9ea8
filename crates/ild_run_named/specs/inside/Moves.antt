-- The faults of a migration.
use Rattle.ild_data.specs.Bytes.{AreBytes}
use Rattle.ild_named_root.specs.declared.fault.NameFault.{NameFault}
use Rattle.ild_named_root.specs.declared.fault.NameFault.TheVariants as N
use Rattle.ild_open_parts.specs.declared.fault.OpenFault.{OpenFault}
use Rattle.ild_open_parts.specs.declared.fault.OpenFault.TheVariants as O
use Rattle.ild_run_named.specs.declared.migrating.MigrateFault.{MigrateFault}
use Rattle.ild_run_named.specs.declared.migrating.MigrateFault.TheVariants as F

abbrev pub migrate_fault : OpenFault → MigrateFault
migrate_fault (O.Block id why) = F.Block id why
migrate_fault O.Store = F.Store
migrate_fault O.Memory = F.Memory

abbrev pub name_fault : NameFault → MigrateFault
name_fault N.Depth = F.Depth
name_fault N.Size = F.Size
name_fault N.Store = F.Store
name_fault (N.Clash id kept new) = F.Clash id
name_fault (N.Block id why) = F.Block id why
name_fault N.Memory = F.Memory

-- the two blocks of a clash are bytes
abbrev pub TellsBytes : NameFault → Type 0
TellsBytes (N.Clash id kept new) = AreBytes kept × AreBytes new
TellsBytes fault = Unit {0}
