-- Why the empty map can't be put.
use Rattle.ild_run_generate.specs.declared.fault.GenerateFault.{GenerateFault}
use Rattle.ild_run_generate.specs.declared.fault.GenerateFault.TheVariants as F
use Rattle.ild_run_open.specs.declared.start.StartFault.{StartFault}
use Rattle.ild_run_open.specs.declared.start.StartFault.TheVariants as P

-- a map has an empty value, and there is no root
abbrev pub IsOfEmpty : StartFault → Type 0
IsOfEmpty (P.Block id why) = ⊥
IsOfEmpty P.Mismatch = ⊥
IsOfEmpty f = Unit {0}

abbrev pub start_fault : StartFault → GenerateFault
start_fault (P.Block id why) = F.Memory
start_fault P.Mismatch = F.Memory
start_fault P.Store = F.Store
start_fault (P.Clash id) = F.Clash id
start_fault P.Memory = F.Memory
