-- The faults of a plan, as those of calls on HAMTs.
use Rattle.ild_bulk.specs.declared.fault.PlanFault.{PlanFault}
use Rattle.ild_bulk.specs.declared.fault.PlanFault.TheVariants as P
use Rattle.ild_node_slots.specs.declared.fault.HamtFault.{HamtFault}
use Rattle.ild_node_slots.specs.declared.fault.HamtFault.TheVariants.{Exhausted, Memory}

abbrev pub plan_fault : PlanFault → HamtFault
plan_fault P.Exhausted = Exhausted
plan_fault P.Memory = Memory
