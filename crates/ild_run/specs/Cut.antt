-- Lines that are written whole or cut off, with the status that this gives.
use Rattle.std.specs.Prelude.{◌≡◌, ◌⊎◌, ◌≤◌}
use Rattle.ild_edges.specs.Count.{Rose}
use Rattle.ild_edges.specs.Sink.{Output, Appends, AppendsFront}
use Rattle.ild_run.specs.Fault.{fault_text, status_of}
use Rattle.ild_run.specs.declared.fault.Fault.{Fault}
use Rattle.ild_run.specs.declared.status.Status.{Status}
use Rattle.ild_run.specs.declared.status.Status.TheVariants as S

-- the statuses of a text that was cut off, with their causes
abbrev pub CutAs : Output → Status → Output → Type 0
CutAs m S.SinkFault n = Rose m.faults n.faults
CutAs m S.Memory n = Unit {0}
CutAs m status n = ⊥

-- a fault's line was written, or cut off
pub record ToldAs (f : Fault) (m : Output) (status : Status) (n : Output) : Type 0 where
  pub told : ((status ≡ status_of f) × Appends m.written n.written (fault_text f)) ⊎ (CutAs m status n × AppendsFront m.written n.written (fault_text f))
  pub faults : m.faults ≤ n.faults
