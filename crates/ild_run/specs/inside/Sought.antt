-- A path that is proved, and the line that is written of it.
use Rattle.std.specs.Prelude.{◌≤◌, ℕ, List, Result, Ok, Err}
use Rattle.ild_edges.specs.Sink.{Output}
use Rattle.ild_edges.specs.Store.{Moment}
use Rattle.ild_run_prove.specs.Proved.{ProvesPath}
use Rattle.ild_run_prove.specs.declared.fault.ProveFault.{ProveFault}
use Rattle.ild_run_prove.specs.declared.fault.ProveFault.TheVariants as P
use Rattle.ild_schema.specs.Table.{IsTable}
use Rattle.ild_schema.specs.declared.number.TypeNo.{TypeNo}
use Rattle.ild_schema.specs.declared.row.Row.{Row}
use Rattle.ild_script.specs.declared.reply.Reply.TheVariants as R
use Rattle.ild_run.specs.Cut.{ToldAs}
use Rattle.ild_run.specs.Shown.{hash, Replied}
use Rattle.ild_run.specs.declared.fault.Fault.TheVariants as F
use Rattle.ild_run.specs.declared.status.Status.{Status}
use Rattle.ild_run.specs.declared.status.Status.TheVariants as S

-- the line of the proof's JSON was written, or cut off; or that of the fault
abbrev pub SoughtTold : Result (List ℕ) ProveFault → Output → Status → Output → Type 0
SoughtTold (Ok json) m status n = Replied (R.Ok json) S.Done m status n
SoughtTold (Err (P.Block id why)) m status n = ToldAs (F.Root id why) m status n
SoughtTold (Err P.Store) m status n = ToldAs F.Store m status n
SoughtTold (Err P.Memory) m status n = ToldAs F.Memory m status n

pub record SoughtAs (rows : List Row) (n : TypeNo) (id : List ℕ) (path : List (List ℕ)) (m : Moment) (was : Output) (status : Status) (k : Moment) (now : Output) : Type 0 where
  pub table : IsTable rows
  pub result : Result (List ℕ) ProveFault
  pub proves : ProvesPath hash rows n id path m result k
  pub told : SoughtTold result was status now
  pub faults : was.faults ≤ now.faults
