-- A value that is given a root that names its schema, and the line that is written of it.
use Rattle.std.specs.Prelude.{◌≤◌, ℕ, List, Result, Ok, Err}
use Rattle.ild_data.specs.declared.id.BlockId.{BlockId}
use Rattle.ild_edges.specs.Sink.{Output}
use Rattle.ild_edges.specs.Store.{Moment}
use Rattle.ild_run_create.specs.declared.fault.Refusal.TheVariants as R
use Rattle.ild_run_named.specs.Migrates.{Migrates}
use Rattle.ild_run_named.specs.declared.migrating.MigrateFault.{MigrateFault}
use Rattle.ild_run_named.specs.declared.migrating.MigrateFault.TheVariants as X
use Rattle.ild_schema.specs.Table.{IsTable}
use Rattle.ild_schema.specs.declared.number.TypeNo.{TypeNo}
use Rattle.ild_schema.specs.declared.row.Row.{Row}
use Rattle.ild_script.specs.declared.reply.Reply.TheVariants as L
use Rattle.ild_run.specs.Cut.{ToldAs}
use Rattle.ild_run.specs.Shown.{hash, Replied}
use Rattle.ild_run.specs.declared.fault.Fault.{Fault}
use Rattle.ild_run.specs.declared.fault.Fault.TheVariants as F
use Rattle.ild_run.specs.declared.status.Status.{Status}
use Rattle.ild_run.specs.declared.status.Status.TheVariants as S

-- a value that nests too deep for such a root, or is too long, is refused as any other that no store can hold
abbrev pub moved_fault : MigrateFault → Fault
moved_fault X.Depth = F.Value R.Depth
moved_fault X.Size = F.Value R.Size
moved_fault (X.Block id why) = F.Root id why
moved_fault X.Store = F.Store
moved_fault (X.Clash id) = F.Clash id
moved_fault X.Memory = F.Memory

-- the line of the new root was written, or cut off; or that of the fault
abbrev pub MovedTold : Result BlockId MigrateFault → Output → Status → Output → Type 0
MovedTold (Ok id) m status n = Replied (L.Root id) S.Done m status n
MovedTold (Err f) m status n = ToldAs (moved_fault f) m status n

pub record MovedAs (rows : List Row) (n : TypeNo) (id name source : List ℕ) (m : Moment) (was : Output) (status : Status) (k : Moment) (now : Output) : Type 0 where
  pub table : IsTable rows
  pub result : Result BlockId MigrateFault
  pub migrates : Migrates hash rows n id name source m result k
  pub told : MovedTold result was status now
  pub faults : was.faults ≤ now.faults
