-- A value that is created, and the line that is written of it.
use Rattle.std.specs.Prelude.{◌≡◌, ◌⊎◌, ◌≤◌, ℕ, List, Result, Ok, Err}
use Rattle.ild_run_create.specs.Creates.{Creates}
use Rattle.ild_run_create.specs.declared.fault.CreateFault.{CreateFault}
use Rattle.ild_run_create.specs.declared.fault.CreateFault.TheVariants as C
use Rattle.ild_data.specs.declared.id.BlockId.{BlockId}
use Rattle.ild_edges.specs.Sink.{Output, Appends, AppendsFront}
use Rattle.ild_edges.specs.Store.{Moment}
use Rattle.ild_schema.specs.Table.{IsTable}
use Rattle.ild_schema.specs.declared.number.TypeNo.{TypeNo}
use Rattle.ild_schema.specs.declared.row.Row.{Row}
use Rattle.ild_script.specs.Reply.{reply_text}
use Rattle.ild_script.specs.declared.reply.Reply.TheVariants as R
use Rattle.ild_run.specs.Cut.{CutAs, ToldAs}
use Rattle.ild_run.specs.Shown.{hash}
use Rattle.ild_run.specs.declared.fault.Fault.{Fault}
use Rattle.ild_run.specs.declared.fault.Fault.TheVariants as F
use Rattle.ild_run.specs.declared.status.Status.{Status}
use Rattle.ild_run.specs.declared.status.Status.TheVariants as S

abbrev pub made_fault : CreateFault → Fault
made_fault (C.Refused r) = F.Value r
made_fault C.Store = F.Store
made_fault (C.Clash id) = F.Clash id
made_fault C.Memory = F.Memory

-- the line of its root was written, or cut off; or that of the fault
abbrev pub MadeTold : Result BlockId CreateFault → Output → Status → Output → Type 0
MadeTold (Ok id) m status n =
    ((status ≡ S.Done) × Appends m.written n.written (reply_text (R.Root id))) ⊎ (CutAs m status n × AppendsFront m.written n.written (reply_text (R.Root id)))
MadeTold (Err f) m status n = ToldAs (made_fault f) m status n

pub record MadeAs (rows : List Row) (n : TypeNo) (b : List ℕ) (m : Moment) (was : Output) (status : Status) (k : Moment) (now : Output) : Type 0 where
  pub table : IsTable rows
  pub result : Result BlockId CreateFault
  pub creates : Creates hash rows n b m result k
  pub told : MadeTold result was status now
  pub faults : was.faults ≤ now.faults
