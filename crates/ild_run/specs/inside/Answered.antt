-- A script that is answered, and the line that is written where it can't start.
use Rattle.std.specs.Prelude.{◌≡◌, ◌≤◌, ℕ, List, Bool, true, false, Result, Ok, Err}
use Rattle.ild_edges.specs.Sink.{Output}
use Rattle.ild_edges.specs.Store.{Moment}
use Rattle.ild_run_open.specs.declared.start.Start.{Start}
use Rattle.ild_run_script.specs.Scripts.{Scripts}
use Rattle.ild_run_script.specs.declared.fault.ScriptFault.{ScriptFault}
use Rattle.ild_run_script.specs.declared.fault.ScriptFault.TheVariants as X
use Rattle.ild_schema.specs.Table.{IsTable}
use Rattle.ild_schema.specs.declared.number.TypeNo.{TypeNo}
use Rattle.ild_schema.specs.declared.row.Row.{Row}
use Rattle.ild_run.specs.Cut.{ToldAs}
use Rattle.ild_run.specs.Fault.{cut_status, start_fault}
use Rattle.ild_run.specs.declared.status.Status.{Status}
use Rattle.ild_run.specs.declared.status.Status.TheVariants as S

-- what is told behind the lines: of a script that couldn't start its fault, and else no more
abbrev pub AnsweredTold : Result Bool ScriptFault → Output → Status → Output → Type 0
AnsweredTold (Ok false) behind status now = (status ≡ S.Done) × (now ≡ behind)
AnsweredTold (Ok true) behind status now = (status ≡ S.Refused) × (now ≡ behind)
AnsweredTold (Err (X.Start f)) behind status now = ToldAs (start_fault f) behind status now
AnsweredTold (Err (X.Cut cut)) behind status now = (status ≡ cut_status cut) × (now ≡ behind)

pub record AnsweredAs (rows : List Row) (n : TypeNo) (start : Start) (b : List ℕ) (m : Moment) (was : Output) (status : Status) (k : Moment) (now : Output) : Type 0 where
  pub table : IsTable rows
  pub result : Result Bool ScriptFault
  pub behind : Output
  pub scripts : Scripts rows n start b m was result k behind
  pub told : AnsweredTold result behind status now
  pub faults : was.faults ≤ now.faults
