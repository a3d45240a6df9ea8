-- A script over named heads that is answered.
use Rattle.std.specs.Prelude.{◌≡◌, ◌≤◌, ℕ, List, Bool, true, false, Result, Ok, Err}
use Rattle.ild_edges.specs.Sink.{Output}
use Rattle.ild_edges.specs.Store.{Moment}
use Rattle.ild_run_heads.specs.Heads.{HeadsRun}
use Rattle.ild_run_work.specs.Rules.{rules_of}
use Rattle.ild_schema.specs.Table.{IsTable}
use Rattle.ild_schema.specs.declared.number.TypeNo.{TypeNo}
use Rattle.ild_schema.specs.declared.row.Row.{Row}
use Rattle.ild_script_session.specs.declared.cut.Cut.{Cut}
use Rattle.ild_run.specs.Fault.{cut_status}
use Rattle.ild_run.specs.declared.status.Status.{Status}
use Rattle.ild_run.specs.declared.status.Status.TheVariants as S

-- the status of a script that was answered, of which a line says no or none, or whose text was cut off
abbrev pub headed_status : Result Bool Cut → Status
headed_status (Ok false) = S.Done
headed_status (Ok true) = S.Refused
headed_status (Err cut) = cut_status cut

pub record HeadedAs (rows : List Row) (n : TypeNo) (b : List ℕ) (m : Moment) (was : Output) (status : Status) (k : Moment) (now : Output) : Type 0 where
  pub table : IsTable rows
  pub result : Result Bool Cut
  pub runs : HeadsRun (rules_of rows n) b m was result k now
  pub status_is : status ≡ headed_status result
  pub faults : was.faults ≤ now.faults
