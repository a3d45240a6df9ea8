-- A proof that is weighed, and the line that is written where it isn't told what it says.
use Rattle.std.specs.Prelude.{◌≡◌, ◌≤◌, ℕ, List, Bool, true, false, Result, Ok, Err}
use Rattle.ild_edges.specs.Sink.{Output}
use Rattle.ild_run_verify.specs.Verified.{VerifiedAs}
use Rattle.ild_run_verify.specs.declared.fault.VerifyFault.{VerifyFault}
use Rattle.ild_run_verify.specs.declared.fault.VerifyFault.TheVariants as V
use Rattle.ild_schema.specs.Table.{IsTable}
use Rattle.ild_schema.specs.declared.number.TypeNo.{TypeNo}
use Rattle.ild_schema.specs.declared.row.Row.{Row}
use Rattle.ild_run.specs.Cut.{ToldAs}
use Rattle.ild_run.specs.Fault.{cut_status}
use Rattle.ild_run.specs.Shown.{hash}
use Rattle.ild_run.specs.declared.fault.Fault.TheVariants as F
use Rattle.ild_run.specs.declared.status.Status.{Status}
use Rattle.ild_run.specs.declared.status.Status.TheVariants as S

-- what is told behind the line: no more, unless there is none
abbrev pub WeighedTold : Result Bool VerifyFault → Output → Status → Output → Type 0
WeighedTold (Ok false) behind status now = (status ≡ S.Done) × (now ≡ behind)
WeighedTold (Ok true) behind status now = (status ≡ S.Refused) × (now ≡ behind)
WeighedTold (Err V.Proof) behind status now = ToldAs F.Proof behind status now
WeighedTold (Err V.Memory) behind status now = ToldAs F.Memory behind status now
WeighedTold (Err (V.Cut cut)) behind status now = (status ≡ cut_status cut) × (now ≡ behind)

pub record WeighedAs (rows : List Row) (n : TypeNo) (id : List ℕ) (path : List (List ℕ)) (b : List ℕ) (was : Output) (status : Status) (now : Output) : Type 0 where
  pub table : IsTable rows
  pub result : Result Bool VerifyFault
  pub behind : Output
  pub verified : VerifiedAs hash rows n id path b was result behind
  pub told : WeighedTold result behind status now
  pub faults : was.faults ≤ now.faults
