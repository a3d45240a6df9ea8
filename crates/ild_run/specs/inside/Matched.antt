-- Two types that are compared, and the line that is written where memory is wanting for the answer.
use Rattle.std.specs.Prelude.{◌≡◌, ◌≤◌, List, Bool, true, false, Result, Ok, Err}
use Rattle.ild_edges.specs.Sink.{Output}
use Rattle.ild_run_compare.specs.Compared.{ComparedAs}
use Rattle.ild_run_compare.specs.declared.fault.CompareFault.{CompareFault}
use Rattle.ild_run_compare.specs.declared.fault.CompareFault.TheVariants as C
use Rattle.ild_schema.specs.declared.number.TypeNo.{TypeNo}
use Rattle.ild_schema.specs.declared.row.Row.{Row}
use Rattle.ild_run.specs.Cut.{ToldAs}
use Rattle.ild_run.specs.Fault.{cut_status}
use Rattle.ild_run.specs.declared.fault.Fault.TheVariants as F
use Rattle.ild_run.specs.declared.status.Status.{Status}
use Rattle.ild_run.specs.declared.status.Status.TheVariants as S

-- what is told behind the answer's line: no more, unless there is none
abbrev pub MatchedTold : Result Bool CompareFault → Output → Status → Output → Type 0
MatchedTold (Ok true) behind status now = (status ≡ S.Done) × (now ≡ behind)
MatchedTold (Ok false) behind status now = (status ≡ S.Refused) × (now ≡ behind)
MatchedTold (Err C.Memory) behind status now = ToldAs F.Memory behind status now
MatchedTold (Err (C.Cut cut)) behind status now = (status ≡ cut_status cut) × (now ≡ behind)

pub record MatchedAs (rows others : List Row) (m n : TypeNo) (was : Output) (status : Status) (now : Output) : Type 0 where
  pub result : Result Bool CompareFault
  pub behind : Output
  pub compared : ComparedAs rows others m n was result behind
  pub told : MatchedTold result behind status now
  pub faults : was.faults ≤ now.faults
