-- The faults that end a call before its lines, each with its status and its line.
use Rattle.std.specs.Prelude.{ℕ, List, [], ◌∷◌, ◌++◌, codes}
use Rattle.std.specs.Fmt.{decimal}
use Rattle.ild_cbor.specs.declared.why.BlockWhy.{BlockWhy}
use Rattle.ild_cbor.specs.declared.why.BlockWhy.TheVariants as B
use Rattle.ild_compile.specs.Line.{flaw_text}
use Rattle.ild_compile.specs.declared.error.SchemaFault.{SchemaFault}
use Rattle.ild_run_create.specs.declared.fault.Refusal.{Refusal}
use Rattle.ild_run_create.specs.declared.fault.Refusal.TheVariants as R
use Rattle.ild_run_open.specs.declared.start.StartFault.{StartFault}
use Rattle.ild_run_open.specs.declared.start.StartFault.TheVariants as P
use Rattle.ild_data.specs.Spell.{cid_of}
use Rattle.ild_data.specs.CidText.{cid_text_of}
use Rattle.ild_run.specs.declared.fault.Fault.{Fault}
use Rattle.ild_run.specs.declared.fault.Fault.TheVariants as F
use Rattle.ild_run.specs.declared.fault.Role.{Role}
use Rattle.ild_run.specs.declared.fault.Trouble.{Trouble}
use Rattle.ild_run.specs.declared.fault.Trouble.TheVariants as T
use Rattle.ild_script_session.specs.declared.cut.Cut.{Cut}
use Rattle.ild_script_session.specs.declared.cut.Cut.TheVariants as C
use Rattle.ild_run.specs.declared.status.Status.{Status}
use Rattle.ild_run.specs.declared.status.Status.TheVariants as S

abbrev pub status_of : Fault → Status
status_of F.Words = S.Words
status_of (F.Schema f) = S.Schema
status_of (F.Input role trouble) = S.Input
status_of F.Store = S.StoreFault
status_of (F.Clash id) = S.StoreFault
status_of F.Memory = S.Memory
status_of (F.Value r) = S.Value
status_of F.Proof = S.Value
status_of (F.Root id why) = S.Root

-- of a script that can't start: a type without an empty value is refused as a value that isn't of it
abbrev pub start_fault : StartFault → Fault
start_fault (P.Block id why) = F.Root id why
start_fault P.Mismatch = F.Value R.Mismatch
start_fault P.Store = F.Store
start_fault (P.Clash id) = F.Clash id
start_fault P.Memory = F.Memory

abbrev pub input_text : Role → Trouble → List ℕ
input_text Role.Schema T.Failed = codes "fault 5 input schema failed\n"
input_text Role.Schema T.Absent = codes "fault 5 input schema absent\n"
input_text Role.Schema T.Long = codes "fault 5 input schema long\n"
input_text Role.Next T.Failed = codes "fault 5 input next failed\n"
input_text Role.Next T.Absent = codes "fault 5 input next absent\n"
input_text Role.Next T.Long = codes "fault 5 input next long\n"
input_text Role.Script T.Failed = codes "fault 5 input script failed\n"
input_text Role.Script T.Absent = codes "fault 5 input script absent\n"
input_text Role.Script T.Long = codes "fault 5 input script long\n"
input_text Role.Value T.Failed = codes "fault 5 input value failed\n"
input_text Role.Value T.Absent = codes "fault 5 input value absent\n"
input_text Role.Value T.Long = codes "fault 5 input value long\n"
input_text Role.Proof T.Failed = codes "fault 5 input proof failed\n"
input_text Role.Proof T.Absent = codes "fault 5 input proof absent\n"
input_text Role.Proof T.Long = codes "fault 5 input proof long\n"

-- the number and the name of the reply to an edit
abbrev pub value_text : Refusal → List ℕ
value_text R.Json = codes "fault 9 value 3 json\n"
value_text R.Mismatch = codes "fault 9 value 4 mismatch\n"
value_text R.Delimiter = codes "fault 9 value 5 delimiter\n"
value_text R.Hole = codes "fault 9 value 6 hole\n"
value_text R.Depth = codes "fault 9 value 7 depth\n"
value_text R.Exhausted = codes "fault 9 value 8 exhausted\n"
value_text R.Size = codes "fault 9 value 9 size\n"

-- `fault 3 schema STAGE N NAME at OFFSET`
abbrev pub schema_text : SchemaFault → List ℕ
schema_text f = codes "fault 3 schema " ++ flaw_text f.flaw ++ codes " at " ++ decimal f.at ++ 10 ∷ []

-- what is wrong with a block, before its CID
abbrev pub block_text : BlockWhy → List ℕ
block_text B.Missing = codes "fault 4 root missing "
block_text (B.Cbor fault) = codes "fault 4 root cbor "
block_text (B.Shape why) = codes "fault 4 root shape "

-- the line of a fault, with its line feed
abbrev pub fault_text : Fault → List ℕ
fault_text F.Words = codes "fault 2 words\n"
fault_text (F.Schema f) = schema_text f
fault_text (F.Input role trouble) = input_text role trouble
fault_text F.Store = codes "fault 6 store\n"
fault_text (F.Clash id) = codes "fault 6 clash " ++ (cid_text_of (cid_of id.0) ++ 10 ∷ [])
fault_text F.Memory = codes "fault 8 memory\n"
fault_text (F.Value r) = value_text r
fault_text F.Proof = codes "fault 9 value 16 proof\n"
fault_text (F.Root id why) = block_text why ++ (cid_text_of (cid_of id.0) ++ 10 ∷ [])

abbrev pub cut_status : Cut → Status
cut_status C.Sink = S.SinkFault
cut_status C.Memory = S.Memory

-- the number of a status
abbrev pub code_of : Status → ℕ
code_of S.Done = 0
code_of S.Refused = 1
code_of S.Words = 2
code_of S.Schema = 3
code_of S.Root = 4
code_of S.Input = 5
code_of S.StoreFault = 6
code_of S.SinkFault = 7
code_of S.Memory = 8
code_of S.Value = 9
