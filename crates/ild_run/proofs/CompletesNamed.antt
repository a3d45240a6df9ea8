-- Where nothing stands in the way, a script on the value under a root that names its schema is answered as on the plain value.
use Rattle.std.proofs.Common.{◌≡◌, ◌⊎◌, ℕ, ◌<◌, ◌≤◌, List, length, Bool, true, false, Option, Some, None, Result, Ok, Err, sym, ap, ◌∙◌, subst, inl, inr, arith, if◌then◌else◌}
use Rattle.std.proofs.lemmas.Option.{same_Some}
use Rattle.ild_compile.specs.Compile.{HasAccepted}
use Rattle.ild_data.specs.declared.id.BlockId.{BlockId}
use Rattle.ild_edges.proofs.Reading.{from_told}
use Rattle.ild_edges.specs.Count.{Rose, bumped}
use Rattle.ild_edges.specs.Inputs.{MayBe}
use Rattle.ild_edges.specs.Sink.{Output, Appends, AppendsFront}
use Rattle.ild_edges.specs.Store.{Moment, block_at}
use Rattle.ild_edges.specs.declared.inputs.Taken.{Taken}
use Rattle.ild_edges.specs.declared.inputs.Taken.TheVariants as K
use Rattle.ild_named_law.proofs.Rooting.{roots_structs}
use Rattle.ild_named_law.specs.Law.{rooted}
use Rattle.ild_named_lines.specs.Beneath.{script_beneath}
use Rattle.ild_named_replies.specs.Replies.{on_struct, under_name}
use Rattle.ild_named_scripts.proofs.Maying.{may_alike}
use Rattle.ild_named_scripts.proofs.Scripting.{scripts_alike}
use Rattle.ild_named_scripts.proofs.Testing.{tested}
use Rattle.ild_named_scripts.specs.Adds.{MayAlike}
use Rattle.ild_named_scripts.specs.Tests.{struct_tests}
use Rattle.ild_named_type.specs.Root.{named_rows, root_type}
use Rattle.ild_open_named.specs.Described.{IsDescribed}
use Rattle.ild_open_parts.specs.declared.fault.OpenFault.{OpenFault}
use Rattle.ild_open_parts.specs.declared.fault.OpenFault.TheVariants as O
use Rattle.ild_path_edits.specs.Judged.{AreTests, Tests}
use Rattle.ild_run_named.proofs.Told.{number_is, one_described, one_table, tells}
use Rattle.ild_run_named.proofs.Within.{named_within}
use Rattle.ild_run_named_script.specs.NamedScripts.{NamedScripts}
use Rattle.ild_run_named_script.specs.declared.fault.NamedScriptFault.{NamedScriptFault}
use Rattle.ild_run_named_script.specs.declared.fault.NamedScriptFault.TheVariants as B
use Rattle.ild_run_named_table.specs.NamedTable.{HasNamedTable, NamesTable}
use Rattle.ild_run_open.specs.declared.start.Start.TheVariants as T
use Rattle.ild_run_open.specs.declared.start.StartFault.TheVariants as P
use Rattle.ild_run_script.specs.Plainly.{MayCome}
use Rattle.ild_run_script.specs.Scripts.{AnswersAll as ScriptAll}
use Rattle.ild_run_script.specs.declared.fault.ScriptFault.TheVariants as X
use Rattle.ild_schema.specs.Names.{number_named}
use Rattle.ild_schema.specs.Value.{Value as Typed}
use Rattle.ild_schema.specs.declared.number.TypeNo.{TypeNo}
use Rattle.ild_schema.specs.declared.row.Row.{Row}
use Rattle.ild_script.specs.Line.{lines_of}
use Rattle.ild_script_session.specs.Plain.{MayPut}
use Rattle.ild_script_session.specs.Session.{idle}
use Rattle.ild_script_session.specs.declared.cut.Cut.TheVariants as C
use Rattle.ild_typed.specs.Stands.{bare, Stands}
use Rattle.ild_run.specs.Complete.{AnswersPlainly, IsUndisturbed}
use Rattle.ild_run.specs.Cut.{CutAs, ToldAs}
use Rattle.ild_run.specs.Ended.{Call}
use Rattle.ild_run.specs.Fault.{fault_text}
use Rattle.ild_run.specs.NamedScript.{AnswersAsDue, AnswersBeneath, BeneathAs, BeneathTold, EndsScript, InputTold, IsAnsweredBy, IsGivenBeneath, LetsAnswer, TableTold, TakesScript, due_beneath}
use Rattle.ild_run.specs.Opening.{InputAnswer}
use Rattle.ild_run.specs.Shown.{hash}
use Rattle.ild_run.specs.declared.fault.Fault.{Fault}
use Rattle.ild_run.specs.declared.fault.Fault.TheVariants as F
use Rattle.ild_run.specs.declared.fault.Role.TheVariants as R
use Rattle.ild_run.specs.declared.fault.Trouble.TheVariants as U
use Rattle.ild_run.specs.declared.status.Status.{Status}
use Rattle.ild_run.specs.declared.status.Status.TheVariants as S
use Rattle.ild_run.proofs.CompletesScript.{plain_from, start_there}
use Rattle.ild_run.proofs.Generating.{cut_memory}

taken_same : (a b : List ℕ) → K.Bytes a ≡ K.Bytes b → a ≡ b
taken_same a b same = cc

module _ (s : List ℕ × List ℕ) (c : Call) (status : Status) (rows : List Row) (n : TypeNo) (tests : Tests) (v : Typed) (script : List ℕ) (given : IsGivenBeneath s c rows n tests v script)
    (lets : LetsAnswer c (due_beneath rows n tests given.stands.name given.stands.source) v script) where
  abbrev id : BlockId
  id = record { 0 = s.0 }

  abbrev longer : List Row
  longer = named_rows rows n

  abbrev top : TypeNo
  top = root_type rows

  abbrev whole : Typed
  whole = rooted given.stands.name given.stands.source v

  abbrev others : Tests
  others = struct_tests rows n tests

  abbrev Plainly : Type 0
  Plainly = (status ≡ S.Memory) ⊎ AnswersPlainly c longer top others whole (script_beneath script) status

  low : n.0 < length rows
  low = named_within rows given.stands.name (Some n) (sym given.stands.describes.type)

  others_tested : AreTests longer others
  others_tested = tested rows n given.stands.describes.table low tests given.tested

  -- ---- from the value to the struct

  mays : MayAlike given.stands.name given.stands.source (on_struct hash rows others n) (under_name hash rows tests n given.stands.name given.stands.source) script (idle v)
  mays = may_alike hash rows n given.stands.describes.table low tests given.tested given.stands.name given.stands.source given.stands.is.naming script (idle v)

  own_put : (b : List ℕ) → MayCome longer top others (T.Root id) whole (script_beneath script) b → MayPut (due_beneath rows n tests given.stands.name given.stands.source) (idle v) (lines_of script) b
  own_put b (inl none) = absurd none
  own_put b (inr may) = mays.puts b may

  calm : IsUndisturbed c longer top others (T.Root id) whole (script_beneath script)
  calm = record {
    faultless = lets.faultless;
    apart = record {
      held = λ kept new may. lets.apart.held kept new (own_put new may);
      inside = λ begins a b may_a may_b. lets.apart.inside (mays.begins.0 begins) a b (own_put a may_a) (own_put b may_b);
    };
  }

  -- ---- and back

  own_answers : AnswersPlainly c longer top others whole (script_beneath script) status → AnswersAsDue c (due_beneath rows n tests given.stands.name given.stands.source) v script status
  own_answers all =
      let runs = scripts_alike hash rows n given.stands.describes.table low tests given.tested given.stands.name given.stands.source given.stands.is.naming script (idle v) in
      let own = runs.own_of all.replies all.last all.run in
      record { replies = all.replies; last = own.0; run = own.1; written = all.written; status_is = all.status_is }

  own_or_memory : Plainly → (status ≡ S.Memory) ⊎ AnswersAsDue c (due_beneath rows n tests given.stands.name given.stands.source) v script status
  own_or_memory (inl memory) = inl memory
  own_or_memory (inr all) = inr (own_answers all)

  memory_told : ToldAs F.Memory c.before.output status c.after.output → Plainly
  memory_told line = by line.told where
    by : ((status ≡ S.Memory) × Appends c.before.output.written c.after.output.written (fault_text F.Memory)) ⊎ (CutAs c.before.output status c.after.output × AppendsFront c.before.output.written c.after.output.written (fault_text F.Memory)) → Plainly
    by (inl all) = inl all.0
    by (inr cut) = inl (cut_memory c.before.output c.after.output status calm.faultless.calm.sink cut.0)

  -- the root is a bare one of the longer table
  stands_bare : Stands bare (block_at given.held) hash longer top s.0 whole
  stands_bare =
      let st = given.stands in
      let both = roots_structs (block_at given.held) hash rows n st.describes.table low st.name st.source st.is.naming s.0 v in
      (both.0 st.is.stands).0

  -- ---- the lines

  module _ (m : Moment) (store : m.blocks ≡ Some given.held) (still : Rose m.faults c.after.moment.faults → ⊥) where
    lines_by : (refused : Bool) → (behind : Output) → status ≡ (if refused then S.Refused else S.Done) → c.after.output ≡ behind → BeneathAs longer top id script m c.before.output status c.after.moment c.after.output
        → ScriptAll longer top (T.Root id) (script_beneath script) m c.before.output refused c.after.moment behind → Plainly
    lines_by refused behind is same has all =
        inr (plain_from c longer top others (T.Root id) whole (script_beneath script) m given.held store others_tested stands_bare still calm.apart status refused is has.schema
        (subst (λ (o : Output). ScriptAll longer top (T.Root id) (script_beneath script) m c.before.output refused c.after.moment o) (sym same) all))

    result_by : (result : Result Bool NamedScriptFault) (behind : Output) → BeneathAs longer top id script m c.before.output status c.after.moment c.after.output
        → NamedScripts longer top id script m c.before.output result c.after.moment behind → BeneathTold result behind status c.after.output → Plainly
    result_by (Ok false) behind has scripts told = lines_by false behind told.0 told.1 has scripts.answer
    result_by (Ok true) behind has scripts told = lines_by true behind told.0 told.1 has scripts.answer
    result_by (Err B.Memory) behind has scripts told = memory_told (subst (λ (o : Output). ToldAs F.Memory o status c.after.output) scripts.1 told)
    result_by (Err (B.Script (X.Start P.Memory))) behind has scripts told = memory_told (subst (λ (o : Output). ToldAs F.Memory o status c.after.output) scripts.answer.2 told)
    result_by (Err (B.Script (X.Start (P.Block at why)))) behind has scripts told = absurd (start_there longer top (T.Root id) whole given.held m c.after.moment at why store scripts.answer.0 stands_bare)
    result_by (Err (B.Script (X.Start P.Mismatch))) behind has scripts told = absurd scripts.answer.0
    result_by (Err (B.Script (X.Start P.Store))) behind has scripts told = absurd (still scripts.answer.0)
    result_by (Err (B.Script (X.Start (P.Clash at)))) behind has scripts told = absurd scripts.answer.0
    result_by (Err (B.Script (X.Cut C.Sink))) behind has scripts told = absurd (calm.faultless.calm.sink (subst (λ (o : Output). Rose c.before.output.faults o.faults) (sym told.1) scripts.answer.0))
    result_by (Err (B.Script (X.Cut C.Memory))) behind has scripts told = inl told.0

    beneath_by : BeneathAs longer top id script m c.before.output status c.after.moment c.after.output → Plainly
    beneath_by has = result_by has.result has.behind has has.scripts has.told

    -- ---- the input

    held_so : (t : Taken) → MayBe c.before.supply.files s.1 t → t ≡ K.Bytes script
    held_so t may = subst (λ (f : Option (List (List ℕ × List ℕ))). MayBe f s.1 t) given.told may ∙ given.script_held

    input_by : (input : Result (List ℕ) Fault) → InputAnswer c.before.supply R.Script s.1 input c.after.supply → InputTold longer top id input m c.before.output status c.after.moment c.after.output → Plainly
    input_by (Ok b) answer told =
        beneath_by (subst (λ (x : List ℕ). BeneathAs longer top id x m c.before.output status c.after.moment c.after.output) (taken_same b script (held_so (K.Bytes b) answer)) told)
    input_by (Err (F.Input r U.Absent)) answer told = absurd (let bad : K.Absent ≡ K.Bytes script = held_so K.Absent answer.1 in cc)
    input_by (Err (F.Input r U.Long)) answer told = absurd (let bad : K.Long ≡ K.Bytes script = held_so K.Long answer.1 in cc)
    input_by (Err (F.Input r U.Failed)) answer told = absurd (calm.faultless.calm.inputs answer.1)
    input_by (Err F.Memory) answer told = memory_told told.0
    input_by (Err F.Words) answer told = absurd answer
    input_by (Err (F.Schema f)) answer told = absurd answer
    input_by (Err F.Store) answer told = absurd answer
    input_by (Err (F.Clash at)) answer told = absurd answer
    input_by (Err (F.Value r)) answer told = absurd answer
    input_by (Err F.Proof) answer told = absurd answer
    input_by (Err (F.Root at why)) answer told = absurd answer

  -- ---- the table

  module _ (k : Moment) (store : k.blocks ≡ Some given.held) (x : List Row × TypeNo) (has : HasNamedTable s.0 k x.0 x.1) where
    there : IsDescribed given.held s.0 has.name has.source
    there = from_told k (λ held. IsDescribed held s.0 has.name has.source) has.tells given.held store

    own : IsDescribed given.held s.0 given.stands.name given.stands.source
    own = tells hash s.0 given.held rows n v given.stands

    same_schema : has.schema ≡ rows
    same_schema =
        let sources = (one_described given.held s.0 has.name has.source given.stands.name given.stands.source there own).sources in
        one_table given.stands.source has.schema rows (subst (λ (t : List ℕ). HasAccepted t has.schema) sources has.describes.schema) given.stands.describes.schema

    same_type : has.type ≡ n
    same_type =
        let names = (one_described given.held s.0 has.name has.source given.stands.name given.stands.source there own).names in
        let found : number_named given.stands.name has.schema ≡ Some has.type.0 = subst (λ (t : List ℕ). number_named t has.schema ≡ Some has.type.0) names has.describes.type in
        let moved : number_named given.stands.name rows ≡ Some has.type.0 = subst (λ (r : List Row). number_named given.stands.name r ≡ Some has.type.0) same_schema found in
        number_is has.type n (same_Some has.type.0 n.0 (sym moved ∙ given.stands.describes.type))

    rows_are : x.0 ≡ longer
    rows_are = has.table ∙ ap (λ (r : List Row). named_rows r has.type) same_schema ∙ ap (λ (t : TypeNo). named_rows rows t) same_type

    type_is : x.1 ≡ top
    type_is = has.root ∙ ap root_type same_schema

  later_still : (k : Moment) → c.before.moment.faults ≤ k.faults → Rose k.faults c.after.moment.faults → ⊥
  later_still k le rose = calm.faultless.store (let r : bumped k.faults ≤ c.after.moment.faults = rose in omega (arith, le, r))

  table_by : (table : Result (List Row × TypeNo) OpenFault) (k : Moment) → NamesTable s.0 c.before.moment table k
      → TableTold id s.1 table c.before.supply k c.before.output status c.after.supply c.after.moment c.after.output → Plainly
  table_by (Ok x) k names told =
      let store : k.blocks ≡ Some given.held = names.reads.blocks ∙ given.store in
      let Takes : List Row → TypeNo → Type 0 = λ r t. TakesScript r t id s.1 c.before.supply k c.before.output status c.after.supply c.after.moment c.after.output in
      let takes : Takes longer top = subst (λ (t : TypeNo). Takes longer t) (type_is k store x names.answer) (subst (λ (r : List Row). Takes r x.1) (rows_are k store x names.answer) told) in
      input_by k store (later_still k names.reads.later.faults) takes.input takes.takes.answer takes.told
  table_by (Err (O.Block at why)) k names told =
      absurd (names.answer.none given.held given.stands.name given.stands.source rows n given.store (tells hash s.0 given.held rows n v given.stands) given.stands.describes)
  table_by (Err O.Store) k names told = absurd (calm.faultless.store (subst (λ (l : Moment). Rose c.before.moment.faults l.faults) (sym told.1) names.answer))
  table_by (Err O.Memory) k names told = memory_told told.0

pub answered_beneath : (s : List ℕ × List ℕ) (c : Call) (status : Status) → EndsScript s c status → AnswersBeneath s c status
answered_beneath s c status ends rows n tests v script given lets =
    own_or_memory s c status rows n tests v script given lets (table_by s c status rows n tests v script given lets ends.table ends.behind ends.names ends.told)

-- ---- as the words ask

pub script_answered : (script : Option (List ℕ × List ℕ)) (s : List ℕ × List ℕ) (c : Call) (status : Status) → Some s ≡ script → EndsScript s c status → IsAnsweredBy script c status
script_answered script s c status is ends = subst (λ (o : Option (List ℕ × List ℕ)). IsAnsweredBy o c status) is (answered_beneath s c status ends)

pub nothing_answered : (script : Option (List ℕ × List ℕ)) (c : Call) (status : Status) → None ≡ script → IsAnsweredBy script c status
nothing_answered script c status is = subst (λ (o : Option (List ℕ × List ℕ)). IsAnsweredBy o c status) is tt
