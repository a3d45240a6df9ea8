-- Where nothing stands in the way, it is told what a proof says, or the proof is refused.
use Rattle.std.proofs.Common.{◌≡◌, ◌⊎◌, ℕ, List, Bool, true, false, cond, Option, Some, None, refl, sym, ap, ◌∙◌, subst, inl, inr}
use Rattle.ild_compile.specs.Compile.{Verdict, table}
use Rattle.ild_compile.proofs.OneVerdict.{one_verdict_lem}
use Rattle.ild_edges.specs.Inputs.{MayBe, taken_of, file_at}
use Rattle.ild_edges.specs.Sink.{Appends}
use Rattle.ild_edges.specs.declared.inputs.Taken.{Taken}
use Rattle.ild_inclusion.specs.declared.answer.Answer.{Answer}
use Rattle.ild_run_verify.proofs.OneSaid.{one_said, none_said}
use Rattle.ild_run_verify.specs.Verified.{IsTold, SaysNothing, WritesLine}
use Rattle.ild_schema.specs.Names.{number_named}
use Rattle.ild_schema.specs.Table.{IsTable}
use Rattle.ild_schema.specs.declared.number.TypeNo.{TypeNo}
use Rattle.ild_schema.specs.declared.row.Row.{Row}
use Rattle.ild_run.specs.Work.{Work, Taking, ends, weighs, verify_work, compiled_work, schema_work, job_work, work_of, IsVerdict, IsTaking, AreTaken}
use Rattle.ild_run.specs.Words.{Job, verifies}
use Rattle.ild_run.specs.Ended.{Call, IsDue, RefusesProof, VerifiesPath, Says}
use Rattle.ild_run.specs.Complete.{IsGivenProof, IsCalm, VerifiesPlainly}
use Rattle.ild_run.specs.Fault.{fault_text}
use Rattle.ild_run.specs.Shown.{hash}
use Rattle.ild_run.specs.declared.fault.Fault.{Fault}
use Rattle.ild_run.specs.declared.fault.Fault.TheVariants as F
use Rattle.ild_run.specs.declared.fault.Role.{Role}
use Rattle.ild_run.specs.declared.fault.Trouble.TheVariants as T
use Rattle.ild_run.specs.declared.status.Status.{Status}
use Rattle.ild_run.specs.declared.status.Status.TheVariants as S
use Rattle.ild_run.proofs.Matchings.{asks_not, other_sort}
use Rattle.ild_run.proofs.Namings.{refuses_move}

abbrev Weighing : Work → List Row → TypeNo → List ℕ → List (List ℕ) → List ℕ → Type 0
Weighing w rows n id path b = (w ≡ weighs rows n id path b) ⊎ (w ≡ ends F.Memory)

-- what is said of the proof that is weighed
abbrev OfWeighed : (List Row → TypeNo → List ℕ → List (List ℕ) → List ℕ → Type 0) → Work → Type 0
OfWeighed P (weighs rows n id path b) = P rows n id path b
OfWeighed P w = ⊥

no_end : (w : Work) (f : Fault) (rows : List Row) (n : TypeNo) (id : List ℕ) (path : List (List ℕ)) (b : List ℕ) → Weighing w rows n id path b → (f ≡ F.Memory → ⊥) → w ≡ ends f → ⊥
no_end w f rows n id path b (inl is) other ended = let e : weighs rows n id path b ≡ ends f = sym is ∙ ended in cc
no_end w f rows n id path b (inr is) other ended = other (let e : ends F.Memory ≡ ends f = sym is ∙ ended in cc)

-- of an accepted table
record IsOfTable (P : List Row → TypeNo → List ℕ → List (List ℕ) → List ℕ → Type 0) (rows : List Row) (n : TypeNo) (id : List ℕ) (path : List (List ℕ)) (b : List ℕ) : Type 0 where
  table : IsTable rows
  holds : P rows n id path b

module _ (c : Call) (given : IsGivenProof c) where
  abbrev job : Job
  job = verifies given.schema_name given.type_name given.root given.path given.proof_name

  abbrev IsWeighing : Work → Type 0
  IsWeighing w = Weighing w given.typed.rows given.typed.type given.root given.path given.bytes

  -- ---- the work

  named_weighs : (found : Option ℕ) (taken : Taken) → found ≡ Some given.typed.type.0 → taken ≡ Taken.Bytes given.bytes → IsWeighing (verify_work given.typed.rows found given.root given.path taken)
  named_weighs found taken named held =
      let same : verify_work given.typed.rows found given.root given.path taken ≡ weighs given.typed.rows given.typed.type given.root given.path given.bytes =
      ap (λ x. verify_work given.typed.rows x given.root given.path taken) named ∙ ap (λ x. verify_work given.typed.rows (Some given.typed.type.0) given.root given.path x) held in
      inl same

  compiled_weighs : (t : Taking) (verdict : Option Verdict) → t.input Role.Proof ≡ Taken.Bytes given.bytes → IsVerdict (Taken.Bytes given.typed.schema.bytes) verdict → IsWeighing (compiled_work job verdict t)
  compiled_weighs t None held says = inr refl
  compiled_weighs t (Some w) held says =
      let one : table given.typed.rows ≡ w = one_verdict_lem given.typed.schema.bytes (table given.typed.rows) w given.typed.schema.compiles says in
      subst (λ (x : Verdict). IsWeighing (compiled_work job (Some x) t)) one (named_weighs (number_named given.type_name given.typed.rows) (t.input Role.Proof) given.typed.named held)

  under : (name : List ℕ) (x : Taken) (b : List ℕ) → MayBe c.before.supply.files name x → taken_of (file_at given.files name) ≡ Taken.Bytes b → x ≡ Taken.Bytes b
  under name x b there held = subst (λ (f : Option (List (List ℕ × List ℕ))). MayBe f name x) given.told there ∙ held

  job_weighs : (t : Taking) → IsTaking job c.before.supply t → IsWeighing (job_work job t)
  job_weighs t taken =
      let schema_is = under given.schema_name (t.input Role.Schema) given.typed.schema.bytes (taken.input Role.Schema) given.typed.schema.held in
      let proof_is = under given.proof_name (t.input Role.Proof) given.bytes (taken.input Role.Proof) given.proof_held in
      let same : job_work job t ≡ compiled_work job t.verdict t = ap (λ x. schema_work job x t.verdict t) schema_is in
      subst IsWeighing (sym same) (compiled_weighs t t.verdict proof_is (subst (λ (x : Taken). IsVerdict x t.verdict) schema_is taken.verdict))

  module _ (calm : IsCalm c) (t : Taking) (taken : AreTaken c.job c.before.supply t) where
    here : IsWeighing (work_of c.job t)
    here = subst IsWeighing (sym (ap (λ j. work_of j t) given.job)) (job_weighs t (subst (λ (j : Option Job). AreTaken j c.before.supply t) given.job taken))

    -- ---- what it is not

    ends_not : (f : Fault) → (f ≡ F.Memory → ⊥) → work_of c.job t ≡ ends f → ⊥
    ends_not f other ended = no_end (work_of c.job t) f given.typed.rows given.typed.type given.root given.path given.bytes here other ended

    no_fault : (f : Fault) → (f ≡ F.Proof → ⊥) → IsDue c t f → f ≡ F.Memory
    no_fault F.Memory other due = refl
    no_fault F.Words other due = absurd (ends_not F.Words (λ e. cc) due)
    no_fault (F.Schema f) other due = absurd (ends_not (F.Schema f) (λ e. cc) due)
    no_fault (F.Input role T.Failed) other due = absurd (calm.inputs due.0)
    no_fault (F.Input role T.Absent) other due = absurd (ends_not (F.Input role T.Absent) (λ e. cc) due.0)
    no_fault (F.Input role T.Long) other due = absurd (ends_not (F.Input role T.Long) (λ e. cc) due.0)
    no_fault F.Store other due = absurd (asks_not c t _ here refl due.1)
    no_fault (F.Clash id) other (inl due) = absurd (other_sort _ _ _ here due.script.work refl refl)
    no_fault (F.Clash id) other (inr (inr moved)) = absurd (other_sort _ _ _ here moved.moved.work refl refl)
    no_fault (F.Clash id) other (inr (inl due)) = absurd (other_sort _ _ _ here due.value.work refl refl)
    no_fault (F.Value r) other (inl due) = absurd (other_sort _ _ _ here due.1.script.work refl refl)
    no_fault (F.Value r) other (inr (inr moved)) = absurd (other_sort _ _ _ here (refuses_move c t r moved).work refl refl)
    no_fault (F.Value r) other (inr (inl due)) = absurd (other_sort _ _ _ here due.value.work refl refl)
    no_fault F.Proof other due = absurd (other refl)
    no_fault (F.Root id why) other (inl due) = absurd (other_sort _ _ _ here due.script.work refl refl)
    no_fault (F.Root id why) other (inr (inr (inr moved))) = absurd (other_sort _ _ _ here moved.moved.work refl refl)
    no_fault (F.Root id why) other (inr (inr (inl due))) = absurd (other_sort _ _ _ here due.sought.work refl refl)
    no_fault (F.Root id why) other (inr (inl due)) = absurd (other_sort _ _ _ here due.opened.work refl refl)

    -- ---- what it says

    said : (P : List Row → TypeNo → List ℕ → List (List ℕ) → List ℕ → Type 0) (rows : List Row) (n : TypeNo) (id : List ℕ) (path : List (List ℕ)) (b : List ℕ) → work_of c.job t ≡ weighs rows n id path b → P rows n id path b
        → P given.typed.rows given.typed.type given.root given.path given.bytes
    said P rows n id path b work p = by here
      where
        by : IsWeighing (work_of c.job t) → P given.typed.rows given.typed.type given.root given.path given.bytes
        by (inl is) = subst (OfWeighed P) (sym work ∙ is) p
        by (inr is) = absurd (subst (OfWeighed P) (sym work ∙ is) p)

    told_plainly : (reserved : Bool) (status : Status) → status ≡ cond reserved S.Refused S.Done → VerifiesPath c t reserved → VerifiesPlainly c given status
    told_plainly reserved status status_is path =
        let P : List Row → TypeNo → List ℕ → List (List ℕ) → List ℕ → Type 0 = IsOfTable (λ rows n id segments b. IsTold hash rows n id segments b reserved c.before.output c.after.output) in
        let it = said P path.proof.rows path.proof.type path.proof.root path.proof.path path.proof.bytes path.proof.work (record { table = path.table; holds = path.told }) in
        let told = it.holds in
        record {
          said = λ a says. record {
            reserved = reserved;
            writes = subst (λ (x : Answer). WritesLine x reserved c.before.output c.after.output)
                (one_said hash given.typed.rows (record { table = it.table; accepted = given.typed.schema.compiles.accepted }) given.typed.type given.root given.path given.bytes told.answer a told.says says) told.writes;
            status_is = status_is;
          };
          refused = λ nothing. absurd (none_said hash given.typed.rows (record { table = it.table; accepted = given.typed.schema.compiles.accepted }) given.typed.type given.root given.path given.bytes told.answer told.says nothing);
        }

    refused_plainly : RefusesProof c t → Appends c.before.output.written c.after.output.written (fault_text F.Proof) → VerifiesPlainly c given S.Value
    refused_plainly refuses written =
        let P : List Row → TypeNo → List ℕ → List (List ℕ) → List ℕ → Type 0 = IsOfTable (λ rows n id segments b. SaysNothing hash rows n id segments b) in
        let it = said P refuses.proof.rows refuses.proof.type refuses.proof.root refuses.proof.path refuses.proof.bytes refuses.proof.work (record { table = refuses.table; holds = refuses.nothing }) in
        record {
          said = λ a says. absurd (none_said hash given.typed.rows (record { table = it.table; accepted = given.typed.schema.compiles.accepted }) given.typed.type given.root given.path given.bytes a says it.holds);
          refused = λ nothing. (refl, written);
        }

    by_status : (status : Status) → Says c t status → (status ≡ S.Memory) ⊎ VerifiesPlainly c given status
    by_status S.Done (inl all) = absurd (other_sort _ _ _ here all.script.work refl refl)
    by_status S.Done (inr (inl listed)) = absurd (other_sort _ _ _ here listed.work refl refl)
    by_status S.Done (inr (inr (inl made))) = absurd (other_sort _ _ _ here made.value.work refl refl)
    by_status S.Done (inr (inr (inr (inl shows)))) = absurd (other_sort _ _ _ here shows.1.has.opened.work refl refl)
    by_status S.Done (inr (inr (inr (inr (inl told))))) = absurd (other_sort _ _ _ here told.types.work refl refl)
    by_status S.Done (inr (inr (inr (inr (inr (inl told)))))) = inr (told_plainly false S.Done refl told)
    by_status S.Done (inr (inr (inr (inr (inr (inr (inl all))))))) = absurd (other_sort _ _ _ here all.script.work refl refl)
    by_status S.Done (inr (inr (inr (inr (inr (inr (inr (inl sought)))))))) = absurd (other_sort _ _ _ here sought.made.sought.work refl refl)
    by_status S.Done (inr (inr (inr (inr (inr (inr (inr (inr named)))))))) = absurd (other_sort _ _ _ here named.has.moved.work refl refl)
    by_status S.Refused (inl all) = absurd (other_sort _ _ _ here all.script.work refl refl)
    by_status S.Refused (inr (inl shows)) = absurd (other_sort _ _ _ here shows.has.opened.work refl refl)
    by_status S.Refused (inr (inr (inl told))) = absurd (other_sort _ _ _ here told.1.types.work refl refl)
    by_status S.Refused (inr (inr (inr (inl told)))) = inr (told_plainly true S.Refused refl told)
    by_status S.Refused (inr (inr (inr (inr all)))) = absurd (other_sort _ _ _ here all.script.work refl refl)
    by_status S.Memory says = inl refl
    by_status S.SinkFault says = absurd (calm.sink says.0)
    by_status S.Words says = absurd (let e = no_fault F.Words (λ e. cc) says.due in cc)
    by_status S.Schema says = absurd (let e = no_fault (F.Schema says.0) (λ e. cc) says.1.due in cc)
    by_status S.Input says = absurd (let e = no_fault (F.Input says.0 says.1) (λ e. cc) says.2.due in cc)
    by_status S.StoreFault (inl tells) = absurd (let e = no_fault F.Store (λ e. cc) tells.due in cc)
    by_status S.StoreFault (inr tells) = absurd (let e = no_fault (F.Clash tells.0) (λ e. cc) tells.1.due in cc)
    by_status S.Root says = absurd (let e = no_fault (F.Root says.0 says.1) (λ e. cc) says.2.due in cc)
    by_status S.Value (inl says) = absurd (let e = no_fault (F.Value says.0) (λ e. cc) says.1.due in cc)
    by_status S.Value (inr tells) = inr (refused_plainly tells.due tells.written)

pub verified_by : (c : Call) (given : IsGivenProof c) → IsCalm c → (t : Taking) (status : Status) → AreTaken c.job c.before.supply t → Says c t status → (status ≡ S.Memory) ⊎ VerifiesPlainly c given status
verified_by c given calm t status taken says = by_status c given calm t taken status says
