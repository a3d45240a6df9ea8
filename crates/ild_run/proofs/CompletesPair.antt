-- Where nothing stands in the way, the types of two accepted schemas are compared.
use Rattle.std.proofs.Common.{◌≡◌, ◌⊎◌, ℕ, List, Option, Some, None, refl, sym, ap, ◌∙◌, subst, inl, inr}
use Rattle.ild_compat.specs.declared.rule.Differ.{Differ}
use Rattle.ild_compile.specs.Compile.{Verdict, table}
use Rattle.ild_compile.proofs.OneVerdict.{one_verdict_lem}
use Rattle.ild_edges.specs.Inputs.{MayBe, taken_of, file_at}
use Rattle.ild_edges.specs.declared.inputs.Taken.{Taken}
use Rattle.ild_run_compare.specs.Compared.{IsTold}
use Rattle.ild_schema.specs.Names.{number_named}
use Rattle.ild_schema.specs.declared.number.TypeNo.{TypeNo}
use Rattle.ild_schema.specs.declared.row.Row.{Row}
use Rattle.ild_run.specs.Work.{Work, Taking, ends, matches, types_work, next_compiled, next_work, compiled_work, schema_work, job_work, work_of, IsVerdict, IsTaking, AreTaken}
use Rattle.ild_run.specs.Words.{Job, compares}
use Rattle.ild_run.specs.Ended.{Call, IsDue, MatchesTypes, Says}
use Rattle.ild_run.specs.Complete.{IsGivenPair, IsCalm, ComparesPlainly}
use Rattle.ild_run.specs.declared.fault.Fault.{Fault}
use Rattle.ild_run.specs.declared.fault.Fault.TheVariants as F
use Rattle.ild_run.specs.declared.fault.Role.{Role}
use Rattle.ild_run.specs.declared.fault.Trouble.TheVariants as T
use Rattle.ild_run.specs.declared.status.Status.{Status}
use Rattle.ild_run.specs.declared.status.Status.TheVariants as S
use Rattle.ild_run.proofs.Matchings.{asks_not, other_sort}
use Rattle.ild_run.proofs.Namings.{refuses_move}

abbrev Comparing : Work → List Row → List Row → TypeNo → TypeNo → Type 0
Comparing w rows others m n = (w ≡ matches rows others m n) ⊎ (w ≡ ends F.Memory)

-- what is said of the types that are compared
abbrev OfMatched : (List Row → List Row → TypeNo → TypeNo → Type 0) → Work → Type 0
OfMatched P (matches rows others m n) = P rows others m n
OfMatched P w = ⊥

no_end : (w : Work) (f : Fault) (rows others : List Row) (m n : TypeNo) → Comparing w rows others m n → (f ≡ F.Memory → ⊥) → w ≡ ends f → ⊥
no_end w f rows others m n (inl is) other ended = let e : matches rows others m n ≡ ends f = sym is ∙ ended in cc
no_end w f rows others m n (inr is) other ended = other (let e : ends F.Memory ≡ ends f = sym is ∙ ended in cc)

module _ (c : Call) (given : IsGivenPair c) where
  abbrev job : Job
  job = compares given.schema_name given.next_name given.type_name

  abbrev IsComparing : Work → Type 0
  IsComparing w = Comparing w given.typed.rows given.next.rows given.typed.type given.next.type

  -- ---- the work

  next_matches : (verdict : Option Verdict) → IsVerdict (Taken.Bytes given.next.schema.bytes) verdict → IsComparing (next_compiled given.typed.rows given.type_name verdict)
  next_matches None says = inr refl
  next_matches (Some w) says =
      let one : table given.next.rows ≡ w = one_verdict_lem given.next.schema.bytes (table given.next.rows) w given.next.schema.compiles says in
      let same : types_work given.typed.rows given.next.rows (number_named given.type_name given.typed.rows) (number_named given.type_name given.next.rows) ≡ matches given.typed.rows given.next.rows given.typed.type given.next.type =
      ap (λ x. types_work given.typed.rows given.next.rows x (number_named given.type_name given.next.rows)) given.typed.named ∙ ap (λ x. types_work given.typed.rows given.next.rows (Some given.typed.type.0) x) given.next.named in
      subst (λ (x : Verdict). IsComparing (next_compiled given.typed.rows given.type_name (Some x))) one (inl same)

  compiled_matches : (t : Taking) (verdict : Option Verdict) → t.input Role.Next ≡ Taken.Bytes given.next.schema.bytes → IsVerdict (Taken.Bytes given.typed.schema.bytes) verdict → IsVerdict (Taken.Bytes given.next.schema.bytes) t.next → IsComparing (compiled_work job verdict t)
  compiled_matches t None held says later = inr refl
  compiled_matches t (Some w) held says later =
      let one : table given.typed.rows ≡ w = one_verdict_lem given.typed.schema.bytes (table given.typed.rows) w given.typed.schema.compiles says in
      subst (λ (x : Verdict). IsComparing (compiled_work job (Some x) t)) one
      (subst (λ (x : Taken). IsComparing (next_work given.typed.rows given.type_name x t.next)) (sym held) (next_matches t.next later))

  under : (name : List ℕ) (x : Taken) (b : List ℕ) → MayBe c.before.supply.files name x → taken_of (file_at given.files name) ≡ Taken.Bytes b → x ≡ Taken.Bytes b
  under name x b there held = subst (λ (f : Option (List (List ℕ × List ℕ))). MayBe f name x) given.told there ∙ held

  job_matches : (t : Taking) → IsTaking job c.before.supply t → IsComparing (job_work job t)
  job_matches t taken =
      let schema_is = under given.schema_name (t.input Role.Schema) given.typed.schema.bytes (taken.input Role.Schema) given.typed.schema.held in
      let next_is = under given.next_name (t.input Role.Next) given.next.schema.bytes (taken.input Role.Next) given.next.schema.held in
      let same : job_work job t ≡ compiled_work job t.verdict t = ap (λ x. schema_work job x t.verdict t) schema_is in
      subst IsComparing (sym same)
      (compiled_matches t t.verdict next_is (subst (λ (x : Taken). IsVerdict x t.verdict) schema_is taken.verdict) (subst (λ (x : Taken). IsVerdict x t.next) next_is taken.next))

  module _ (calm : IsCalm c) (t : Taking) (taken : AreTaken c.job c.before.supply t) where
    here : IsComparing (work_of c.job t)
    here = subst IsComparing (sym (ap (λ j. work_of j t) given.job)) (job_matches t (subst (λ (j : Option Job). AreTaken j c.before.supply t) given.job taken))

    -- ---- what it is not

    ends_not : (f : Fault) → (f ≡ F.Memory → ⊥) → work_of c.job t ≡ ends f → ⊥
    ends_not f other ended = no_end (work_of c.job t) f given.typed.rows given.next.rows given.typed.type given.next.type here other ended

    no_fault : (f : Fault) → IsDue c t f → f ≡ F.Memory
    no_fault F.Memory due = refl
    no_fault F.Words due = absurd (ends_not F.Words (λ e. cc) due)
    no_fault (F.Schema f) due = absurd (ends_not (F.Schema f) (λ e. cc) due)
    no_fault (F.Input role T.Failed) due = absurd (calm.inputs due.0)
    no_fault (F.Input role T.Absent) due = absurd (ends_not (F.Input role T.Absent) (λ e. cc) due.0)
    no_fault (F.Input role T.Long) due = absurd (ends_not (F.Input role T.Long) (λ e. cc) due.0)
    no_fault F.Store due = absurd (asks_not c t _ here refl due.1)
    no_fault (F.Clash id) (inl due) = absurd (other_sort _ _ _ here due.script.work refl refl)
    no_fault (F.Clash id) (inr (inr moved)) = absurd (other_sort _ _ _ here moved.moved.work refl refl)
    no_fault (F.Clash id) (inr (inl due)) = absurd (other_sort _ _ _ here due.value.work refl refl)
    no_fault (F.Value r) (inl due) = absurd (other_sort _ _ _ here due.1.script.work refl refl)
    no_fault (F.Value r) (inr (inr moved)) = absurd (other_sort _ _ _ here (refuses_move c t r moved).work refl refl)
    no_fault (F.Value r) (inr (inl due)) = absurd (other_sort _ _ _ here due.value.work refl refl)
    no_fault F.Proof due = absurd (other_sort _ _ _ here due.proof.work refl refl)
    no_fault (F.Root id why) (inl due) = absurd (other_sort _ _ _ here due.script.work refl refl)
    no_fault (F.Root id why) (inr (inr (inr moved))) = absurd (other_sort _ _ _ here moved.moved.work refl refl)
    no_fault (F.Root id why) (inr (inr (inl due))) = absurd (other_sort _ _ _ here due.sought.work refl refl)
    no_fault (F.Root id why) (inr (inl due)) = absurd (other_sort _ _ _ here due.opened.work refl refl)

    -- ---- the answer

    said : (found : Option Differ) → MatchesTypes c t found → IsTold given.typed.rows given.next.rows given.typed.type given.next.type found c.before.output c.after.output
    said found told = by here
      where
        P : List Row → List Row → TypeNo → TypeNo → Type 0
        P rows others m n = IsTold rows others m n found c.before.output c.after.output

        by : IsComparing (work_of c.job t) → P given.typed.rows given.next.rows given.typed.type given.next.type
        by (inl is) = subst (OfMatched P) (sym told.types.work ∙ is) told.told
        by (inr is) = absurd (subst (OfMatched P) (sym told.types.work ∙ is) told.told)

    by_status : (status : Status) → Says c t status → (status ≡ S.Memory) ⊎ ComparesPlainly c given.typed.rows given.next.rows given.typed.type given.next.type status
    by_status S.Done (inl all) = absurd (other_sort _ _ _ here all.script.work refl refl)
    by_status S.Done (inr (inl listed)) = absurd (other_sort _ _ _ here listed.work refl refl)
    by_status S.Done (inr (inr (inl made))) = absurd (other_sort _ _ _ here made.value.work refl refl)
    by_status S.Done (inr (inr (inr (inl shows)))) = absurd (other_sort _ _ _ here shows.1.has.opened.work refl refl)
    by_status S.Done (inr (inr (inr (inr (inl told))))) = inr (None, (refl, said None told))
    by_status S.Done (inr (inr (inr (inr (inr (inl told)))))) = absurd (other_sort _ _ _ here told.proof.work refl refl)
    by_status S.Done (inr (inr (inr (inr (inr (inr (inl all))))))) = absurd (other_sort _ _ _ here all.script.work refl refl)
    by_status S.Done (inr (inr (inr (inr (inr (inr (inr (inl sought)))))))) = absurd (other_sort _ _ _ here sought.made.sought.work refl refl)
    by_status S.Done (inr (inr (inr (inr (inr (inr (inr (inr named)))))))) = absurd (other_sort _ _ _ here named.has.moved.work refl refl)
    by_status S.Refused (inl all) = absurd (other_sort _ _ _ here all.script.work refl refl)
    by_status S.Refused (inr (inl shows)) = absurd (other_sort _ _ _ here shows.has.opened.work refl refl)
    by_status S.Refused (inr (inr (inr (inl told)))) = absurd (other_sort _ _ _ here told.proof.work refl refl)
    by_status S.Refused (inr (inr (inr (inr all)))) = absurd (other_sort _ _ _ here all.script.work refl refl)
    by_status S.Refused (inr (inr (inl told))) = inr (Some told.0, (refl, said (Some told.0) told.1))
    by_status S.Memory says = inl refl
    by_status S.SinkFault says = absurd (calm.sink says.0)
    by_status S.Words says = absurd (let e = no_fault F.Words says.due in cc)
    by_status S.Schema says = absurd (let e = no_fault (F.Schema says.0) says.1.due in cc)
    by_status S.Input says = absurd (let e = no_fault (F.Input says.0 says.1) says.2.due in cc)
    by_status S.StoreFault (inl tells) = absurd (let e = no_fault F.Store tells.due in cc)
    by_status S.StoreFault (inr tells) = absurd (let e = no_fault (F.Clash tells.0) tells.1.due in cc)
    by_status S.Root says = absurd (let e = no_fault (F.Root says.0 says.1) says.2.due in cc)
    by_status S.Value (inl says) = absurd (let e = no_fault (F.Value says.0) says.1.due in cc)
    by_status S.Value (inr tells) = absurd (let e = no_fault F.Proof tells.due in cc)

pub compared_by : (c : Call) (given : IsGivenPair c) → IsCalm c → (t : Taking) (status : Status) → AreTaken c.job c.before.supply t → Says c t status
    → (status ≡ S.Memory) ⊎ ComparesPlainly c given.typed.rows given.next.rows given.typed.type given.next.type status
compared_by c given calm t status taken says = by_status c given calm t taken status says
