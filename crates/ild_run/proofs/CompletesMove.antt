-- Where nothing stands in the way, a value that stands under a bare root is given one that names its schema, or it is refused for its depth
-- or the length of a block.
use Rattle.std.proofs.Common.{◌≡◌, ◌⊎◌, ◌≤◌, ◌<◌, ℕ, List, [], ◌∷◌, length, Option, Some, None, Result, Ok, Err, refl, sym, ap, ◌∙◌, subst, arith, inl, inr}
use Rattle.std.specs.List.{AllByRecursion}
use Rattle.ild_cbor.specs.declared.why.BlockWhy.{BlockWhy}
use Rattle.ild_compile.specs.Compile.{Verdict, table}
use Rattle.ild_compile.proofs.OneVerdict.{one_verdict_lem}
use Rattle.ild_data.specs.Data.{Data}
use Rattle.ild_data.specs.Limits.{longest_block}
use Rattle.ild_data.specs.declared.id.BlockId.{BlockId}
use Rattle.ild_edges.specs.Inputs.{MayBe}
use Rattle.ild_edges.specs.Sink.{Appends}
use Rattle.ild_edges.specs.declared.inputs.Taken.{Taken}
use Rattle.ild_named.specs.Named.{schema_block}
use Rattle.ild_named_root.specs.Names.{root_block}
use Rattle.ild_run_create.specs.declared.fault.Refusal.{Refusal}
use Rattle.ild_run_create.specs.declared.fault.Refusal.TheVariants as N
use Rattle.ild_run_named.specs.Migrates.{Migrates, OfValue, IsMovable, IsTooLong}
use Rattle.ild_run_named.specs.declared.migrating.MigrateFault.{MigrateFault}
use Rattle.ild_run_named.specs.declared.migrating.MigrateFault.TheVariants as X
use Rattle.ild_schema.specs.Names.{number_named}
use Rattle.ild_schema.specs.Value.{Value as Typed}
use Rattle.ild_schema.specs.declared.number.TypeNo.{TypeNo}
use Rattle.ild_schema.specs.declared.row.Row.{Row}
use Rattle.ild_run.specs.Work.{Work, Taking, ends, moves, move_work, source_in, compiled_work, schema_work, job_work, work_of, IsVerdict, IsTaking, AreTaken}
use Rattle.ild_run.specs.Fault.{fault_text}
use Rattle.ild_run.specs.Shown.{hash}
use Rattle.ild_run.specs.Words.{Job, migrates}
use Rattle.ild_run.specs.Ended.{Call, IsDue, MovesTo, RefusesMove, NamesRoot, Says}
use Rattle.ild_run.specs.Complete.{IsGivenBare, LetsMove, MovesPlainly}
use Rattle.ild_run.proofs.Matchings.{other_sort}
use Rattle.ild_run.specs.declared.fault.Fault.{Fault}
use Rattle.ild_run.specs.declared.fault.Fault.TheVariants as F
use Rattle.ild_run.specs.declared.fault.Role.{Role}
use Rattle.ild_run.specs.declared.fault.Trouble.TheVariants as T
use Rattle.ild_run.specs.declared.status.Status.{Status}
use Rattle.ild_run.specs.declared.status.Status.TheVariants as S

-- ---- the work

abbrev Moving : Work → List Row → TypeNo → List ℕ → List ℕ → List ℕ → Type 0
Moving w rows n id name source = (w ≡ moves rows n id name source) ⊎ (w ≡ ends F.Memory)

-- what is said of the value that is given another root
abbrev OfMoved : (List Row → TypeNo → List ℕ → List ℕ → List ℕ → Type 0) → Work → Type 0
OfMoved P (moves rows n id name source) = P rows n id name source
OfMoved P w = ⊥

no_end : (w : Work) (f : Fault) (rows : List Row) (n : TypeNo) (id name source : List ℕ) → Moving w rows n id name source → (f ≡ F.Memory → ⊥) → w ≡ ends f → ⊥
no_end w f rows n id name source (inl is) other ended = let e : moves rows n id name source ≡ ends f = sym is ∙ ended in cc
no_end w f rows n id name source (inr is) other ended = other (let e : ends F.Memory ≡ ends f = sym is ∙ ended in cc)

-- neither block is too long, so none is
first_of : (P : List ℕ → Type 0) (b : List ℕ) (bs : List (List ℕ)) → AllByRecursion P (b ∷ bs) → P b
first_of P b bs all = all.0

rest_of : (P : List ℕ → Type 0) (b : List ℕ) (bs : List (List ℕ)) → AllByRecursion P (b ∷ bs) → AllByRecursion P bs
rest_of P b bs all = all.1

no_longer : (b : List ℕ) → length b ≤ longest_block → longest_block < length b → ⊥
no_longer b short long = omega (arith, short, long)

both_short : (a b : List ℕ) → AllByRecursion (λ block. length block ≤ longest_block) (a ∷ b ∷ []) → (longest_block < length a) ⊎ (longest_block < length b) → ⊥
both_short a b short (inl long) = no_longer a (first_of (λ block. length block ≤ longest_block) a (b ∷ []) short) long
both_short a b short (inr long) = no_longer b (first_of (λ block. length block ≤ longest_block) b [] (rest_of (λ block. length block ≤ longest_block) a (b ∷ []) short)) long

not_long : (rows : List Row) (n : TypeNo) (name source : List ℕ) (v : Typed) (d : Data) → IsMovable rows n name source v d → IsTooLong name source d → ⊥
not_long rows n name source v d is long = both_short (schema_block source) (root_block name source d) is.short long

module _ (c : Call) (v : Typed) (given : IsGivenBare c v) where
  abbrev rows : List Row
  rows = given.there.typed.rows

  abbrev name : List ℕ
  name = given.type_name

  abbrev source : List ℕ
  source = given.there.typed.schema.bytes

  abbrev d : Data
  d = given.there.stands.tree

  abbrev job : Job
  job = migrates given.schema_name given.type_name given.root

  abbrev IsMoving : Work → Type 0
  IsMoving w = Moving w rows given.there.typed.type given.root name source

  named_moves : (found : Option ℕ) (taken : Taken) → found ≡ Some given.there.typed.type.0 → taken ≡ Taken.Bytes source → IsMoving (move_work rows found given.root name (source_in taken))
  named_moves found taken named held =
      let same : move_work rows found given.root name (source_in taken) ≡ moves rows given.there.typed.type given.root name source =
      ap (λ x. move_work rows x given.root name (source_in taken)) named ∙ ap (λ x. move_work rows (Some given.there.typed.type.0) given.root name (source_in x)) held in
      inl same

  compiled_moves : (t : Taking) (verdict : Option Verdict) → t.input Role.Schema ≡ Taken.Bytes source → IsVerdict (Taken.Bytes source) verdict → IsMoving (compiled_work job verdict t)
  compiled_moves t None held says = inr refl
  compiled_moves t (Some w) held says =
      let one : table rows ≡ w = one_verdict_lem source (table rows) w given.there.typed.schema.compiles says in
      subst (λ (x : Verdict). IsMoving (compiled_work job (Some x) t)) one (named_moves (number_named name rows) (t.input Role.Schema) given.there.typed.named held)

  job_moves : (t : Taking) → IsTaking job c.before.supply t → IsMoving (job_work job t)
  job_moves t taken =
      let schema_is : t.input Role.Schema ≡ Taken.Bytes source
      = subst (λ (f : Option (List (List ℕ × List ℕ))). MayBe f given.schema_name (t.input Role.Schema)) given.there.told (taken.input Role.Schema) ∙ given.there.typed.schema.held in
      let same : job_work job t ≡ compiled_work job t.verdict t = ap (λ x. schema_work job x t.verdict t) schema_is in
      subst IsMoving (sym same) (compiled_moves t t.verdict schema_is (subst (λ (x : Taken). IsVerdict x t.verdict) schema_is taken.verdict))

  module _ (lets : LetsMove c name source d) (t : Taking) (taken : AreTaken c.job c.before.supply t) where
    abbrev Plainly : Status → Type 0
    Plainly status = MovesPlainly c rows given.there.typed.type name source v d status

    here : IsMoving (work_of c.job t)
    here = subst IsMoving (sym (ap (λ j. work_of j t) given.job)) (job_moves t (subst (λ (j : Option Job). AreTaken j c.before.supply t) given.job taken))

    ends_not : (f : Fault) → (f ≡ F.Memory → ⊥) → work_of c.job t ≡ ends f → ⊥
    ends_not f other ended = no_end (work_of c.job t) f rows given.there.typed.type given.root name source here other ended

    -- ---- what came of it

    said : (P : List Row → TypeNo → List ℕ → List ℕ → List ℕ → Type 0) (others : List Row) (n : TypeNo) (id called text : List ℕ) → work_of c.job t ≡ moves others n id called text → P others n id called text
        → P rows given.there.typed.type given.root name source
    said P others n id called text work p = by here
      where
        by : IsMoving (work_of c.job t) → P rows given.there.typed.type given.root name source
        by (inl is) = subst (OfMoved P) (sym work ∙ is) p
        by (inr is) = absurd (subst (OfMoved P) (sym work ∙ is) p)

    of_value : (result : Result BlockId MigrateFault) → MovesTo c t result → OfValue hash rows given.there.typed.type given.root name source c.before.moment given.there.held v given.there.stands result c.after.moment
    of_value result to =
        let P : List Row → TypeNo → List ℕ → List ℕ → List ℕ → Type 0 = λ others n id called text. Migrates hash others n id called text c.before.moment result c.after.moment in
        let it = said P to.moved.rows to.moved.type to.moved.root to.moved.name to.moved.source to.moved.work to.migrates in
        (it.value given.there.held v given.there.store given.there.stands).answer

    no_clash : (id : BlockId) → MovesTo c t (Err (X.Clash id)) → ⊥
    no_clash id to =
        let hit = (of_value (Err (X.Clash id)) to).1 in
        lets.apart hit.kept hit.new hit.among hit.held hit.collide

    no_block : (id : BlockId) (why : BlockWhy) → MovesTo c t (Err (X.Block id why)) → ⊥
    no_block id why to = of_value (Err (X.Block id why)) to

    named_so : NamesRoot c t → Plainly S.Done
    named_so to =
        let x = of_value (Ok to.root) to.has in
        record {
          deep = λ deep. absurd (deep x.movable.room);
          long = λ room long. absurd (not_long rows given.there.typed.type name source v d x.movable long);
          moves = λ is. record { status_is = refl; root = to.root; root_is = x.root_is; stands = x.stands; written = to.written };
        }

    abbrev Wrote : Refusal → Type 0
    Wrote r = Appends c.before.output.written c.after.output.written (fault_text (F.Value r))

    refused_so : (r : Refusal) → RefusesMove c t r → Wrote r → Plainly S.Value
    refused_so N.Depth to written =
        let none = of_value (Err X.Depth) to in
        record { deep = λ deep. (refl, written); long = λ room long. absurd (none room); moves = λ is. absurd (none is.room) }
    refused_so N.Size to written =
        let x = of_value (Err X.Size) to in
        record { deep = λ deep. absurd (deep x.0); long = λ room long. (refl, written); moves = λ is. absurd (not_long rows given.there.typed.type name source v d is x.1) }
    refused_so N.Json to written = absurd to
    refused_so N.Mismatch to written = absurd to
    refused_so N.Delimiter to written = absurd to
    refused_so N.Hole to written = absurd to
    refused_so N.Exhausted to written = absurd to

    -- ---- what it is not

    no_fault : (f : Fault) → ((r : Refusal) → f ≡ F.Value r → ⊥) → IsDue c t f → f ≡ F.Memory
    no_fault F.Memory other due = refl
    no_fault F.Words other due = absurd (ends_not F.Words (λ e. cc) due)
    no_fault (F.Schema f) other due = absurd (ends_not (F.Schema f) (λ e. cc) due)
    no_fault (F.Input role T.Failed) other due = absurd (lets.faultless.calm.inputs due.0)
    no_fault (F.Input role T.Absent) other due = absurd (ends_not (F.Input role T.Absent) (λ e. cc) due.0)
    no_fault (F.Input role T.Long) other due = absurd (ends_not (F.Input role T.Long) (λ e. cc) due.0)
    no_fault F.Store other due = absurd (lets.faultless.store due.0)
    no_fault (F.Clash id) other (inl due) = absurd (other_sort _ _ _ here due.script.work refl refl)
    no_fault (F.Clash id) other (inr (inl due)) = absurd (other_sort _ _ _ here due.value.work refl refl)
    no_fault (F.Clash id) other (inr (inr to)) = absurd (no_clash id to)
    no_fault (F.Value r) other due = absurd (other r refl)
    no_fault F.Proof other due = absurd (other_sort _ _ _ here due.proof.work refl refl)
    no_fault (F.Root id why) other (inl due) = absurd (other_sort _ _ _ here due.script.work refl refl)
    no_fault (F.Root id why) other (inr (inl due)) = absurd (other_sort _ _ _ here due.opened.work refl refl)
    no_fault (F.Root id why) other (inr (inr (inl due))) = absurd (other_sort _ _ _ here due.sought.work refl refl)
    no_fault (F.Root id why) other (inr (inr (inr to))) = absurd (no_block id why to)

    value_by : (r : Refusal) → IsDue c t (F.Value r) → Wrote r → Plainly S.Value
    value_by r (inl due) written = absurd (other_sort _ _ _ here due.1.script.work refl refl)
    value_by r (inr (inl due)) written = absurd (other_sort _ _ _ here due.value.work refl refl)
    value_by r (inr (inr to)) written = refused_so r to written

    by_status : (status : Status) → Says c t status → (status ≡ S.Memory) ⊎ Plainly status
    by_status S.Done (inl all) = absurd (other_sort _ _ _ here all.script.work refl refl)
    by_status S.Done (inr (inl listed)) = absurd (other_sort _ _ _ here listed.work refl refl)
    by_status S.Done (inr (inr (inl made))) = absurd (other_sort _ _ _ here made.value.work refl refl)
    by_status S.Done (inr (inr (inr (inl shows)))) = absurd (other_sort _ _ _ here shows.1.has.opened.work refl refl)
    by_status S.Done (inr (inr (inr (inr (inl told))))) = absurd (other_sort _ _ _ here told.types.work refl refl)
    by_status S.Done (inr (inr (inr (inr (inr (inl told)))))) = absurd (other_sort _ _ _ here told.proof.work refl refl)
    by_status S.Done (inr (inr (inr (inr (inr (inr (inl all))))))) = absurd (other_sort _ _ _ here all.script.work refl refl)
    by_status S.Done (inr (inr (inr (inr (inr (inr (inr (inl sought)))))))) = absurd (other_sort _ _ _ here sought.made.sought.work refl refl)
    by_status S.Done (inr (inr (inr (inr (inr (inr (inr (inr named)))))))) = inr (named_so named)
    by_status S.Refused (inl all) = absurd (other_sort _ _ _ here all.script.work refl refl)
    by_status S.Refused (inr (inl shows)) = absurd (other_sort _ _ _ here shows.has.opened.work refl refl)
    by_status S.Refused (inr (inr (inl told))) = absurd (other_sort _ _ _ here told.1.types.work refl refl)
    by_status S.Refused (inr (inr (inr (inl told)))) = absurd (other_sort _ _ _ here told.proof.work refl refl)
    by_status S.Refused (inr (inr (inr (inr all)))) = absurd (other_sort _ _ _ here all.script.work refl refl)
    by_status S.Memory says = inl refl
    by_status S.SinkFault says = absurd (lets.faultless.calm.sink says.0)
    by_status S.Words says = absurd (let e = no_fault F.Words (λ r e. cc) says.due in cc)
    by_status S.Schema says = absurd (let e = no_fault (F.Schema says.0) (λ r e. cc) says.1.due in cc)
    by_status S.Input says = absurd (let e = no_fault (F.Input says.0 says.1) (λ r e. cc) says.2.due in cc)
    by_status S.StoreFault (inl tells) = absurd (let e = no_fault F.Store (λ r e. cc) tells.due in cc)
    by_status S.StoreFault (inr tells) = absurd (let e = no_fault (F.Clash tells.0) (λ r e. cc) tells.1.due in cc)
    by_status S.Root says = absurd (let e = no_fault (F.Root says.0 says.1) (λ r e. cc) says.2.due in cc)
    by_status S.Value (inl says) = inr (value_by says.0 says.1.due says.1.written)
    by_status S.Value (inr tells) = absurd (let e = no_fault F.Proof (λ r e. cc) tells.due in cc)

pub moved_by : (c : Call) (v : Typed) (given : IsGivenBare c v) → LetsMove c given.type_name given.there.typed.schema.bytes given.there.stands.tree → (t : Taking) (status : Status) → AreTaken c.job c.before.supply t → Says c t status
    → (status ≡ S.Memory) ⊎ MovesPlainly c given.there.typed.rows given.there.typed.type given.type_name given.there.typed.schema.bytes v given.there.stands.tree status
moved_by c v given lets t status taken says = by_status c v given lets t taken status says
