-- Taking a later schema, with which the first is compared.
use Rattle.std.specs.Prelude.{◌<◌, length}
use Rattle.std.proofs.Common.{◌≡◌, ℕ, List, Option, Some, None, IfOk, Result, Ok, Err, refl, ap, ◌∙◌, subst, arith}
use Rattle.ild_compile.specs.Compile.{Verdict, table, faulty, Compiles}
use Rattle.ild_edges.specs.Inputs.{Supply, After, MayBe}
use Rattle.ild_edges.proofs.After.{After-trans}
use Rattle.ild_edges.specs.declared.inputs.Taken.{Taken}
use Rattle.ild_schema.specs.Names.{number_named}
use Rattle.ild_schema.specs.declared.number.TypeNo.{TypeNo}
use Rattle.ild_schema.specs.declared.row.Row.{Row}
use Rattle.ild_run.specs.declared.fault.Fault.{Fault}
use Rattle.ild_run.specs.declared.fault.Fault.TheVariants as F
use Rattle.ild_run.specs.declared.fault.Role.{Role}
use Rattle.ild_run.specs.declared.fault.Trouble.TheVariants as T
use Rattle.ild_run.specs.declared.open.Task.{Task}
use Rattle.ild_run.specs.declared.open.Task.TheVariants as P
use Rattle.ild_run.specs.Words.{compares}
use Rattle.ild_run.specs.Work.{Taking, in_roles, types_work, IsVerdict}
use Rattle.ild_run.specs.Opening.{InputAnswer, TakesInput, CompileAnswer, OpensAnswer, IsReady, TakesInputs, OpensBehind, TypesAnswer}
use Rattle.ild_run.proofs.Openings.{all_roles, no_verdict, some_taken}

-- ---- the types with one name

pub types_found : (rows others : List Row) (ty : List ℕ) (m n : TypeNo) → number_named ty rows ≡ Some m.0 → number_named ty others ≡ Some n.0 → m.0 < length rows → n.0 < length others → TypesAnswer rows others ty (Ok (P.Compare rows m others n))
types_found rows others ty m n named later within last =
    (ap (λ x. types_work rows others x (number_named ty others)) named ∙ ap (λ x. types_work rows others (Some m.0) x) later, (within, last))

pub none_first : (rows others : List Row) (ty : List ℕ) → number_named ty rows ≡ None → TypesAnswer rows others ty (Err F.Words)
none_first rows others ty none = ap (λ x. types_work rows others x (number_named ty others)) none

pub none_later : (rows others : List Row) (ty : List ℕ) (m : ℕ) → number_named ty rows ≡ Some m → number_named ty others ≡ None → TypesAnswer rows others ty (Err F.Words)
none_later rows others ty m named none = ap (λ x. types_work rows others x (number_named ty others)) named ∙ ap (λ x. types_work rows others (Some m) x) none

-- ---- the later schema

abbrev pair_taking : List ℕ → List Row → Taken → Option Verdict → Taking
pair_taking b rows taken verdict = record { input = in_roles (Taken.Bytes b) taken; verdict = Some (table rows); next = verdict }

module _ (m : Supply) (name next ty b : List ℕ) (rows : List Row) (is : MayBe m.files name (Taken.Bytes b)) (compiles : Compiles b (table rows)) where
  -- a call that came to a later schema: this is taken as it, and this is what it is compiled to
  comes : (n : Supply) (x : Taken) (verdict : Option Verdict) (result : Result Task Fault) → MayBe m.files next x → IsVerdict x verdict
      → OpensAnswer m (compares name next ty) (pair_taking b rows x verdict) result n → IfOk result IsReady → After m n → TakesInputs m (compares name next ty) result n
  comes n x verdict result there says answer ready after = record {
    taking = pair_taking b rows x verdict;
    taken = record { input = all_roles (compares name next ty) m (Taken.Bytes b) x is there; verdict = compiles; next = says };
    answer = answer;
    ready = ready;
    after = after;
  }

  held : (k : Supply) (x : Taken) → k.files ≡ m.files → MayBe k.files next x → MayBe m.files next x
  held k x same there = subst (λ (f : Option (List (List ℕ × List ℕ))). MayBe f next x) same there

  untaken : (k n : Supply) (f : Fault) → After m k → After m n → InputAnswer k Role.Next next (Err f) n → TakesInputs m (compares name next ty) (Err f) n
  untaken k n (F.Input Role.Next T.Absent) before after answer =
      comes n Taken.Absent None (Err (F.Input Role.Next T.Absent)) (held k Taken.Absent before.files answer.1) tt (refl, let rose = answer.2 in let le = before.lacks in omega arith) tt after
  untaken k n (F.Input Role.Next T.Long) before after answer =
      comes n Taken.Long None (Err (F.Input Role.Next T.Long)) (held k Taken.Long before.files answer.1) tt (refl, let rose = answer.2 in let le = before.lacks in omega arith) tt after
  untaken k n (F.Input Role.Next T.Failed) before after answer =
      let some = some_taken m.files next in
      comes n some.0 None (Err (F.Input Role.Next T.Failed)) some.1 (no_verdict some.0) (let rose = answer.1 in let le = before.faults in omega arith, record { bytes = b; rows = rows; schema = refl; verdict = refl }) tt after
  untaken k n F.Memory before after answer =
      let some = some_taken m.files next in comes n some.0 None (Err F.Memory) some.1 (no_verdict some.0) tt tt after
  untaken k n (F.Input Role.Schema T.Absent) before after answer = absurd (let e = answer.0 in cc)
  untaken k n (F.Input Role.Schema T.Long) before after answer = absurd (let e = answer.0 in cc)
  untaken k n (F.Input Role.Schema T.Failed) before after answer = absurd (let e = answer.0 in cc)
  untaken k n (F.Input Role.Script T.Absent) before after answer = absurd (let e = answer.0 in cc)
  untaken k n (F.Input Role.Script T.Long) before after answer = absurd (let e = answer.0 in cc)
  untaken k n (F.Input Role.Script T.Failed) before after answer = absurd (let e = answer.0 in cc)
  untaken k n (F.Input Role.Value T.Absent) before after answer = absurd (let e = answer.0 in cc)
  untaken k n (F.Input Role.Value T.Long) before after answer = absurd (let e = answer.0 in cc)
  untaken k n (F.Input Role.Value T.Failed) before after answer = absurd (let e = answer.0 in cc)
  untaken k n (F.Input Role.Proof T.Absent) before after answer = absurd (let e = answer.0 in cc)
  untaken k n (F.Input Role.Proof T.Long) before after answer = absurd (let e = answer.0 in cc)
  untaken k n (F.Input Role.Proof T.Failed) before after answer = absurd (let e = answer.0 in cc)
  untaken k n F.Words before after answer = absurd answer
  untaken k n (F.Schema f) before after answer = absurd answer
  untaken k n F.Store before after answer = absurd answer
  untaken k n (F.Clash id) before after answer = absurd answer
  untaken k n (F.Value r) before after answer = absurd answer
  untaken k n F.Proof before after answer = absurd answer
  untaken k n (F.Root id why) before after answer = absurd answer

  uncompiled : (n : Supply) (bytes : List ℕ) (f : Fault) → MayBe m.files next (Taken.Bytes bytes) → After m n → CompileAnswer bytes (Err f) → TakesInputs m (compares name next ty) (Err f) n
  uncompiled n bytes (F.Schema f) there after answer = comes n (Taken.Bytes bytes) (Some (faulty f)) (Err (F.Schema f)) there answer refl tt after
  uncompiled n bytes F.Memory there after answer = comes n (Taken.Bytes bytes) None (Err F.Memory) there tt tt tt after
  uncompiled n bytes (F.Input role trouble) there after answer = absurd answer
  uncompiled n bytes F.Words there after answer = absurd answer
  uncompiled n bytes F.Store there after answer = absurd answer
  uncompiled n bytes (F.Clash id) there after answer = absurd answer
  uncompiled n bytes (F.Value r) there after answer = absurd answer
  uncompiled n bytes F.Proof there after answer = absurd answer
  uncompiled n bytes (F.Root id why) there after answer = absurd answer

  typed : (n : Supply) (bytes : List ℕ) (others : List Row) (result : Result Task Fault) → MayBe m.files next (Taken.Bytes bytes) → Compiles bytes (table others) → After m n → TypesAnswer rows others ty result
      → TakesInputs m (compares name next ty) result n
  typed n bytes others (Ok task) there compiled after answer = comes n (Taken.Bytes bytes) (Some (table others)) (Ok task) there compiled answer.0 answer.1 after
  typed n bytes others (Err F.Words) there compiled after answer = comes n (Taken.Bytes bytes) (Some (table others)) (Err F.Words) there compiled answer tt after
  typed n bytes others (Err (F.Schema f)) there compiled after answer = absurd answer
  typed n bytes others (Err (F.Input role trouble)) there compiled after answer = absurd answer
  typed n bytes others (Err F.Store) there compiled after answer = absurd answer
  typed n bytes others (Err (F.Clash id)) there compiled after answer = absurd answer
  typed n bytes others (Err F.Memory) there compiled after answer = absurd answer
  typed n bytes others (Err (F.Value r)) there compiled after answer = absurd answer
  typed n bytes others (Err F.Proof) there compiled after answer = absurd answer
  typed n bytes others (Err (F.Root id why)) there compiled after answer = absurd answer

-- a call that ends at the later schema's input
pub opens_untaken : (k n : Supply) (rows : List Row) (next ty : List ℕ) (f : Fault) → TakesInput k Role.Next next (Err f) n → OpensBehind k rows (λ name. compares name next ty) (Err f) n
opens_untaken k n rows next ty f takes m name b is compiles after = untaken m name next ty b rows is compiles k n f after (After-trans m k n after takes.after) takes.answer

-- at its compilation
pub opens_uncompiled : (k n : Supply) (rows : List Row) (next ty bytes : List ℕ) (f : Fault) → TakesInput k Role.Next next (Ok bytes) n → CompileAnswer bytes (Err f) → OpensBehind k rows (λ name. compares name next ty) (Err f) n
opens_uncompiled k n rows next ty bytes f takes answer m name b is compiles after =
    uncompiled m name next ty b rows is compiles n bytes f (held m name next ty b rows is compiles k (Taken.Bytes bytes) after.files takes.answer) (After-trans m k n after takes.after) answer

-- or comes to both tables
pub opens_types : (k n : Supply) (rows others : List Row) (next ty bytes : List ℕ) (result : Result Task Fault) → TakesInput k Role.Next next (Ok bytes) n → Compiles bytes (table others) → TypesAnswer rows others ty result
    → OpensBehind k rows (λ name. compares name next ty) result n
opens_types k n rows others next ty bytes result takes compiled answer m name b is compiles after =
    typed m name next ty b rows is compiles n bytes others result (held m name next ty b rows is compiles k (Taken.Bytes bytes) after.files takes.answer) compiled (After-trans m k n after takes.after) answer
