-- Taking the input of a proof.
use Rattle.std.specs.Borrow.{Bor}
use Rattle.std.specs.Prelude.{length, ◌<◌}
use Rattle.std.proofs.Common.{◌≡◌, ℕ, ◌≤◌, List, IfOk, Option, Some, None, Result, Ok, Err, refl, sym, ap, subst, arith}
use Rattle.ild_compile.specs.Compile.{table}
use Rattle.ild_data.specs.declared.id.BlockId.{BlockId}
use Rattle.ild_edges.specs.Inputs.{Supply, MayBe}
use Rattle.ild_edges.proofs.After.{After-trans}
use Rattle.ild_edges.specs.declared.inputs.Taken.{Taken}
use Rattle.ild_schema.specs.Names.{number_named}
use Rattle.ild_schema.specs.declared.number.TypeNo.{TypeNo}
use Rattle.ild_schema.specs.declared.row.Row.{Row}
use Rattle.ild_run.specs.declared.fault.Fault.{Fault}
use Rattle.ild_run.specs.declared.fault.Fault.TheVariants as F
use Rattle.ild_run.specs.declared.fault.Role.{Role}
use Rattle.ild_run.specs.declared.fault.Trouble.TheVariants as T
use Rattle.ild_run.specs.declared.open.Task.{Task}
use Rattle.ild_run.specs.declared.open.Task.TheVariants as P
use Rattle.ild_run.specs.Words.{verifies}
use Rattle.ild_run.specs.Work.{Taking, in_roles, verify_work}
use Rattle.ild_run.specs.Opening.{InputAnswer, TakesInput, OpensAnswer, IsReady, OpensBehind}
use Rattle.ild_run.proofs.Openings.{all_roles, no_verdict, opens_with, proof_role, some_taken}

-- the table has no type of this name
pub opens_unproved : (k : Supply) (rows : List Row) (ty id : List ℕ) (path : List (List ℕ)) (proof : List ℕ) → number_named ty rows ≡ None → OpensBehind k rows (λ name. verifies name ty id path proof) (Err F.Words) k
opens_unproved k rows ty id path proof none m name b is compiles after =
    opens_with m k (verifies name ty id path proof) name b rows (Err F.Words) refl is compiles (λ t. ap (λ found. verify_work rows found id path t) none) tt after

abbrev proof_taking : List ℕ → List Row → Taken → Taking
proof_taking b rows proof = record { input = in_roles (Taken.Bytes b) proof; verdict = Some (table rows); next = None }

-- the task that the proof's input is
abbrev pub proof_task : List Row → TypeNo → BlockId → Bor (List (List ℕ)) → Result (List ℕ) Fault → Result Task Fault
proof_task rows n id path (Ok b) = Ok (P.Verify rows n id path b)
proof_task rows n id path (Err f) = Err f

proof_answer : (m k n : Supply) (name ty proof b : List ℕ) (rows : List Row) (t : TypeNo) (id : BlockId) (path : Bor (List (List ℕ))) (result : Result (List ℕ) Fault) → number_named ty rows ≡ Some t.0 → k.files ≡ m.files → m.lacks ≤ k.lacks → m.faults ≤ k.faults
    → InputAnswer k Role.Proof proof result n → (x : Taken) × MayBe m.files proof x × OpensAnswer m (verifies name ty id.0 path.now proof) (proof_taking b rows x) (proof_task rows t id path result) n
proof_answer m k n name ty proof b rows t id path (Ok c) named same lacks faults answer =
    (Taken.Bytes c, subst (λ (x : Option (List (List ℕ × List ℕ))). MayBe x proof (Taken.Bytes c)) same answer, ap (λ found. verify_work rows found id.0 path.now (Taken.Bytes c)) named)
proof_answer m k n name ty proof b rows t id path (Err (F.Input Role.Proof T.Absent)) named same lacks faults answer =
    (Taken.Absent, subst (λ (x : Option (List (List ℕ × List ℕ))). MayBe x proof Taken.Absent) same answer.1, (ap (λ found. verify_work rows found id.0 path.now Taken.Absent) named, let rose = answer.2 in omega arith))
proof_answer m k n name ty proof b rows t id path (Err (F.Input Role.Proof T.Long)) named same lacks faults answer =
    (Taken.Long, subst (λ (x : Option (List (List ℕ × List ℕ))). MayBe x proof Taken.Long) same answer.1, (ap (λ found. verify_work rows found id.0 path.now Taken.Long) named, let rose = answer.2 in omega arith))
proof_answer m k n name ty proof b rows t id path (Err (F.Input Role.Proof T.Failed)) named same lacks faults answer =
    let some = some_taken m.files proof in
    (some.0, some.1, (let rose = answer.1 in omega arith, record { bytes = b; rows = rows; schema = refl; verdict = refl; number = t.0; named = named }))
proof_answer m k n name ty proof b rows t id path (Err (F.Input Role.Schema T.Absent)) named same lacks faults answer = absurd (proof_role Role.Schema (sym answer.0) refl)
proof_answer m k n name ty proof b rows t id path (Err (F.Input Role.Schema T.Long)) named same lacks faults answer = absurd (proof_role Role.Schema (sym answer.0) refl)
proof_answer m k n name ty proof b rows t id path (Err (F.Input Role.Schema T.Failed)) named same lacks faults answer = absurd (proof_role Role.Schema (sym answer.0) refl)
proof_answer m k n name ty proof b rows t id path (Err (F.Input Role.Next T.Absent)) named same lacks faults answer = absurd (proof_role Role.Next (sym answer.0) refl)
proof_answer m k n name ty proof b rows t id path (Err (F.Input Role.Next T.Long)) named same lacks faults answer = absurd (proof_role Role.Next (sym answer.0) refl)
proof_answer m k n name ty proof b rows t id path (Err (F.Input Role.Next T.Failed)) named same lacks faults answer = absurd (proof_role Role.Next (sym answer.0) refl)
proof_answer m k n name ty proof b rows t id path (Err (F.Input Role.Script T.Absent)) named same lacks faults answer = absurd (proof_role Role.Script (sym answer.0) refl)
proof_answer m k n name ty proof b rows t id path (Err (F.Input Role.Script T.Long)) named same lacks faults answer = absurd (proof_role Role.Script (sym answer.0) refl)
proof_answer m k n name ty proof b rows t id path (Err (F.Input Role.Script T.Failed)) named same lacks faults answer = absurd (proof_role Role.Script (sym answer.0) refl)
proof_answer m k n name ty proof b rows t id path (Err (F.Input Role.Value T.Absent)) named same lacks faults answer = absurd (proof_role Role.Value (sym answer.0) refl)
proof_answer m k n name ty proof b rows t id path (Err (F.Input Role.Value T.Long)) named same lacks faults answer = absurd (proof_role Role.Value (sym answer.0) refl)
proof_answer m k n name ty proof b rows t id path (Err (F.Input Role.Value T.Failed)) named same lacks faults answer = absurd (proof_role Role.Value (sym answer.0) refl)
proof_answer m k n name ty proof b rows t id path (Err F.Memory) named same lacks faults answer = let some = some_taken m.files proof in (some.0, some.1, tt)
proof_answer m k n name ty proof b rows t id path (Err F.Words) named same lacks faults answer = absurd answer
proof_answer m k n name ty proof b rows t id path (Err (F.Schema f)) named same lacks faults answer = absurd answer
proof_answer m k n name ty proof b rows t id path (Err F.Store) named same lacks faults answer = absurd answer
proof_answer m k n name ty proof b rows t id path (Err (F.Clash other)) named same lacks faults answer = absurd answer
proof_answer m k n name ty proof b rows t id path (Err (F.Value r)) named same lacks faults answer = absurd answer
proof_answer m k n name ty proof b rows t id path (Err F.Proof) named same lacks faults answer = absurd answer
proof_answer m k n name ty proof b rows t id path (Err (F.Root other why)) named same lacks faults answer = absurd answer

proof_ready : (rows : List Row) (t : TypeNo) (id : BlockId) (path : Bor (List (List ℕ))) (result : Result (List ℕ) Fault) → t.0 < length rows → IfOk (proof_task rows t id path result) IsReady
proof_ready rows t id path (Ok b) within = within
proof_ready rows t id path (Err f) within = tt

pub opens_proof : (k n : Supply) (rows : List Row) (ty proof : List ℕ) (t : TypeNo) (id : BlockId) (path : Bor (List (List ℕ))) (result : Result (List ℕ) Fault) → number_named ty rows ≡ Some t.0 → t.0 < length rows
    → TakesInput k Role.Proof proof result n → OpensBehind k rows (λ name. verifies name ty id.0 path.now proof) (proof_task rows t id path result) n
opens_proof k n rows ty proof t id path result named within takes m name b is compiles after =
    let x = proof_answer m k n name ty proof b rows t id path result named after.files after.lacks after.faults takes.answer in
    record {
      taking = proof_taking b rows x.0;
      taken = record { input = all_roles (verifies name ty id.0 path.now proof) m (Taken.Bytes b) x.0 is x.1; verdict = compiles; next = no_verdict x.0 };
      answer = x.2;
      ready = proof_ready rows t id path result within;
      after = After-trans m k n after takes.after;
    }
