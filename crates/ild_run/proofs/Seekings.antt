-- A call that proves what stands at a path: what comes before it, and how it ends.
use Rattle.std.specs.Borrow.{Bor}
use Rattle.std.specs.Prelude.{length, ◌<◌}
use Rattle.std.proofs.Common.{◌≡◌, ℕ, List, Some, None, Result, Ok, Err, refl, sym, ap, subst, inl, inr}
use Rattle.ild_data.specs.declared.id.BlockId.{BlockId}
use Rattle.ild_edges.specs.Inputs.{Supply}
use Rattle.ild_run_prove.specs.Proved.{ProvesPath}
use Rattle.ild_run_prove.specs.declared.fault.ProveFault.{ProveFault}
use Rattle.ild_run_prove.specs.declared.fault.ProveFault.TheVariants as X
use Rattle.ild_schema.specs.Names.{number_named}
use Rattle.ild_schema.specs.Table.{IsTable}
use Rattle.ild_schema.specs.declared.number.TypeNo.{TypeNo}
use Rattle.ild_schema.specs.declared.row.Row.{Row}
use Rattle.ild_script.specs.declared.reply.Reply.TheVariants as R
use Rattle.ild_run.specs.Cut.{CutAs}
use Rattle.ild_run.specs.Ended.{Call, SeeksPath, ReadsPath, MakesProof, WritesSome, Says, Ended}
use Rattle.ild_run.specs.Opening.{OpensBehind}
use Rattle.ild_run.specs.Shown.{hash, Replied}
use Rattle.ild_run.specs.Words.{Job, proves}
use Rattle.ild_run.specs.Work.{Taking, seek_work, seeks, work_of, job_work, IsTaking}
use Rattle.ild_run.specs.inside.Sought.{SoughtTold, SoughtAs}
use Rattle.ild_run.specs.declared.fault.Fault.TheVariants as F
use Rattle.ild_run.specs.declared.open.Task.TheVariants as P
use Rattle.ild_run.specs.declared.status.Status.{Status}
use Rattle.ild_run.specs.declared.status.Status.TheVariants as S
use Rattle.ild_run.proofs.Endings.{are_taken, is_work, says_by}
use Rattle.ild_run.proofs.Openings.{opens_with}

-- ---- the type

-- the table has no type of this name
pub opens_pathless : (k : Supply) (rows : List Row) (ty id : List ℕ) (path : List (List ℕ)) → number_named ty rows ≡ None → OpensBehind k rows (λ name. proves name ty id path) (Err F.Words) k
opens_pathless k rows ty id path none m name b is compiles after =
    opens_with m k (proves name ty id path) name b rows (Err F.Words) refl is compiles (λ t. ap (λ found. seek_work rows found id path) none) tt after

pub opens_path : (k : Supply) (rows : List Row) (ty : List ℕ) (id : BlockId) (path : Bor (List (List ℕ))) (t : TypeNo) → number_named ty rows ≡ Some t.0 → t.0 < length rows
    → OpensBehind k rows (λ name. proves name ty id.0 path.now) (Ok (P.Prove rows t id path)) k
opens_path k rows ty id path t named within m name b is compiles after =
    opens_with m k (proves name ty id.0 path.now) name b rows (Ok (P.Prove rows t id path)) refl is compiles (λ x. ap (λ found. seek_work rows found id.0 path.now) named) within after

-- ---- how the call ends

module _ (c : Call) (t : Taking) (rows : List Row) (n : TypeNo) (id : List ℕ) (path : List (List ℕ)) (work : work_of c.job t ≡ seeks rows n id path) (table : IsTable rows) where
  abbrev sought : SeeksPath c t
  sought = record { rows = rows; type = n; root = id; path = path; work = work }

  -- a front of the proof's line
  says_front : (status : Status) → WritesSome c t → CutAs c.before.output status c.after.output → Says c t status
  says_front S.SinkFault some rose = (rose, inr (inr (inr (inr (inr (inr (inr (inr (inl some)))))))))
  says_front S.Memory some rose = inr (inr (inr (inr (inr (inr (inr (inr (inr (inl some)))))))))
  says_front S.Done some rose = absurd rose
  says_front S.Refused some rose = absurd rose
  says_front S.Words some rose = absurd rose
  says_front S.Schema some rose = absurd rose
  says_front S.Root some rose = absurd rose
  says_front S.Input some rose = absurd rose
  says_front S.StoreFault some rose = absurd rose
  says_front S.Value some rose = absurd rose

  says_written : (json : List ℕ) (status : Status) → MakesProof c t json → Replied (R.Ok json) S.Done c.before.output status c.after.output → Says c t status
  says_written json status made (inl done) =
      subst (λ (s : Status). Says c t s) (sym done.0) (inr (inr (inr (inr (inr (inr (inr (inl (record { json = json; made = made; written = done.1 })))))))))
  says_written json status made (inr cut) = says_front status (record { json = json; made = made; written = cut.1 }) cut.0

  says_sought : (result : Result (List ℕ) ProveFault) (status : Status) → ProvesPath hash rows n id path c.before.moment result c.after.moment
      → SoughtTold result c.before.output status c.after.output → Says c t status
  says_sought (Ok json) status proved told = says_written json status (record { sought = sought; table = table; proved = proved }) told
  says_sought (Err (X.Block at why)) status proved told =
      says_by c t (F.Root at why) status (inr (inr (inl (record { sought = sought; table = table; refused = proved.answer })))) (inr (inr (inl (record { sought = sought; reads = proved.reads })))) told.told
  says_sought (Err X.Store) status proved told =
      let reads : ReadsPath c t = record { sought = sought; reads = proved.reads } in
      says_by c t F.Store status (proved.answer, inr (inr (inr (inl reads)))) (inr (inr (inr (inl reads)))) told.told
  says_sought (Err X.Memory) status proved told = says_by c t F.Memory status tt (inr (inr (inr (inr (inl (record { sought = sought; reads = proved.reads })))))) told.told

pub ended_sought : (c : Call) (job : Job) (t : Taking) (rows : List Row) (n : TypeNo) (id : List ℕ) (path : List (List ℕ)) (status : Status) → c.job ≡ Some job → IsTaking job c.before.supply t
    → job_work job t ≡ seeks rows n id path → SoughtAs rows n id path c.before.moment c.before.output status c.after.moment c.after.output → Ended c status
ended_sought c job t rows n id path status named a work found = record {
  taking = t;
  taken = are_taken c job t named a;
  says = says_sought c t rows n id path (is_work c job t (seeks rows n id path) named work) found.table found.result status found.proves found.told;
}
