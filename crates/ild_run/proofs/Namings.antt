-- How a call ends that gives a value a root that names its schema.
use Rattle.std.proofs.Common.{◌≡◌, ℕ, List, Some, Result, Ok, Err, sym, subst, inl, inr}
use Rattle.ild_data.specs.declared.id.BlockId.{BlockId}
use Rattle.ild_run_create.specs.declared.fault.Refusal.{Refusal}
use Rattle.ild_run_create.specs.declared.fault.Refusal.TheVariants as N
use Rattle.ild_run_named.specs.Migrates.{Migrates}
use Rattle.ild_run_named.specs.declared.migrating.MigrateFault.{MigrateFault}
use Rattle.ild_run_named.specs.declared.migrating.MigrateFault.TheVariants as X
use Rattle.ild_schema.specs.Table.{IsTable}
use Rattle.ild_schema.specs.declared.number.TypeNo.{TypeNo}
use Rattle.ild_schema.specs.declared.row.Row.{Row}
use Rattle.ild_run.specs.Cut.{CutAs}
use Rattle.ild_run.specs.Ended.{Call, MovesRoot, MovesTo, RefusesMove, AsksStore, IsDue, Leaves, NamesSome, Says, Ended}
use Rattle.ild_run.specs.Shown.{hash}
use Rattle.ild_run.specs.inside.Moved.{moved_fault, MovedTold, MovedAs}
use Rattle.ild_run.specs.Words.{Job}
use Rattle.ild_run.specs.Work.{Taking, moves, work_of, job_work, IsTaking}
use Rattle.ild_run.specs.declared.status.Status.{Status}
use Rattle.ild_run.specs.declared.status.Status.TheVariants as S
use Rattle.ild_run.proofs.Endings.{are_taken, is_work, says_by}

-- a refusal is of that work
pub refuses_move : (c : Call) (t : Taking) (r : Refusal) → RefusesMove c t r → MovesRoot c t
refuses_move c t N.Depth to = to.moved
refuses_move c t N.Size to = to.moved
refuses_move c t N.Json to = absurd to
refuses_move c t N.Mismatch to = absurd to
refuses_move c t N.Delimiter to = absurd to
refuses_move c t N.Hole to = absurd to
refuses_move c t N.Exhausted to = absurd to

-- a front of the line of the new root
says_front : (c : Call) (t : Taking) (status : Status) → NamesSome c t → CutAs c.before.output status c.after.output → Says c t status
says_front c t S.SinkFault some rose = (rose, inr (inr (inr (inr (inr (inr (inr (inr (inr some)))))))))
says_front c t S.Memory some rose = inr (inr (inr (inr (inr (inr (inr (inr (inr (inr some)))))))))
says_front c t S.Done some rose = absurd rose
says_front c t S.Refused some rose = absurd rose
says_front c t S.Words some rose = absurd rose
says_front c t S.Schema some rose = absurd rose
says_front c t S.Root some rose = absurd rose
says_front c t S.Input some rose = absurd rose
says_front c t S.StoreFault some rose = absurd rose
says_front c t S.Value some rose = absurd rose

module _ (c : Call) (t : Taking) (rows : List Row) (n : TypeNo) (id name source : List ℕ) (work : work_of c.job t ≡ moves rows n id name source) (table : IsTable rows) where
  moves_to : (result : Result BlockId MigrateFault) → Migrates hash rows n id name source c.before.moment result c.after.moment → MovesTo c t result
  moves_to result migrates = record { moved = record { rows = rows; type = n; root = id; name = name; source = source; work = work }; table = table; migrates = migrates }

  asked : (result : Result BlockId MigrateFault) → Migrates hash rows n id name source c.before.moment result c.after.moment → AsksStore c t
  asked result migrates = inr (inr (inr (inr (record { result = result; to = moves_to result migrates }))))

  due_moved : (f : MigrateFault) → Migrates hash rows n id name source c.before.moment (Err f) c.after.moment → IsDue c t (moved_fault f)
  due_moved X.Depth moved = inr (inr (moves_to (Err X.Depth) moved))
  due_moved X.Size moved = inr (inr (moves_to (Err X.Size) moved))
  due_moved (X.Block at why) moved = inr (inr (inr (moves_to (Err (X.Block at why)) moved)))
  due_moved X.Store moved = (moved.answer, asked (Err X.Store) moved)
  due_moved (X.Clash at) moved = inr (inr (moves_to (Err (X.Clash at)) moved))
  due_moved X.Memory moved = tt

  leaves_moved : (f : MigrateFault) → Migrates hash rows n id name source c.before.moment (Err f) c.after.moment → Leaves c t (moved_fault f)
  leaves_moved X.Depth moved = inr (moves_to (Err X.Depth) moved)
  leaves_moved X.Size moved = inr (moves_to (Err X.Size) moved)
  leaves_moved (X.Block at why) moved = inr (inr (inr (moves_to (Err (X.Block at why)) moved)))
  leaves_moved X.Store moved = asked (Err X.Store) moved
  leaves_moved (X.Clash at) moved = inr (inr (moves_to (Err (X.Clash at)) moved))
  leaves_moved X.Memory moved = inr (asked (Err X.Memory) moved)

  says_moved : (result : Result BlockId MigrateFault) (status : Status) → Migrates hash rows n id name source c.before.moment result c.after.moment → MovedTold result c.before.output status c.after.output → Says c t status
  says_moved (Ok root) status moved (inl done) = subst (λ (s : Status). Says c t s) (sym done.0) (inr (inr (inr (inr (inr (inr (inr (inr (record { root = root; has = moves_to (Ok root) moved; written = done.1 })))))))))
  says_moved (Ok root) status moved (inr cut) = says_front c t status (record { root = root; has = moves_to (Ok root) moved; written = cut.1 }) cut.0
  says_moved (Err f) status moved told = says_by c t (moved_fault f) status (due_moved f moved) (leaves_moved f moved) told.told

pub ended_moved : (c : Call) (job : Job) (t : Taking) (rows : List Row) (n : TypeNo) (id name source : List ℕ) (status : Status) → c.job ≡ Some job → IsTaking job c.before.supply t
    → job_work job t ≡ moves rows n id name source → MovedAs rows n id name source c.before.moment c.before.output status c.after.moment c.after.output → Ended c status
ended_moved c job t rows n id name source status named a work moved = record {
  taking = t;
  taken = are_taken c job t named a;
  says = says_moved c t rows n id name source (is_work c job t (moves rows n id name source) named work) moved.table moved.result status moved.migrates moved.told;
}
