-- How a call ends that compares two types, and that no other call compares them.
use Rattle.std.specs.Prelude.{nat_eq}
use Rattle.std.proofs.Common.{◌≡◌, ◌⊎◌, ℕ, List, Bool, true, false, Option, Some, None, Result, Ok, Err, refl, sym, ap, ◌∙◌, subst, inl, inr}
use Rattle.std.proofs.lemmas.Bool.{eq-eqb, false≢true}
use Rattle.ild_compat.specs.declared.rule.Differ.{Differ}
use Rattle.ild_edges.specs.Count.{Rose}
use Rattle.ild_edges.specs.Sink.{Output}
use Rattle.ild_run_compare.specs.Compared.{IsTold, IsCutOff, ComparedAnswer}
use Rattle.ild_run_compare.specs.declared.fault.CompareFault.{CompareFault}
use Rattle.ild_run_compare.specs.declared.fault.CompareFault.TheVariants as X
use Rattle.ild_schema.specs.declared.number.TypeNo.{TypeNo}
use Rattle.ild_schema.specs.declared.row.Row.{Row}
use Rattle.ild_script_session.specs.declared.cut.Cut.TheVariants as C
use Rattle.ild_run.specs.Cut.{ToldAs}
use Rattle.ild_run.specs.Ended.{Call, AsksStore, MatchesTypes, MatchesSome, Says, Ended}
use Rattle.ild_run.specs.inside.Matched.{MatchedTold, MatchedAs}
use Rattle.ild_run.specs.Words.{Job}
use Rattle.ild_run.specs.Work.{Work, Taking, ends, lists, matches, answers, makes, opens, weighs, serves, seeks, moves, work_of, job_work, IsTaking}
use Rattle.ild_run.specs.declared.fault.Fault.TheVariants as F
use Rattle.ild_run.specs.declared.status.Status.{Status}
use Rattle.ild_run.proofs.Endings.{are_taken, is_work, says_by}

-- ---- what a work is not

abbrev sort_of : Work → ℕ
sort_of (ends f) = 0
sort_of (lists names) = 1
sort_of (matches rows others m n) = 2
sort_of (answers rows n start b) = 3
sort_of (makes rows n b) = 4
sort_of (opens rows n id) = 5
sort_of (weighs rows n id path b) = 6
sort_of (serves rows n b) = 7
sort_of (seeks rows n id path) = 8
sort_of (moves rows n id name source) = 9

-- a work, or want of memory in its place, is none of another sort
pub other_sort : (w a b : Work) → (w ≡ a) ⊎ (w ≡ ends F.Memory) → w ≡ b → nat_eq (sort_of a) (sort_of b) ≡ false → nat_eq 0 (sort_of b) ≡ false → ⊥
other_sort w a b (inl is) work other some =
    let P : Work → Type 0 = λ x. nat_eq (sort_of x) (sort_of b) ≡ false in
    false≢true (sym (subst P (sym is ∙ work) other) ∙ eq-eqb (sort_of b) (sort_of b) refl)
other_sort w a b (inr is) work other some = false≢true (sym some ∙ ap (λ x. nat_eq 0 (sort_of x)) (sym work ∙ is))

-- it asks something of the store
abbrev asks_store : Work → Bool
asks_store (answers rows n start b) = true
asks_store (makes rows n b) = true
asks_store (opens rows n id) = true
asks_store (seeks rows n id path) = true
asks_store (moves rows n id name source) = true
asks_store w = false

asked : (c : Call) (t : Taking) → AsksStore c t → asks_store (work_of c.job t) ≡ true
asked c t (inl asks) = ap asks_store asks.script.work
asked c t (inr (inl tries)) = ap asks_store tries.value.work
asked c t (inr (inr (inl reads))) = ap asks_store reads.opened.work
asked c t (inr (inr (inr (inl reads)))) = ap asks_store reads.sought.work
asked c t (inr (inr (inr (inr moved)))) = ap asks_store moved.to.moved.work

-- of a work that asks nothing of it, or want of memory in its place, nothing was asked
pub asks_not : (c : Call) (t : Taking) (a : Work) → (work_of c.job t ≡ a) ⊎ (work_of c.job t ≡ ends F.Memory) → asks_store a ≡ false → AsksStore c t → ⊥
asks_not c t a (inl is) other asks = false≢true (sym other ∙ (ap asks_store (sym is) ∙ asked c t asks))
asks_not c t a (inr is) other asks = false≢true (ap asks_store (sym is) ∙ asked c t asks)

-- ---- how the call ends

module _ (c : Call) (t : Taking) (rows others : List Row) (m n : TypeNo) (work : work_of c.job t ≡ matches rows others m n) (same : c.after.moment ≡ c.before.moment) where
  told_of : (found : Option Differ) (behind : Output) → c.after.output ≡ behind → IsTold rows others m n found c.before.output behind → MatchesTypes c t found
  told_of found behind is told = record {
    types = record { rows = rows; others = others; type = m; later = n; work = work; same = same };
    told = subst (λ (o : Output). IsTold rows others m n found c.before.output o) (sym is) told;
  }

  some_of : (behind : Output) → c.after.output ≡ behind → IsCutOff rows others m n c.before.output behind → MatchesSome c t
  some_of behind is cut = record {
    types = record { rows = rows; others = others; type = m; later = n; work = work; same = same };
    told = subst (λ (o : Output). IsCutOff rows others m n c.before.output o) (sym is) cut;
  }

  says_matched : (result : Result Bool CompareFault) (behind : Output) (status : Status) → ComparedAnswer rows others m n c.before.output result behind → MatchedTold result behind status c.after.output → Says c t status
  says_matched (Ok true) behind status answer told = subst (λ (s : Status). Says c t s) (sym told.0) (inr (inr (inr (inr (inl (told_of None behind told.1 answer))))))
  says_matched (Ok false) behind status answer told = subst (λ (s : Status). Says c t s) (sym told.0) (inr (inr (inl (answer.0, told_of (Some answer.0) behind told.1 answer.1))))
  says_matched (Err X.Memory) behind status answer told = says_by c t F.Memory status tt (inl same) (subst (λ (o : Output). ToldAs F.Memory o status c.after.output) answer told).told
  says_matched (Err (X.Cut C.Sink)) behind status answer told =
      let rose = subst (λ (o : Output). Rose c.before.output.faults o.faults) (sym told.1) answer.0 in
      subst (λ (s : Status). Says c t s) (sym told.0) (rose, inr (inr (inr (inr (inr (inl (some_of behind told.1 answer.1)))))))
  says_matched (Err (X.Cut C.Memory)) behind status answer told = subst (λ (s : Status). Says c t s) (sym told.0) (inr (inr (inr (inr (inr (inr (inl (some_of behind told.1 answer))))))))

pub ended_matched : (c : Call) (job : Job) (t : Taking) (rows others : List Row) (m n : TypeNo) (status : Status) → c.job ≡ Some job → IsTaking job c.before.supply t → job_work job t ≡ matches rows others m n
    → c.after.moment ≡ c.before.moment → MatchedAs rows others m n c.before.output status c.after.output → Ended c status
ended_matched c job t rows others m n status named a work same matched = record {
  taking = t;
  taken = are_taken c job t named a;
  says = says_matched c t rows others m n (is_work c job t (matches rows others m n) named work) same matched.result matched.behind status matched.compared.answer matched.told;
}
