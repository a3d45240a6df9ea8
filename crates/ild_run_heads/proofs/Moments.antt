-- A script over the roots of a store, as one over the moments of the store.
use Rattle.std.proofs.Common.{◌≡◌, ℕ, ◌≤◌, List, Bool, Option, Result, Ok, Err, refl, ap, ◌∙◌, subst}
use Rattle.std.specs.Prelude.{is_some, IfOk, OnErr, IsErrOf}
use Rattle.ild_data.specs.declared.id.BlockId.{BlockId}
use Rattle.ild_edges.specs.Count.{Rose}
use Rattle.ild_edges.specs.Sink.{Output}
use Rattle.ild_edges.specs.Store.{Moment, Later}
use Rattle.ild_heads.specs.Legal.{AreLegal}
use Rattle.ild_heads.specs.State.{State, nothing}
use Rattle.ild_heads_run.specs.Runs.{RanScript, ScriptCut, ScriptDone}
use Rattle.ild_heads_script.proofs.Mapped.{answers_to}
use Rattle.ild_heads_script.specs.Script.{Spells}
use Rattle.ild_schema.specs.Value.{Value}
use Rattle.ild_script.specs.Line.{lines_of}
use Rattle.ild_script.specs.declared.reply.No.{No}
use Rattle.ild_script_session.specs.declared.cut.Cut.{Cut}
use Rattle.ild_script_session.specs.declared.cut.Cut.TheVariants as C
use Rattle.ild_run_work.specs.Plain.{PlainStep}
use Rattle.ild_run_work.specs.Roots.{IsEmptyRoot, RefusesRoot}
use Rattle.ild_run_work.specs.Rules.{Rules, RootRules, StandsIn}
use Rattle.ild_run_work.specs.Runs.{GoesOn, RunsLine, RunsThere}
use Rattle.ild_run_heads.specs.Heads.{HeadsCut, HeadsDone, HeadsRun}

abbrev told : Moment → Bool
told k = is_some k.blocks

module _ {W : Type 0} (rules : W → RootRules) (moment : W → Moment) where
  -- what is said of the roots of a store, by their rules and the moment
  abbrev StandsOf : W → List ℕ → Value → Type 0
  StandsOf w root v = StandsIn (rules w).rules (moment w) root v

  abbrev RanOf : W → List ℕ → List ℕ → List ℕ → List ℕ → W → Type 0
  RanOf w root line reply to x = RunsThere (rules w) (rules x) line (moment w) root to reply (moment x)

  abbrev LaterOf : W → W → Type 0
  LaterOf w x = GoesOn (rules w) (rules x) (moment w) (moment x)

  abbrev EmptyOf : W → List ℕ → Type 0
  EmptyOf w root = IsEmptyRoot (rules w).rules (moment w) root

  abbrev CauseOf : W → Option BlockId → No → W → Type 0
  CauseOf w root refusal x = RefusesRoot (rules w).rules root (moment w) refusal (moment x)

  module _ (by : RootRules) where
    abbrev Same : W → Type 0
    Same w = rules w ≡ by

    stands_is : (w : W) → Same w → StandsOf w ≡ StandsIn by.rules (moment w)
    stands_is w i = ap (λ (r : RootRules). StandsIn r.rules (moment w)) i

    ran_to : (w : W) (root line reply to : List ℕ) (x : W) → Same w → RanOf w root line reply to x → Same x × RunsLine by.rules line (moment w) root to reply (moment x)
    ran_to w root line reply to x i a = (a.same ∙ i, subst (λ (r : RootRules). RunsLine r.rules line (moment w) root to reply (moment x)) i a.runs)

    later_to : (w x : W) → Same w → LaterOf w x → Same x × Later (moment w) (moment x)
    later_to w x i a = (a.same ∙ i, a.later)

    empty_to : (x : W) (root : List ℕ) → Same x → EmptyOf x root → IsEmptyRoot by.rules (moment x) root
    empty_to x root i e = subst (λ (r : RootRules). IsEmptyRoot r.rules (moment x) root) i e

    cause_to : (w : W) (root : Option BlockId) (refusal : No) (x : W) → Same w → CauseOf w root refusal x → RefusesRoot by.rules root (moment w) refusal (moment x)
    cause_to w root refusal x i c = subst (λ (r : RootRules). RefusesRoot r.rules root (moment w) refusal (moment x)) i c

    ran_at : (w : W) (ls texts : List (List ℕ)) (x : W) (t : State) → Same w → RanScript (λ u. told (moment u)) StandsOf (PlainStep by.rules) RanOf LaterOf EmptyOf CauseOf w ls texts x t
        → RanScript told (StandsIn by.rules) (PlainStep by.rules) (λ k root line reply to o. RunsLine by.rules line k root to reply o) Later (IsEmptyRoot by.rules) (λ k root refusal o. RefusesRoot by.rules root k refusal o) (moment w) ls texts (moment x) t
    ran_at w ls texts x t i a =
        let on = later_to w x i a.later in record {
          answers = answers_to moment Same RanOf (λ k root line reply to o. RunsLine by.rules line k root to reply o) ran_to told StandsOf (StandsIn by.rules) (PlainStep by.rules) LaterOf Later EmptyOf (IsEmptyRoot by.rules) CauseOf (λ k root refusal o. RefusesRoot by.rules root k refusal o)
              stands_is later_to empty_to cause_to w nothing ls texts x t i a.answers;
          spells = subst (λ (S : List ℕ → Value → Type 0). Spells (told (moment x)) S (PlainStep by.rules) nothing ls texts t) (stands_is x on.0) a.spells;
          legal = λ y. subst (λ (S : List ℕ → Value → Type 0). AreLegal S (PlainStep by.rules) t) (stands_is x on.0) (a.legal y);
          later = on.1;
        }

  module _ (w x : W) (lines : List (List ℕ)) (was now : Option (List ℕ)) where
    heads_done : (refused : Bool) → ScriptDone (λ u. told (moment u)) StandsOf (PlainStep (rules w).rules) RanOf LaterOf EmptyOf CauseOf w lines x was now refused → HeadsDone (rules w).rules (moment w) lines (moment x) was now refused
    heads_done refused d = record { texts = d.texts; state = d.state; ran = ran_at (rules w) w lines d.texts x d.state refl d.ran; written = d.written; refused_is = d.refused_is }

    heads_cut : ScriptCut (λ u. told (moment u)) StandsOf (PlainStep (rules w).rules) RanOf LaterOf EmptyOf CauseOf w lines x was now → HeadsCut (rules w).rules (moment w) lines (moment x) was now
    heads_cut d = record { first = d.first; rest = d.rest; split = d.split; texts = d.texts; state = d.state; ran = ran_at (rules w) w d.first d.texts x d.state refl d.ran; written = d.written }

  module _ (script : List ℕ) (w x : W) (was now : Output) (faults : was.faults ≤ now.faults) where
    heads_run_there : (r : Result Bool Cut) → IfOk r (λ refused. ScriptDone (λ u. told (moment u)) StandsOf (PlainStep (rules w).rules) RanOf LaterOf EmptyOf CauseOf w (lines_of script) x was.written now.written refused)
        → OnErr r (ScriptCut (λ u. told (moment u)) StandsOf (PlainStep (rules w).rules) RanOf LaterOf EmptyOf CauseOf w (lines_of script) x was.written now.written) → (IsErrOf r C.Sink → Rose was.faults now.faults)
        → HeadsRun (rules w).rules script (moment w) was r (moment x) now
    heads_run_there (Ok refused) done part sink = record { answer = heads_done w x (lines_of script) was.written now.written refused done; later = done.ran.later.later; faults = faults }
    heads_run_there (Err C.Sink) done part sink = record { answer = (sink refl, heads_cut w x (lines_of script) was.written now.written part); later = part.ran.later.later; faults = faults }
    heads_run_there (Err C.Memory) done part sink = record { answer = heads_cut w x (lines_of script) was.written now.written part; later = part.ran.later.later; faults = faults }

    -- of the store from which the work was made, and to which it leads
    pub heads_run : (by : Rules) (m n : Moment) → (rules w).rules ≡ by → moment w ≡ m → moment x ≡ n → (r : Result Bool Cut)
        → IfOk r (λ refused. ScriptDone (λ u. told (moment u)) StandsOf (PlainStep (rules w).rules) RanOf LaterOf EmptyOf CauseOf w (lines_of script) x was.written now.written refused)
        → OnErr r (ScriptCut (λ u. told (moment u)) StandsOf (PlainStep (rules w).rules) RanOf LaterOf EmptyOf CauseOf w (lines_of script) x was.written now.written) → (IsErrOf r C.Sink → Rose was.faults now.faults)
        → HeadsRun by script m was r n now
    heads_run by m n p q e r done part sink =
        subst (λ (z : Rules). HeadsRun z script m was r n now) p
        (subst (λ (z : Moment). HeadsRun (rules w).rules script z was r n now) q
        (subst (λ (z : Moment). HeadsRun (rules w).rules script (moment w) was r z now) e (heads_run_there r done part sink)))
