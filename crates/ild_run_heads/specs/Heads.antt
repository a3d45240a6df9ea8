-- What running a script over named heads, on the values of a type in a store, answers, and what it leaves of the store.
use Rattle.std.specs.Prelude.{ℕ, ◌≤◌, List, Bool, is_some, Option, Result, Ok, Err}
use Rattle.ild_edges.specs.Count.{Rose}
use Rattle.ild_edges.specs.Sink.{Output}
use Rattle.ild_edges.specs.Store.{Moment, Later}
use Rattle.ild_script.specs.Line.{lines_of}
use Rattle.ild_script_session.specs.declared.cut.Cut.{Cut}
use Rattle.ild_script_session.specs.declared.cut.Cut.TheVariants as C
use Rattle.ild_heads_run.specs.Runs.{ScriptCut, ScriptDone}
use Rattle.ild_run_work.specs.Plain.{PlainStep}
use Rattle.ild_run_work.specs.Roots.{IsEmptyRoot, RefusesRoot}
use Rattle.ild_run_work.specs.Rules.{Rules, StandsIn}
use Rattle.ild_run_work.specs.Runs.{RunsLine}

module _ (rules : Rules) where
  -- From one moment of the store to another these lines were answered, over roots that stand for values of the type, where the store tells
  -- what it holds: all of them, and all was written; or the first of them, and a front.
  abbrev pub HeadsDone : Moment → List (List ℕ) → Moment → Option (List ℕ) → Option (List ℕ) → Bool → Type 0
  HeadsDone m lines n was now refused =
      ScriptDone (λ k. is_some k.blocks) (StandsIn rules) (PlainStep rules) (λ k root line reply to o. RunsLine rules line k root to reply o) Later (IsEmptyRoot rules) (λ k root refusal o. RefusesRoot rules root k refusal o)
      m lines n was now refused

  abbrev pub HeadsCut : Moment → List (List ℕ) → Moment → Option (List ℕ) → Option (List ℕ) → Type 0
  HeadsCut m lines n was now =
      ScriptCut (λ k. is_some k.blocks) (StandsIn rules) (PlainStep rules) (λ k root line reply to o. RunsLine rules line k root to reply o) Later (IsEmptyRoot rules) (λ k root refusal o. RefusesRoot rules root k refusal o)
      m lines n was now

  abbrev pub HeadsAnswer : List ℕ → Moment → Output → Result Bool Cut → Moment → Output → Type 0
  HeadsAnswer script m was (Ok refused) n now = HeadsDone m (lines_of script) n was.written now.written refused
  HeadsAnswer script m was (Err C.Sink) n now = Rose was.faults now.faults × HeadsCut m (lines_of script) n was.written now.written
  HeadsAnswer script m was (Err C.Memory) n now = HeadsCut m (lines_of script) n was.written now.written

  pub record HeadsRun (script : List ℕ) (m : Moment) (was : Output) (result : Result Bool Cut) (n : Moment) (now : Output) : Type 0 where
    pub answer : HeadsAnswer script m was result n now
    pub later : Later m n
    pub faults : was.faults ≤ now.faults
