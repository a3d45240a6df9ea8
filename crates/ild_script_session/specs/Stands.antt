-- What a line leaves of a session: over each store, and from each stage at which the session stands.
use Rattle.std.specs.Prelude.{◌≡◌, ℕ, List, [], ◌∷◌, Option, Some, None}
use Rattle.std.specs.List.{cons_option}
use Rattle.ild_edges.specs.Count.{Rose}
use Rattle.ild_edges.specs.Store.{Moment, Later}
use Rattle.ild_script.specs.Line.{reads, blank}
use Rattle.ild_script.specs.declared.reply.No.TheVariants as N
use Rattle.ild_script.specs.declared.reply.Reply.{Reply}
use Rattle.ild_script.specs.declared.reply.Reply.TheVariants as R
use Rattle.ild_script_session.specs.Session.{Stage, Meaning}
use Rattle.ild_script_session.specs.Step.{Step, Carries}
use Rattle.ild_script_session.specs.Run.{Run}

-- ---- over each store, also one that does not tell what it holds

-- each line but the empty one has its reply, and the empty one has none; and where it is told that the store failed, it did
pub record IsAnswered (m : Moment) (line : List ℕ) (reply : Option Reply) (n : Moment) : Type 0 where
  pub later : Later m n
  pub empty : reply ≡ None → reads line ≡ blank
  pub silent : reads line ≡ blank → reply ≡ None
  pub failed : reply ≡ Some (R.No N.Store) → Rose m.faults n.faults

-- So have lines in order. What each leaves by its reply, from a session to the one that goes on, is what `Passes` says.
abbrev pub AreAnswered : {S : Type 0} → (S → Moment → List ℕ → Option Reply → Moment → S → Type 0) → S → Moment → List (List ℕ) → List Reply → Moment → S → Type 0
AreAnswered Passes s m [] replies n t = (replies ≡ []) × (n ≡ m) × (t ≡ s)
AreAnswered {S} Passes s m (l ∷ ls) replies n t =
    (reply : Option Reply) × (u : S) × (k : Moment) × (more : List Reply) × IsAnswered m l reply k × Passes s m l reply k u × (replies ≡ cons_option reply more) × AreAnswered Passes u k ls more n t

-- a session that answers lines over each store
abbrev pub OverEach : {S : Type 0} → S → Moment → Type 0
OverEach s m = Unit {0}

-- ---- from a stage

-- a line leads to a stage at which the session stands then
pub record Leads {V : Type 0} (M : Meaning V) (Stands : Stage V → Type 0) (m : Moment) (s : Stage V) (line : List ℕ) (reply : Option Reply) (n : Moment) : Type 0 where
  pub stage : Stage V
  pub step : Step M m s line reply n stage
  pub stands : Stands stage

-- so do lines in order, and what is carried at first is carried then
pub record Ran {V : Type 0} (M : Meaning V) (Stands : Stage V → Type 0) (m : Moment) (s : Stage V) (lines : List (List ℕ)) (replies : List Reply) (n : Moment) : Type 0 where
  pub stage : Stage V
  pub run : Run M m s lines replies n stage
  pub carries : Carries M m s → Carries M n stage
  pub stands : Stands stage
