-- What a line of a script over named heads leaves: the event that it gives is taken, or it gives none and is refused.
use Rattle.std.specs.Prelude.{◌≡◌, ◌⊎◌, ℕ, List, [], ◌∷◌, Bool, IsTrue, Option, Some, None}
use Rattle.ild_data.specs.declared.id.BlockId.{BlockId}
use Rattle.ild_script.specs.declared.reply.No.{No}
use Rattle.ild_script.specs.declared.reply.No.TheVariants as N
use Rattle.ild_script.specs.Reply.{no_text}
use Rattle.ild_heads.specs.declared.events.Event.{Event}
use Rattle.ild_heads.specs.declared.events.Event.TheVariants as E
use Rattle.ild_heads.specs.declared.events.Outcome.{Outcome}
use Rattle.ild_heads.specs.Change.{session_of}
use Rattle.ild_heads.specs.Run.{IsTurn}
use Rattle.ild_heads.specs.State.{State}
use Rattle.ild_heads.specs.Work.{IsValue}
use Rattle.ild_heads_lines.specs.Asks.{Reading, blank, asks, outside, asks_of}
use Rattle.ild_heads_lines.specs.Told.{told_text}
use Rattle.ild_heads_lines.specs.declared.asking.Asked.{Asked}
use Rattle.ild_heads_lines.specs.declared.asking.Asked.TheVariants as A

-- a refusal: its text, and all stays
pub record RefusesEvent (refusal : No) (s : State) (text : List ℕ) (t : State) : Type 0 where
  pub text_is : text ≡ no_text refusal
  pub stays : t ≡ s

-- the event was taken, and its outcome told behind the number of its session
pub record Tells {W V : Type 0} (told : Bool) (Stands : List ℕ → V → Type 0) (Plain : V → List ℕ → List ℕ → V → Type 0) (Ran : W → List ℕ → List ℕ → List ℕ → List ℕ → W → Type 0) (w x : W)
    (s : State) (event : Event) (text : List ℕ) (t : State) : Type 0 where
  pub outcome : Outcome
  pub turn : IsTurn told Stands Plain Ran w x s event outcome t
  pub text_is : text ≡ told_text (session_of event) outcome

-- or memory was wanting for it
abbrev pub TakesEvent : {W V : Type 0} → Bool → (List ℕ → V → Type 0) → (V → List ℕ → List ℕ → V → Type 0) → (W → List ℕ → List ℕ → List ℕ → List ℕ → W → Type 0) → W → W → State → Event → List ℕ → State → Type 0
TakesEvent told Stands Plain Ran w x s event text t = RefusesEvent N.Memory s text t ⊎ Tells told Stands Plain Ran w x s event text t

module _ {W V : Type 0} (told : Bool) (Stands : List ℕ → V → Type 0) (Plain : V → List ℕ → List ℕ → V → Type 0) (Ran : W → List ℕ → List ℕ → List ℕ → List ℕ → W → Type 0) (w x : W) (Empty : W → List ℕ → Type 0) (Cause : W → Option BlockId → No → W → Type 0) (s : State) where
  -- a line for a head that is refused for a cause
  abbrev pub IsRefused : Option BlockId → List ℕ → State → Type 0
  IsRefused root text t = (refusal : No) × Cause w root refusal x × RefusesEvent refusal s text t

  -- a head with a root: the event is given where the root stands for a value, and asks nothing of the work
  abbrev pub HeadTurn : List ℕ → BlockId → List ℕ → State → Type 0
  HeadTurn name root text t = IsRefused (Some root) text t ⊎ ((IsTrue told → IsValue Stands root.0) × TakesEvent told Stands Plain Ran x x s (E.Head name root) text t)

  -- a head with the empty value: the event is given with its root
  abbrev pub EmptyTurn : List ℕ → List ℕ → State → Type 0
  EmptyTurn name text t = IsRefused None text t ⊎ ((root : BlockId) × (IsTrue told → IsValue Stands root.0) × Empty x root.0 × TakesEvent told Stands Plain Ran x x s (E.Head name root) text t)

  abbrev pub EventTurn : Event → List ℕ → State → Type 0
  EventTurn (E.Head name root) text t = HeadTurn name root text t
  EventTurn (E.Begin n name) text t = TakesEvent told Stands Plain Ran w x s (E.Begin n name) text t
  EventTurn (E.Line n line) text t = TakesEvent told Stands Plain Ran w x s (E.Line n line) text t
  EventTurn (E.Commit n) text t = TakesEvent told Stands Plain Ran w x s (E.Commit n) text t
  EventTurn (E.Replay n) text t = TakesEvent told Stands Plain Ran w x s (E.Replay n) text t
  EventTurn (E.Abort n) text t = TakesEvent told Stands Plain Ran w x s (E.Abort n) text t

  abbrev pub AskedTurn : Asked → List ℕ → State → Type 0
  AskedTurn (A.Empty name) text t = EmptyTurn name text t
  AskedTurn (A.Event event) text t = EventTurn event text t

  -- by what the line reads as
  abbrev pub ReadingTurn : Reading → List ℕ → State → Type 0
  ReadingTurn blank text t = (text ≡ []) × (t ≡ s)
  ReadingTurn (asks asked) text t = AskedTurn asked text t
  ReadingTurn outside text t = RefusesEvent N.Line s text t

  -- a line that isn't empty; memory may be wanting to read it
  abbrev pub SomeTurn : List ℕ → List ℕ → State → Type 0
  SomeTurn line text t = RefusesEvent N.Memory s text t ⊎ ReadingTurn (asks_of line) text t

  -- the empty line has no reply
  abbrev pub LineTurn : List ℕ → List ℕ → State → Type 0
  LineTurn [] text t = (text ≡ []) × (t ≡ s)
  LineTurn (b ∷ bs) text t = SomeTurn (b ∷ bs) text t
