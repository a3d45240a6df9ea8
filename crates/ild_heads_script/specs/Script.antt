-- A script over named heads: its lines in order, each answered from the state and the work that the one before left, and the events that they give.
use Rattle.std.specs.Prelude.{◌≡◌, ◌⊎◌, ℕ, List, [], ◌∷◌, Bool, IsTrue, Option, None}
use Rattle.ild_data.specs.declared.id.BlockId.{BlockId}
use Rattle.ild_script.specs.declared.reply.No.{No}
use Rattle.ild_script.specs.declared.reply.No.TheVariants as N
use Rattle.ild_script.specs.Reply.{no_text}
use Rattle.ild_heads.specs.declared.events.Event.{Event}
use Rattle.ild_heads.specs.declared.events.Event.TheVariants as E
use Rattle.ild_heads.specs.Change.{session_of}
use Rattle.ild_heads.specs.Run.{Given, after, IsRun}
use Rattle.ild_heads.specs.State.{State}
use Rattle.ild_heads.specs.Turn.{turn}
use Rattle.ild_heads.specs.Work.{Stays}
use Rattle.ild_heads_lines.specs.Asks.{Reading, blank, asks, outside, asks_of}
use Rattle.ild_heads_lines.specs.Told.{told_text}
use Rattle.ild_heads_lines.specs.declared.asking.Asked.{Asked}
use Rattle.ild_heads_lines.specs.declared.asking.Asked.TheVariants as A
use Rattle.ild_heads_script.specs.Answer.{LineTurn}

-- what a line gives: nothing, a refusal, or an event with what work answered to its lines
pub data Deed : Type 0 where
  quiet : Deed
  refused : No → Deed
  took : Given → Deed

-- what it is answered from a state, and the state behind it
abbrev pub deed_text : State → Deed → List ℕ
deed_text s quiet = []
deed_text s (refused refusal) = no_text refusal
deed_text s (took g) = told_text (session_of g.event) (turn s g.event g.done).outcome

abbrev pub deed_next : State → Deed → State
deed_next s quiet = s
deed_next s (refused refusal) = s
deed_next s (took g) = (turn s g.event g.done).next

abbrev pub texts : State → List Deed → List (List ℕ)
texts s [] = []
texts s (d ∷ ds) = deed_text s d ∷ texts (deed_next s d) ds

-- the events that are given, in order
abbrev pub event_of : Deed → List Given → List Given
event_of quiet gs = gs
event_of (refused refusal) gs = gs
event_of (took g) gs = g ∷ gs

abbrev pub events : List Deed → List Given
events [] = []
events (d ∷ ds) = event_of d (events ds)

-- ---- by what a line asks

-- the event is the one that it asks; a head with the empty value has some root
abbrev pub IsAskedFor : Asked → Event → Type 0
IsAskedFor (A.Empty name) event = (root : BlockId) × (event ≡ E.Head name root)
IsAskedFor (A.Event own) event = event ≡ own

-- it asks for a head
abbrev pub AsksHead : Asked → Type 0
AsksHead (A.Empty name) = Unit {0}
AsksHead (A.Event event) = session_of event ≡ None

abbrev pub IsOfAsked : Asked → Deed → Type 0
IsOfAsked asked quiet = ⊥
IsOfAsked asked (refused refusal) = AsksHead asked
IsOfAsked asked (took g) = IsAskedFor asked g.event

abbrev pub IsOfReading : Reading → Deed → Type 0
IsOfReading blank d = d ≡ quiet
IsOfReading (asks asked) d = IsOfAsked asked d
IsOfReading outside d = d ≡ refused N.Line

-- the empty line gives nothing, and memory may be wanting for another
abbrev pub IsOfLine : List ℕ → Deed → Type 0
IsOfLine [] d = d ≡ quiet
IsOfLine (b ∷ bs) d = (d ≡ refused N.Memory) ⊎ IsOfReading (asks_of (b ∷ bs)) d

abbrev pub AreOfLines : List (List ℕ) → List Deed → Type 0
AreOfLines [] ds = ds ≡ []
AreOfLines (l ∷ ls) [] = ⊥
AreOfLines (l ∷ ls) (d ∷ ds) = IsOfLine l d × AreOfLines ls ds

-- ---- the script

module _ {W V : Type 0} (told : W → Bool) (Stands : W → List ℕ → V → Type 0) (Plain : V → List ℕ → List ℕ → V → Type 0)
    (Ran : W → List ℕ → List ℕ → List ℕ → List ℕ → W → Type 0) (Later : W → W → Type 0) (Empty : W → List ℕ → Type 0) (Cause : W → Option BlockId → No → W → Type 0) where
  -- one line, with the text of its answer
  pub record AnswersOne (w : W) (s : State) (line text : List ℕ) (x : W) (t : State) : Type 0 where
    pub turn : LineTurn (told x) (Stands x) Plain Ran w x Empty Cause s line text t
    pub later : Later w x
    pub stays : Stays (told w) (Stands w) (told x) (Stands x)

  -- the lines, one after another
  abbrev pub Answers : W → State → List (List ℕ) → List (List ℕ) → W → State → Type 0
  Answers w s [] texts x t = (texts ≡ []) × (t ≡ s) × (x ≡ w)
  Answers w s (l ∷ ls) texts x t =
      (u : W) × (k : State) × (one : List ℕ) × (more : List (List ℕ)) × AnswersOne w s l one u k × (texts ≡ one ∷ more) × Answers u k ls more x t

-- lines spell a list of events: the texts are those of this list, and the state is the one behind it
pub record Spells {V : Type 0} (told : Bool) (Stands : List ℕ → V → Type 0) (Plain : V → List ℕ → List ℕ → V → Type 0) (s : State) (lines : List (List ℕ)) (texts' : List (List ℕ)) (t : State) : Type 0 where
  pub deeds : List Deed
  pub given : AreOfLines lines deeds
  pub texts_are : texts' ≡ texts s deeds
  pub state_is : t ≡ after s (events deeds)
  pub run : IsTrue told → IsRun Stands Plain s (events deeds)
