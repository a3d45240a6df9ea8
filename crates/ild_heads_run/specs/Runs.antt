-- What running a script over named heads leaves, and what is written: the texts of its lines, and the heads at its end.
use Rattle.std.specs.Prelude.{◌≡◌, ℕ, List, [], ◌∷◌, ◌++◌, Bool, IsTrue, Option}
use Rattle.std.specs.List.{flat_map, list_any}
use Rattle.ild_data.specs.declared.id.BlockId.{BlockId}
use Rattle.ild_edges.specs.Sink.{Appends, AppendsFront}
use Rattle.ild_heads.specs.Legal.{AreLegal}
use Rattle.ild_heads.specs.State.{State, nothing}
use Rattle.ild_script.specs.declared.reply.No.{No}
use Rattle.ild_heads_script.specs.Script.{Answers, Spells}
use Rattle.ild_heads_run.specs.Ends.{ends}
use Rattle.ild_heads_run.specs.Says.{says_no}

-- the texts of lines, one behind the other
abbrev pub joined : List (List ℕ) → List ℕ
joined = flat_map (λ text. text)

-- what is written behind the texts of lines, where these are left: the heads, once none is
abbrev pub ends_behind : List (List ℕ) → State → List ℕ
ends_behind [] s = ends s
ends_behind (l ∷ ls) s = []

module _ {W V : Type 0} (told : W → Bool) (Stands : W → List ℕ → V → Type 0) (Plain : V → List ℕ → List ℕ → V → Type 0)
    (Ran : W → List ℕ → List ℕ → List ℕ → List ℕ → W → Type 0) (Later : W → W → Type 0) (Empty : W → List ℕ → Type 0) (Cause : W → Option BlockId → No → W → Type 0) where
  -- From no heads and no sessions on these lines were answered, each from where the one before left off. They spell a list of events, whose
  -- outcomes their texts are; and all heads and open sessions are legal then.
  pub record RanScript (w : W) (lines texts : List (List ℕ)) (x : W) (t : State) : Type 0 where
    pub answers : Answers told Stands Plain Ran Later Empty Cause w nothing lines texts x t
    pub spells : Spells (told x) (Stands x) Plain nothing lines texts t
    pub legal : IsTrue (told x) → AreLegal (Stands x) Plain t
    pub later : Later w x

  -- all lines, and all was written
  pub record ScriptDone (w : W) (lines : List (List ℕ)) (x : W) (was now : Option (List ℕ)) (refused : Bool) : Type 0 where
    pub texts : List (List ℕ)
    pub state : State
    pub ran : RanScript w lines texts x state
    pub written : Appends was now (joined texts ++ ends state)
    pub refused_is : refused ≡ list_any says_no texts

  -- the first of these lines, and a front was written
  pub record ScriptCut (w : W) (lines : List (List ℕ)) (x : W) (was now : Option (List ℕ)) : Type 0 where
    pub first : List (List ℕ)
    pub rest : List (List ℕ)
    pub split : lines ≡ first ++ rest
    pub texts : List (List ℕ)
    pub state : State
    pub ran : RanScript w first texts x state
    pub written : AppendsFront was now (joined texts ++ ends_behind rest state)
