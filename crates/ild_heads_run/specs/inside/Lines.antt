-- Lines over named heads, answered one after another, and what is written of them.
use Rattle.std.specs.Prelude.{◌≡◌, ℕ, List, ◌++◌, Bool, Option}
use Rattle.std.specs.List.{list_any}
use Rattle.ild_data.specs.declared.id.BlockId.{BlockId}
use Rattle.ild_edges.specs.Sink.{Appends, AppendsFront}
use Rattle.ild_heads.specs.State.{State}
use Rattle.ild_script.specs.declared.reply.No.{No}
use Rattle.ild_heads_script.specs.Script.{Answers, AnswersOne}
use Rattle.ild_heads_run.specs.Runs.{joined}
use Rattle.ild_heads_run.specs.Says.{says_no}

module _ {W V : Type 0} (told : W → Bool) (Stands : W → List ℕ → V → Type 0) (Plain : V → List ℕ → List ℕ → V → Type 0)
    (Ran : W → List ℕ → List ℕ → List ℕ → List ℕ → W → Type 0) (Later : W → W → Type 0) (Empty : W → List ℕ → Type 0) (Cause : W → Option BlockId → No → W → Type 0) where
  -- a line was answered, and its text written
  pub record LineDone (w : W) (s : State) (line : List ℕ) (x : W) (t : State) (was now : Option (List ℕ)) (refused : Bool) : Type 0 where
    pub text : List ℕ
    pub answers : AnswersOne told Stands Plain Ran Later Empty Cause w s line text x t
    pub written : Appends was now text
    pub refused_is : refused ≡ says_no text

  -- a line was answered, and a front of its text written
  pub record LineCut (w : W) (s : State) (line : List ℕ) (x : W) (t : State) (was now : Option (List ℕ)) : Type 0 where
    pub text : List ℕ
    pub answers : AnswersOne told Stands Plain Ran Later Empty Cause w s line text x t
    pub written : AppendsFront was now text

  -- these lines were answered, and their texts written
  pub record LinesDone (w : W) (s : State) (lines : List (List ℕ)) (x : W) (t : State) (was now : Option (List ℕ)) (refused : Bool) : Type 0 where
    pub texts : List (List ℕ)
    pub answers : Answers told Stands Plain Ran Later Empty Cause w s lines texts x t
    pub written : Appends was now (joined texts)
    pub refused_is : refused ≡ list_any says_no texts

  -- the first of these lines were answered, and a front of their texts written
  pub record LinesCut (w : W) (s : State) (lines : List (List ℕ)) (x : W) (t : State) (was now : Option (List ℕ)) : Type 0 where
    pub first : List (List ℕ)
    pub rest : List (List ℕ)
    pub split : lines ≡ first ++ rest
    pub texts : List (List ℕ)
    pub answers : Answers told Stands Plain Ran Later Empty Cause w s first texts x t
    pub written : AppendsFront was now (joined texts)
