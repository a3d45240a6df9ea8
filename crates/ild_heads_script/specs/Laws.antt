-- Laws of scripts over named heads.
use Rattle.std.specs.Prelude.{ℕ, List, Bool, Option}
use Rattle.ild_data.specs.declared.id.BlockId.{BlockId}
use Rattle.ild_script.specs.declared.reply.No.{No}
use Rattle.ild_heads.specs.State.{State}
use Rattle.ild_heads_script.specs.Script.{Answers, Spells}

-- lines that were answered one after another, by rules that stay, spell a list of events; work answered to their lines as that at the end may
abbrev pub LinesSpell : {W V : Type 0} → (W → Bool) → (W → List ℕ → V → Type 0) → (V → List ℕ → List ℕ → V → Type 0) → (W → List ℕ → List ℕ → List ℕ → List ℕ → W → Type 0) → (W → W → Type 0) → (W → List ℕ → Type 0)
    → (W → Option BlockId → No → W → Type 0) → Type 0
LinesSpell {W} told Stands Plain Ran Later Empty Cause = (w : W) (s : State) (lines texts : List (List ℕ)) (x : W) (t : State)
    → Answers told Stands Plain Ran Later Empty Cause w s lines texts x t → Spells (told x) (Stands x) Plain s lines texts t
