-- What an event leaves in the tables.
use Rattle.std.specs.Prelude.{ℕ, List, Bool}
use Rattle.ild_heads.specs.declared.events.Event.{Event}
use Rattle.ild_heads.specs.declared.events.Outcome.{Outcome}
use Rattle.ild_heads.specs.declared.tables.Tables.{Tables}
use Rattle.ild_heads.specs.Run.{IsTurn}
use Rattle.ild_heads.specs.State.{state_of}

-- an event was answered so, and left the tables so
abbrev pub TableTurn : {W V : Type 0} → Bool → (List ℕ → V → Type 0) → (V → List ℕ → List ℕ → V → Type 0) → (W → List ℕ → List ℕ → List ℕ → List ℕ → W → Type 0) → W → W
    → Tables → Event → Outcome → Tables → Type 0
TableTurn told Stands Plain Ran w x from event outcome to = IsTurn told Stands Plain Ran w x (state_of from) event outcome (state_of to)
