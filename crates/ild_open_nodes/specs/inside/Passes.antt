-- What is answered of something that is gone over, of which nothing is kept.
use Rattle.std.specs.Prelude.{◌≡◌, ℕ, ◌+◌, ◌≤◌, List, Some, Result, Ok, Err}
use Rattle.ild_cbor.specs.declared.why.BlockWhy.{BlockWhy}
use Rattle.ild_edges.specs.Gained.{FromBlocks, OnlyReads}
use Rattle.ild_edges.specs.Store.{Moment}
use Rattle.ild_open_parts.specs.Reads.{Stops}
use Rattle.ild_open_parts.specs.declared.fault.OpenFault.{OpenFault}

module _ (Owned : List (List ℕ) → Type 0) (Given : List (List ℕ) → ℕ → Type 0) (Broken : Moment → Moment → List ℕ → BlockWhy → Type 0) where
  -- the blocks that are held don't give it, whatever it may ask for
  abbrev pub NoneGiven : Moment → Type 0
  NoneGiven m = (held : List (List ℕ)) (cost : ℕ) → m.blocks ≡ Some held → Given held cost → ⊥

  abbrev pub PassAnswer : Moment → Result (Unit {0}) OpenFault → Moment → Type 0
  PassAnswer m (Ok u) n = FromBlocks n Owned
  PassAnswer m (Err e) n = Stops (NoneGiven m) (Broken m n) m e n

  -- that it is held follows from blocks that gets gave, or why it isn't; where it is given, so many gets are made at most
  pub record Passes (m : Moment) (r : Result (Unit {0}) OpenFault) (n : Moment) : Type 0 where
    pub answer : PassAnswer m r n
    pub only : OnlyReads m n
    pub gets : (held : List (List ℕ)) (cost : ℕ) → m.blocks ≡ Some held → Given held cost → n.gets ≤ m.gets + cost
