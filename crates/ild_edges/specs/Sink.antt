-- What a write leaves.
use Rattle.std.specs.Prelude.{◌≡◌, ℕ, ◌≤◌, List, ◌++◌, Option, Result, Ok, Err}
use Rattle.ild_edges.specs.Count.{Rose}
use Rattle.ild_edges.specs.Told.{BothTold}
use Rattle.ild_edges.specs.declared.error.EdgeErr.{EdgeErr}
use Rattle.ild_edges.specs.declared.error.EdgeErr.TheVariants.{Failed, Memory}

-- A sink at a moment: the bytes so far, where they are told, and how often a call failed.
pub record Output : Type 0 where
  pub written : Option (List ℕ)
  pub faults : ℕ

-- the text was appended
abbrev pub Appends : Option (List ℕ) → Option (List ℕ) → List ℕ → Type 0
Appends was now text = BothTold was now (λ a b. b ≡ a ++ text)

-- some front of the text stands behind the old bytes
pub record FrontIsWritten (text old new : List ℕ) : Type 0 where
  pub front : List ℕ
  pub rest : List ℕ
  pub whole : text ≡ front ++ rest
  pub is : new ≡ old ++ front

-- some front of the text was appended
abbrev pub AppendsFront : Option (List ℕ) → Option (List ℕ) → List ℕ → Type 0
AppendsFront was now text = BothTold was now (FrontIsWritten text)

abbrev pub WritesAnswer : Output → List ℕ → Result (Unit {0}) EdgeErr → Output → Type 0
WritesAnswer m piece (Ok _) n = Appends m.written n.written piece
WritesAnswer m piece (Err Failed) n = Rose m.faults n.faults × AppendsFront m.written n.written piece
WritesAnswer m piece (Err Memory) n = AppendsFront m.written n.written piece

-- a write: its answer, and that no count falls
pub record Writes (m : Output) (piece : List ℕ) (result : Result (Unit {0}) EdgeErr) (n : Output) : Type 0 where
  pub answer : WritesAnswer m piece result n
  pub faults : m.faults ≤ n.faults
