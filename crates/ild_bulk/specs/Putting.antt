-- What puts of many blocks leave.
use Rattle.std.specs.Prelude.{◌≡◌, ◌⊎◌, ◌↔◌, Contains, ℕ, ◌+◌, ◌≤◌, List, [], ◌∷◌, length, map, take, Result, Ok, Err, Some}
use Rattle.ild_data.specs.Spell.{id_of}
use Rattle.ild_edges.specs.Among.{IsIn}
use Rattle.ild_edges.specs.Count.{Rose}
use Rattle.ild_edges.specs.Gained.{AreHeld, CameFrom, Clashes}
use Rattle.ild_edges.specs.Store.{Moment, Later, Gives, block_at}
use Rattle.ild_edges.specs.Told.{BothTold}
use Rattle.ild_node_slots.specs.declared.fault.HamtFault.{HamtFault}
use Rattle.ild_node_slots.specs.declared.fault.HamtFault.TheVariants.{Store, Clash, Memory}

-- these ids are given, beside those that were
abbrev pub GivesAll : List (List ℕ) → List (List ℕ) → List (List ℕ) → Type 0
GivesAll ids was now = (j : List ℕ) → Contains now j ↔ (Contains was j ⊎ IsIn j ids)

abbrev pub PutAnswer : Moment → List ℕ → Result (Unit {0}) HamtFault → Moment → Type 0
PutAnswer m b (Ok u) n = BothTold m.blocks n.blocks (λ was now. block_at now (id_of b) ≡ Some b) × BothTold m.given n.given (Gives (id_of b))
PutAnswer m b (Err Store) n = Rose m.faults n.faults
PutAnswer m b (Err (Clash id kept new)) n = (new ≡ b) × Clashes n id.0 kept new
PutAnswer m b (Err Memory) n = Unit {0}
PutAnswer m b (Err e) n = ⊥

-- one block was put, or why not
pub record PutsOne (m : Moment) (b : List ℕ) (result : Result (Unit {0}) HamtFault) (n : Moment) : Type 0 where
  pub answer : PutAnswer m b result n
  pub later : Later m n
  pub gets : n.gets ≡ m.gets
  pub puts : n.puts ≤ m.puts + 1
  pub adds : BothTold m.blocks n.blocks (CameFrom (b ∷ []))

abbrev pub PutsAnswer : Moment → List (List ℕ) → Result (Unit {0}) HamtFault → Moment → Type 0
PutsAnswer m bs (Ok u) n = BothTold m.blocks n.blocks (λ was now. AreHeld bs now) × BothTold m.given n.given (GivesAll (map id_of bs))
PutsAnswer m bs (Err Store) n = Rose m.faults n.faults
PutsAnswer m bs (Err (Clash id kept new)) n = IsIn new bs × Clashes n id.0 kept new
PutsAnswer m bs (Err Memory) n = Unit {0}
PutsAnswer m bs (Err e) n = ⊥

-- the blocks of a front are held, and no block was added but one of it and the one behind it
pub record StopsAfter (bs : List (List ℕ)) (k : ℕ) (was now : List (List ℕ)) : Type 0 where
  pub held : AreHeld (take k bs) now
  pub adds : CameFrom (take (k + 1) bs) was now

-- blocks were put one after another, or why not all
pub record PutsAll (m : Moment) (bs : List (List ℕ)) (result : Result (Unit {0}) HamtFault) (n : Moment) : Type 0 where
  pub answer : PutsAnswer m bs result n
  pub later : Later m n
  pub gets : n.gets ≡ m.gets
  pub puts : n.puts ≤ m.puts + length bs
  pub stops : (k : ℕ) × BothTold m.blocks n.blocks (StopsAfter bs k)
