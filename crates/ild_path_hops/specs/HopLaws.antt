-- The laws of hops.
use Rattle.std.specs.Prelude.{◌≡◌, ℕ, List, [], ◌∷◌, ◌++◌, map}
use Rattle.ild_edges.specs.Store.{Keeps}
use Rattle.ild_schema.specs.declared.row.Row.{Row}
use Rattle.ild_typed.specs.At.{InSlot}
use Rattle.ild_path_entered.specs.Entered.{PassesHamts, path_through}
use Rattle.ild_path_held.specs.HeldEdits.{room_at}
use Rattle.ild_path_hops.specs.Hops.{AreHops, IsHop, step_of}
use Rattle.ild_path_hops.specs.declared.hop.Hop.{Hop}

-- the path through all HAMTs of the hops
abbrev pub path_of_hops : List Hop → List (List ℕ)
path_of_hops hops = path_through (map step_of hops)

-- a hop more, from where they led
abbrev pub HopsGrow : Type 0
HopsGrow =
    (h : List ℕ → List ℕ) (rows : List Row) (was : List (List ℕ)) (room between less : ℕ) (p mid q : InSlot) (hops : List Hop) (hop : Hop)
    → AreHops h rows was room p hops mid between → IsHop h rows was between mid hop q less → AreHops h rows was room p (hops ++ hop ∷ []) q less

-- and the last one by itself
pub record IsLastHop (h : List ℕ → List ℕ) (rows : List Row) (was : List (List ℕ)) (room : ℕ) (p : InSlot) (hops : List Hop) (hop : Hop) (q : InSlot) (less : ℕ) : Type 0 where
  pub mid : InSlot
  pub between : ℕ
  pub before : AreHops h rows was room p hops mid between
  pub last : IsHop h rows was between mid hop q less

abbrev pub HopsEnd : Type 0
HopsEnd =
    (h : List ℕ → List ℕ) (rows : List Row) (was : List (List ℕ)) (room less : ℕ) (p q : InSlot) (hops : List Hop) (hop : Hop)
    → AreHops h rows was room p (hops ++ hop ∷ []) q less → IsLastHop h rows was room p hops hop q less

-- they pass through HAMTs one in the value of another's entry
abbrev pub HopsPass : Type 0
HopsPass = (h : List ℕ → List ℕ) (rows : List Row) (was : List (List ℕ)) (room less : ℕ) (p q : InSlot) (hops : List Hop) → AreHops h rows was room p hops q less → PassesHamts rows p (map step_of hops) q

-- and leave the room that the path leaves
abbrev pub HopsLeave : Type 0
HopsLeave = (h : List ℕ → List ℕ) (rows : List Row) (was : List (List ℕ)) (room less : ℕ) (p q : InSlot) (hops : List Hop)
    → AreHops h rows was room p hops q less → room_at rows room p (path_of_hops hops) ≡ less

-- what was held stays held
abbrev pub HopsStay : Type 0
HopsStay = (h : List ℕ → List ℕ) (rows : List Row) (was now : List (List ℕ)) (room less : ℕ) (p q : InSlot) (hops : List Hop)
    → Keeps was now → AreHops h rows was room p hops q less → AreHops h rows now room p hops q less
