-- The laws of the parts of values that a store holds.
use Rattle.std.specs.Prelude.{◌≡◌, ◌≤◌, ℕ, List, Option, Some}
use Rattle.ild_data.specs.Data.{Data}
use Rattle.ild_data.specs.Limits.{deepest}
use Rattle.ild_schema.specs.Clear.{IsSafe}
use Rattle.ild_schema.specs.declared.number.Slot.{Slot}
use Rattle.ild_schema.specs.declared.row.Row.{Row}
use Rattle.ild_schema.specs.Value.{Value}
use Rattle.ild_typed.specs.At.{InSlot, seen, reached}
use Rattle.ild_typed.specs.Schema.{IsSchema}
use Rattle.ild_typed.specs.Segment.{part}
use Rattle.ild_open_held.specs.Held.{IsHeld}
use Rattle.ild_typed_fronts.specs.Front.{front_in}
use Rattle.ild_open_held_parts.specs.Leads.{Leads}

-- a part of a value that is held is held, in the data that represent it
abbrev pub PartsAreHeld : Type 0
PartsAreHeld =
    (block : List ℕ → Option (List ℕ)) (h : List ℕ → List ℕ) (rows : List Row) → IsSchema rows → (room : ℕ) (p q : InSlot) (t : Data) (s : List ℕ)
    → IsHeld block h rows room p.0 t p.1 → part (seen rows p) s ≡ Some q → (d : Data) × IsHeld block h rows room q.0 d q.1

-- so a path leads in the front where it leads in the value, as far as the first HAMT
abbrev pub PathsLead : Type 0
PathsLead =
    (block : List ℕ → Option (List ℕ)) (h : List ℕ → List ℕ) (rows : List Row) → IsSchema rows → (room k : ℕ) (p : InSlot) (t : Data) (path : List (List ℕ))
    → IsHeld block h rows room p.0 t p.1 → Leads block h rows room k p path (reached rows k (front_in h rows p) path)

-- data represent one value at most
abbrev pub OneIsHeld : Type 0
OneIsHeld =
    (block : List ℕ → Option (List ℕ)) (h : List ℕ → List ℕ) (rows : List Row) → IsSchema rows → (room : ℕ) → room ≤ deepest → (s : Slot) (t : Data) (v w : Value) → IsSafe rows s
    → IsHeld block h rows room s t v → IsHeld block h rows room s t w → v ≡ w
