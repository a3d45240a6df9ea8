-- The way of a path inward, through the HAMTs on it, of a value that is held.
use Rattle.std.specs.Prelude.{◌≡◌, ℕ, ◌+◌, ◌-◌, ◌≤◌, true, List, [], ◌∷◌, ◌++◌, length, slice_get, Some, None, Result, Ok, Err}
use Rattle.ild_data.specs.Data.{Data}
use Rattle.ild_data.specs.Limits.{deepest}
use Rattle.ild_edges.specs.Count.{Rose}
use Rattle.ild_edges.specs.Store.{Moment, block_at}
use Rattle.ild_node_slots.specs.declared.fault.HamtFault.{HamtFault}
use Rattle.ild_node_slots.specs.declared.fault.HamtFault.TheVariants as F
use Rattle.ild_open_held.specs.Held.{IsHeld}
use Rattle.ild_path_edits.specs.Stop.{stopped}
use Rattle.ild_path_entry.specs.Entry.{IsEntry}
use Rattle.ild_path_held.specs.HeldEdits.{room_at}
use Rattle.ild_path_hops.specs.Hops.{AreHops, front_of, key_of}
use Rattle.ild_path_hops.specs.Links.{AreLinked, PartBehind}
use Rattle.ild_path_hops.specs.declared.hop.Hop.{Hop}
use Rattle.ild_path_inward.specs.Levels.{met_on}
use Rattle.ild_path_inward.specs.declared.inward.Inward.{Inward}
use Rattle.ild_schema.specs.declared.row.Row.{Row}
use Rattle.ild_typed.specs.At.{InSlot, at}
use Rattle.ild_typed.specs.Schema.{IsSchema}
use Rattle.ild_typed_fronts.specs.Front.{front_in, in_one_block}
use Rattle.ild_view.specs.Parts.{IsPartView}
use Rattle.ild_view.specs.declared.view.View.{View}

-- the value of the innermost block, which is the last hop's entry, or with no hop the root's
pub record CanGoOn (h : List ℕ → List ℕ) (rows : List Row) (was : List (List ℕ)) (room : ℕ) (q : InSlot) (t : Data) (root : View) (hops : List Hop) : Type 0 where
  pub schema : IsSchema rows
  pub low : room ≤ deepest
  pub held : IsHeld (block_at was) h rows room q.0 t q.1
  pub top : None ≡ slice_get hops (length hops - 1) → IsPartView rows (front_in h rows q) root
  pub inner : (hop : Hop) → Some hop ≡ slice_get hops (length hops - 1) → IsEntry rows q.0 room t hop.entry

-- the segments to the value in the last hop's entry
abbrev pub through : List Hop → List (List ℕ)
through [] = []
through (hop ∷ hops) = front_of hop ++ (key_of hop ∷ through hops)

-- The hops pass from p to a value in whose block the path stops at a part; from q, the value behind the hops that there were, it leads there too.
pub record IsInward (h : List ℕ → List ℕ) (rows : List Row) (was : List (List ℕ)) (limit : ℕ) (p : InSlot) (old : List Hop) (q : InSlot) (path : List (List ℕ)) (r : Inward) : Type 0 where
  pub inner : InSlot
  pub less : ℕ
  pub hops_are : AreHops h rows was limit p r.hops.items inner less
  pub holder : InSlot
  pub inside : in_one_block rows inner r.front ≡ true
  pub there : at rows inner r.front ≡ Some holder
  pub split : through old ++ path ≡ through r.hops.items ++ (r.front ++ r.left.now)
  pub stops : stopped rows q path ≡ record { part = holder; left = r.left.now }
  pub room_is : r.room ≡ room_at rows less inner r.front

-- the HAMTs stand one in the block of another's entry, and the front leads behind them to a part
pub record IsLinkedInward (root : View) (r : Inward) : Type 0 where
  pub hops : AreLinked root r.hops.items
  pub front : PartBehind root r.hops.items r.front

abbrev pub GoesInward : (List ℕ → List ℕ) → List Row → List (List ℕ) → ℕ → InSlot → List Hop → InSlot → List (List ℕ) → Moment → Result Inward HamtFault → Moment → Type 0
GoesInward h rows was limit p old q path m (Ok r) n = IsInward h rows was limit p old q path r × (n.gets ≤ m.gets + met_on h rows q path)
GoesInward h rows was limit p old q path m (Err F.Store) n = Rose m.faults n.faults × (n.gets ≤ m.gets + met_on h rows q path)
GoesInward h rows was limit p old q path m (Err F.Memory) n = n.gets ≤ m.gets + met_on h rows q path
GoesInward h rows was limit p old q path m (Err e) n = ⊥
