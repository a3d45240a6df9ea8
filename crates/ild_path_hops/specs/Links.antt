-- The HAMTs of hops stand one in the block of another's entry, the first in that of the root: what is known of it without a store.
use Rattle.std.specs.Prelude.{◌≡◌, ℕ, List, [], ◌∷◌, ◌++◌}
use Rattle.ild_data.specs.Data.{Data}
use Rattle.ild_path_edits.specs.Stop.{stopped}
use Rattle.ild_path_entry.specs.Entry.{data_in, slot_in, table_in}
use Rattle.ild_path_hops.specs.Hops.{front_of}
use Rattle.ild_path_hops.specs.declared.hop.Hop.{Hop}
use Rattle.ild_schema.specs.Value.{Value, hamt}
use Rattle.ild_schema.specs.declared.number.Slot.{Slot}
use Rattle.ild_schema.specs.declared.row.Row.{Row}
use Rattle.ild_typed.specs.At.{InSlot}
use Rattle.ild_typed.specs.Fits.{Front}
use Rattle.ild_view.specs.View.{IsView, slot_of, table_of}
use Rattle.ild_view.specs.declared.view.View.{View}

-- the path leads to a part of a front
pub record IsPartAt (rows : List Row) (p : InSlot) (path : List (List ℕ)) : Type 0 where
  pub part : InSlot
  pub leads : stopped rows p path ≡ record { part = part; left = [] }

-- and to the root of a HAMT
pub record IsRootAt (rows : List Row) (p : InSlot) (path : List (List ℕ)) : Type 0 where
  pub slot : Slot
  pub tree : Data
  pub leads : stopped rows p path ≡ record { part = (slot, hamt tree); left = [] }

-- what is so of each front of the block behind these hops: that of the last hop's entry, or of the root where there is none
pub record IsBehind (Holds : List Row → InSlot → Type 0) (root : View) (hops : List Hop) : Type 0 where
  pub top : hops ≡ [] → (f : Value) → IsView root f → Holds (table_of root) (slot_of root, f)
  pub inner : (before : List Hop) (last : Hop) → hops ≡ before ++ last ∷ []
      → (f : Value) (room : ℕ) → Front (table_in last.entry) room (slot_in last.entry) f (data_in last.entry) → Holds (table_in last.entry) (slot_in last.entry, f)

abbrev pub PartBehind : View → List Hop → List (List ℕ) → Type 0
PartBehind root hops path = IsBehind (λ rows p. IsPartAt rows p path) root hops

abbrev pub RootBehind : View → List Hop → List (List ℕ) → Type 0
RootBehind root hops path = IsBehind (λ rows p. IsRootAt rows p path) root hops

-- each leads behind those before it to a HAMT
pub record AreLinked (root : View) (hops : List Hop) : Type 0 where
  pub each : (before after : List Hop) (hop : Hop) → hops ≡ before ++ hop ∷ after → RootBehind root before (front_of hop)
