-- What is held in a room is held in every greater room.
use Rattle.std.proofs.Common.{ℕ, ◌≤◌, List, [], ◌∷◌, Option}
use Rattle.std.specs.List.{AllByRecursion}
use Rattle.ild_data.specs.Data.{Data}
use Rattle.ild_data.specs.Trie.{TrieSlot}
use Rattle.ild_data.specs.declared.hamt_shape.HamtShape.{HamtShape}
use Rattle.ild_edges.specs.Store.{block_at}
use Rattle.ild_schema.specs.declared.number.Slot.{Slot}
use Rattle.ild_schema.specs.declared.number.TypeNo.{TypeNo}
use Rattle.ild_schema.specs.declared.row.Row.{Row}
use Rattle.ild_schema.specs.Slots.{plainly}
use Rattle.ild_schema.specs.Value.{Value}
use Rattle.ild_typed.proofs.Rooms.{fits_more}
use Rattle.ild_open_held.specs.Held.{IsHeld}
use Rattle.ild_open_held.specs.Entries.{KeyFits}
use Rattle.ild_open_nodes.specs.Nodes.{EntryOwned, SlotOwned}
use Rattle.ild_open_read.specs.inside.Sound.{HasHeld}

-- a value fits there, and neither its data nor its nodes ask for the room
held_more : (block : List ℕ → Option (List ℕ)) (h : List ℕ → List ℕ) (rows : List Row) (room wider : ℕ) → room ≤ wider → (s : Slot) (t : Data) (v : Value)
    → IsHeld block h rows room s t v → IsHeld block h rows wider s t v
held_more block h rows room wider le s t v x = record { fits = fits_more rows room wider le s v x.fits; tree = x.tree; held = x.held }

pub has_more : (h : List ℕ → List ℕ) (rows : List Row) (room wider : ℕ) → room ≤ wider → (s : Slot) (t : Data) (held : List (List ℕ)) → HasHeld held h rows room s t → HasHeld held h rows wider s t
has_more h rows room wider le s t held x = record { value = x.value; is = held_more (block_at held) h rows room wider le s t x.value x.is }

-- the same of a key, and of all entries in a slot and beneath it
key_more : (rows : List Row) (room wider : ℕ) → room ≤ wider → (key : TypeNo) (e : List ℕ × Data) → KeyFits rows room key e → KeyFits rows wider key e
key_more rows room wider le key e x = (x.0, (x.1.0, fits_more rows room wider le (plainly key) x.1.0 x.1.1, x.1.2))

module _ (h : List ℕ → List ℕ) (p : HamtShape) (rows : List Row) (room wider : ℕ) (le : room ≤ wider) (key : TypeNo) (u : Slot) (held : List (List ℕ)) (way : List ℕ) (i : ℕ) where
  entries_more : (es : List (List ℕ × Data)) → AllByRecursion (EntryOwned h p rows room key u held way i) es → AllByRecursion (EntryOwned h p rows wider key u held way i) es
  entries_more [] all = tt
  entries_more (e ∷ es) all = (
    record { place = all.0.place; keyed = key_more rows room wider le key e all.0.keyed; value = all.0.value; is = held_more (block_at held) h rows room wider le u e.1 all.0.value all.0.is },
    entries_more es all.1,
  )

  pub slot_more : (s : TrieSlot) → SlotOwned h p rows room key u held way i s → SlotOwned h p rows wider key u held way i s
  slot_more s o = record { entries = o.entries; gives = o.gives; each = entries_more o.entries o.each }
