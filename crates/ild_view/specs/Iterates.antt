-- Steps of the iterators over the parts of a view: a view of the first part that is left, and the others left.
use Rattle.std.specs.Borrow.{Bor}
use Rattle.std.specs.Prelude.{◌≡◌, ℕ, List, [], ◌∷◌, Option, Some, None}
use Rattle.ild_cbor.specs.declared.items.Items.{Items}
use Rattle.ild_view_entries.specs.declared.left.EntriesLeft.{EntriesLeft}
use Rattle.ild_schema.specs.declared.number.Slot.{Slot}
use Rattle.ild_schema.specs.declared.row.Row.{Row}
use Rattle.ild_typed.specs.At.{InSlot}
use Rattle.ild_view.specs.Left.{HasElements, HasEntries}
use Rattle.ild_view.specs.Parts.{IsPartView}
use Rattle.ild_view.specs.declared.view.View.{View}
use Rattle.ild_view.specs.declared.elements.ViewItems.{ViewItems}
use Rattle.ild_view.specs.declared.entries.ViewEntries.{ViewEntries}

-- ---- elements

-- the iterator has views of these parts left, under this schema
pub record HasItemsLeft (rows : List Row) (s : ViewItems) (qs : List InSlot) : Type 0 where
  pub table : s.acc.now ≡ rows
  pub left : HasElements rows s.slot s.items qs

abbrev pub ItemFirst : List Row → Slot → List InSlot → Option (View × Items) → Type 0
ItemFirst rows u [] None = Unit {0}
ItemFirst rows u [] (Some r) = ⊥
ItemFirst rows u (q ∷ qs) None = ⊥
ItemFirst rows u (q ∷ qs) (Some r) = IsPartView rows q r.0 × HasElements rows u r.1 qs

abbrev pub ItemsStep : List Row → List InSlot → Option View → ViewItems → Type 0
ItemsStep rows [] None t = HasItemsLeft rows t []
ItemsStep rows [] (Some v) t = ⊥
ItemsStep rows (q ∷ qs) None t = ⊥
ItemsStep rows (q ∷ qs) (Some v) t = IsPartView rows q v × HasItemsLeft rows t qs

abbrev pub ItemsGive : ViewItems → Option View → ViewItems → Type 0
ItemsGive s r t = (rows : List Row) (qs : List InSlot) → HasItemsLeft rows s qs → ItemsStep rows qs r t

-- an iterator over these parts, where the value is a list
abbrev pub FindsItems : List Row → Option (List InSlot) → Option ViewItems → Type 0
FindsItems rows None None = Unit {0}
FindsItems rows (Some qs) (Some s) = HasItemsLeft rows s qs
FindsItems rows None (Some s) = ⊥
FindsItems rows (Some qs) None = ⊥

-- ---- entries

pub record HasEntriesLeft (rows : List Row) (s : ViewEntries) (qs : List (List ℕ × InSlot)) : Type 0 where
  pub table : s.acc.now ≡ rows
  pub left : HasEntries rows s.slot s.rest qs

abbrev pub EntryFirst : List Row → Slot → List (List ℕ × InSlot) → Option (Bor (List ℕ) × View × EntriesLeft) → Type 0
EntryFirst rows u [] None = Unit {0}
EntryFirst rows u [] (Some r) = ⊥
EntryFirst rows u (q ∷ qs) None = ⊥
EntryFirst rows u (q ∷ qs) (Some r) = (r.0.now ≡ q.0) × IsPartView rows q.1 r.1 × HasEntries rows u r.2 qs

abbrev pub EntriesStep : List Row → List (List ℕ × InSlot) → Option (Bor (List ℕ) × View) → ViewEntries → Type 0
EntriesStep rows [] None t = HasEntriesLeft rows t []
EntriesStep rows [] (Some r) t = ⊥
EntriesStep rows (q ∷ qs) None t = ⊥
EntriesStep rows (q ∷ qs) (Some r) t = (r.0.now ≡ q.0) × IsPartView rows q.1 r.1 × HasEntriesLeft rows t qs

abbrev pub EntriesGive : ViewEntries → Option (Bor (List ℕ) × View) → ViewEntries → Type 0
EntriesGive s r t = (rows : List Row) (qs : List (List ℕ × InSlot)) → HasEntriesLeft rows s qs → EntriesStep rows qs r t

abbrev pub FindsEntries : List Row → Option (List (List ℕ × InSlot)) → Option ViewEntries → Type 0
FindsEntries rows None None = Unit {0}
FindsEntries rows (Some qs) (Some s) = HasEntriesLeft rows s qs
FindsEntries rows None (Some s) = ⊥
FindsEntries rows (Some qs) None = ⊥
