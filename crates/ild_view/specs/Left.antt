-- What iterators over the parts of a view have left.
use Rattle.std.specs.Prelude.{ℕ, List}
use Rattle.ild_data.specs.Data.{Data, Items, items_list}
use Rattle.ild_cbor.specs.Steps.{HasItems}
use Rattle.ild_cbor.specs.declared.items.Items.{Items as ItemsLeft}
use Rattle.ild_view_entries.specs.Left.{AreLeft}
use Rattle.ild_view_entries.specs.declared.left.EntriesLeft.{EntriesLeft}
use Rattle.ild_schema.specs.declared.number.Slot.{Slot}
use Rattle.ild_schema.specs.declared.row.Row.{Row}
use Rattle.ild_typed.specs.At.{InSlot}
use Rattle.ild_view.specs.Beside.{AreBeside, AreKeyed}

-- these elements of a slot
pub record HasElements (rows : List Row) (u : Slot) (s : ItemsLeft) (qs : List InSlot) : Type 0 where
  pub items : Items
  pub left : HasItems s items
  pub beside : AreBeside rows u qs (items_list items)

pub record SomeElements (rows : List Row) (u : Slot) (s : ItemsLeft) : Type 0 where
  pub of : List InSlot
  pub has : HasElements rows u s of

-- these entries, whose values are of a slot
pub record HasEntries (rows : List Row) (u : Slot) (r : EntriesLeft) (qs : List (List ℕ × InSlot)) : Type 0 where
  pub entries : List (List ℕ × Data)
  pub left : AreLeft r entries
  pub beside : AreKeyed rows u qs entries

pub record SomeEntries (rows : List Row) (u : Slot) (r : EntriesLeft) : Type 0 where
  pub of : List (List ℕ × InSlot)
  pub has : HasEntries rows u r of
