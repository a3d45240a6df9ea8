-- The holders on a path by their number, and what an edit makes of each.
use Rattle.std.specs.Prelude.{◌≡◌, ◌<◌, ℕ, Bool, IsSomeAnd, List, Some, drop, length, slice_get, take}
use Rattle.ild_data.specs.Data.{Data}
use Rattle.ild_data.specs.Tree.{IsTree}
use Rattle.ild_path_block.specs.Edits.{BringsPart, EditMakes}
use Rattle.ild_path_block.specs.declared.edit.PartEdit.{PartEdit}
use Rattle.ild_path_edits.specs.Table.{slot_to_set}
use Rattle.ild_schema.specs.Value.{Value}
use Rattle.ild_schema.specs.declared.number.Slot.{Slot}
use Rattle.ild_schema.specs.declared.row.Row.{Row}
use Rattle.ild_typed.specs.At.{InSlot, at, seen}
use Rattle.ild_typed.specs.Hamt.{alone}
use Rattle.ild_typed.specs.Holder.{value_of}
use Rattle.ild_typed.specs.OfType.{OfType}
use Rattle.ild_typed.specs.Represented.{represented}
use Rattle.ild_typed.specs.Segment.{set_part}
use Rattle.ild_view.specs.Parts.{IsPartView}
use Rattle.ild_view.specs.declared.view.View.{View}

-- the views of the holders on a path, as far as it leads to some
abbrev pub AreHolders : List Row → InSlot → List (List ℕ) → List View → Type 0
AreHolders rows p path vs = (n : ℕ) (q : InSlot) → n < length path → at rows p (take n path) ≡ Some q → IsSomeAnd (slice_get vs n) (IsPartView rows q)

-- so many segments lead to a holder, of which the edit at the others makes a value with the data d
pub record IsMade (rows : List Row) (is_key : ℕ → List ℕ → Bool) (edit : PartEdit) (w : Value) (p : InSlot) (path : List (List ℕ)) (n : ℕ) (d : Data) : Type 0 where
  pub holder : InSlot
  pub before : n < length path
  pub leads : at rows p (take n path) ≡ Some holder
  pub typed : OfType rows holder.0 holder.1
  pub old : Data
  pub was : represented alone rows holder.0 holder.1 ≡ Some old
  pub brings : BringsPart rows holder (drop n path) edit w
  pub value : Value
  pub makes : EditMakes rows is_key edit w holder (drop n path) value
  pub shown : represented alone rows holder.0 value ≡ Some d

-- the part at a segment of a holder becomes the value c of its slot, with the data x, and so the holder what has the data d
pub record PartIs (rows : List Row) (q : InSlot) (s : List ℕ) (slot : Slot) (c : Value) (x d : Data) : Type 0 where
  pub place : slot_to_set (seen rows q) s ≡ Some slot
  pub fits : OfType rows slot c
  pub shown : represented alone rows slot c ≡ Some x
  pub tree : IsTree x
  pub made : represented alone rows q.0 (value_of (set_part (seen rows q) s c)) ≡ Some d
