-- The parts of a front that views hand out: what a segment leads to, by what the holder is.
use Rattle.std.specs.Borrow.{Bor}
use Rattle.std.specs.Prelude.{◌≡◌, ℕ, List, Option, Some, None, option_map, slice_get}
use Rattle.ild_schema.specs.Prelude.{anything}
use Rattle.ild_schema.specs.Slots.{plainly}
use Rattle.ild_schema.specs.declared.row.Row.{Row}
use Rattle.ild_typed.specs.At.{InSlot}
use Rattle.ild_typed.specs.Holder.{Holder, any_elements, any_entries, elements, entries, fields, member, of_any}
use Rattle.ild_typed.specs.Segment.{part}
use Rattle.ild_view.specs.View.{IsView, slot_of, table_of}
use Rattle.ild_view.specs.declared.view.View.{View}

-- the field with a name, where it is present
abbrev pub field_named : Holder → List ℕ → Option InSlot
field_named (fields fs os) name = part (fields fs os) name
field_named h name = None

-- the entry at a key
abbrev pub entry_at : Holder → List ℕ → Option InSlot
entry_at (entries key slot paired ps) k = part (entries key slot paired ps) k
entry_at (any_entries ms) k = part (any_entries ms) k
entry_at h k = None

-- the element at a place, which is what its decimal leads to
abbrev pub element_at : Holder → ℕ → Option InSlot
element_at (elements slot vs) i = option_map (λ v. (slot, v)) (slice_get vs i)
element_at (any_elements ds) i = option_map (λ d. (anything, of_any d)) (slice_get ds i)
element_at h i = None

-- the member that is held, with its name
abbrev pub member_held : Holder → Option (List ℕ × InSlot)
member_held (member ms n v) = option_map (λ m. (m.name, (plainly m.ty, v))) (slice_get ms n)
member_held h = None

-- a view of a part
pub record IsPartView (rows : List Row) (q : InSlot) (w : View) : Type 0 where
  pub table : table_of w ≡ rows
  pub slot : slot_of w ≡ q.0
  pub view : IsView w q.1

-- a view, exactly where there is a part, and of it
abbrev pub HandsOut : List Row → Option InSlot → Option View → Type 0
HandsOut rows None None = Unit {0}
HandsOut rows (Some q) (Some w) = IsPartView rows q w
HandsOut rows None (Some w) = ⊥
HandsOut rows (Some q) None = ⊥

-- and its name
abbrev pub HandsOutMember : List Row → Option (List ℕ × InSlot) → Option (Bor (List ℕ) × View) → Type 0
HandsOutMember rows None None = Unit {0}
HandsOutMember rows (Some q) (Some w) = (w.0.now ≡ q.0) × IsPartView rows q.1 w.1
HandsOutMember rows None (Some w) = ⊥
HandsOutMember rows (Some q) None = ⊥
