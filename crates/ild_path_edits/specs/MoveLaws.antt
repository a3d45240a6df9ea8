-- What moves in a list where an element comes or goes, and that the last holder of a path is then the changed one.
use Rattle.std.specs.Prelude.{◌≡◌, ℕ, suc, ◌<◌, ◌≤◌, List, length, Bool, Option, Some, None}
use Rattle.ild_schema.specs.declared.number.Slot.{Slot}
use Rattle.ild_schema.specs.declared.row.Row.{Row}
use Rattle.ild_schema.specs.Value.{Value}
use Rattle.ild_typed.specs.At.{InSlot, last_holder, changed_in}
use Rattle.ild_typed.specs.Holder.{Holder, fields, member, entries, elements, any_entries, any_elements, nothing}
use Rattle.ild_typed.specs.OfType.{OfType, TestsKeys}
use Rattle.ild_typed.specs.Schema.{IsSchema}
use Rattle.ild_typed.specs.Segment.{index_of, part, set_part}
use Rattle.ild_path_edits.specs.Table.{new_index, slot_to_set, slot_to_insert, MayStand, insert_part, refusal_to_delete, delete_part}

-- how many parts a holder has, where they are found by their numbers
abbrev pub count_of : Holder → Option ℕ
count_of (fields fs os) = None
count_of (member ms n v) = None
count_of (entries key slot paired ps) = None
count_of (elements slot vs) = Some (length vs)
count_of (any_entries ms) = None
count_of (any_elements ds) = Some (length ds)
count_of (nothing v) = None

-- One holder has a part more than another, at a number: those before it are the same, and those from there on stand one further.
pub record HasOneMore (less more : Holder) (i : ℕ) : Type 0 where
  pub before : (t : List ℕ) (j : ℕ) → index_of t ≡ Some j → j < i → part more t ≡ part less t
  pub behind : (t u : List ℕ) (j : ℕ) → index_of t ≡ Some j → index_of u ≡ Some (suc j) → i ≤ j → part more u ≡ part less t

-- an element that comes or goes moves those behind it
abbrev pub InsertMoves : Type 0
InsertMoves = (h : Holder) (n : ℕ) (s : List ℕ) (i : ℕ) (w : Value) → count_of h ≡ Some n → new_index n s ≡ Some i → HasOneMore h (insert_part h s w) i

abbrev pub DeleteMoves : Type 0
DeleteMoves = (h : Holder) (n : ℕ) (s : List ℕ) (i : ℕ) → count_of h ≡ Some n → index_of s ≡ Some i → i < n → HasOneMore (delete_part h s) h i

-- what was inserted at a number is there
abbrev pub InsertedStands : Type 0
InsertedStands = (rows : List Row) (is_key : ℕ → List ℕ → Bool) → IsSchema rows → TestsKeys rows is_key → (h : Holder) (n : ℕ) (s t : List ℕ) (i : ℕ) (slot : Slot) (w : Value)
    → count_of h ≡ Some n → new_index n s ≡ Some i → index_of t ≡ Some i → slot_to_insert h s ≡ Some slot → OfType rows slot w → part (insert_part h s w) t ≡ Some (slot, w)

-- the last holder of a path in the changed value
pub record IsChangedHolder (rows : List Row) (is_key : ℕ → List ℕ → Bool) (p : InSlot) (s : List ℕ) (ss : List (List ℕ)) (l : Holder × List ℕ) : Type 0 where
  pub set : (slot : Slot) (w : Value) → slot_to_set l.0 l.1 ≡ Some slot → MayStand is_key l.0 l.1 → OfType rows slot w
      → last_holder rows (p.0, changed_in rows (λ h t. set_part h t w) p s ss) s ss ≡ Some (set_part l.0 l.1 w, l.1)
  pub inserted : (slot : Slot) (w : Value) → slot_to_insert l.0 l.1 ≡ Some slot → MayStand is_key l.0 l.1 → OfType rows slot w
      → last_holder rows (p.0, changed_in rows (λ h t. insert_part h t w) p s ss) s ss ≡ Some (insert_part l.0 l.1 w, l.1)
  pub deleted : refusal_to_delete l.0 l.1 ≡ None → last_holder rows (p.0, changed_in rows delete_part p s ss) s ss ≡ Some (delete_part l.0 l.1, l.1)

abbrev pub LastIsChanged : Type 0
LastIsChanged = (rows : List Row) (is_key : ℕ → List ℕ → Bool) → IsSchema rows → TestsKeys rows is_key → (p : InSlot) (s : List ℕ) (ss : List (List ℕ)) (l : Holder × List ℕ)
    → OfType rows p.0 p.1 → last_holder rows p s ss ≡ Some l → IsChangedHolder rows is_key p s ss l
