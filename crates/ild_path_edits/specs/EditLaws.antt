-- The laws of edits, for the values of a slot under the table of an accepted schema.
use Rattle.std.specs.Prelude.{◌≡◌, ℕ, List, ◌∷◌, Bool, Option, Some, None, Ok}
use Rattle.ild_data.specs.Data.{Data}
use Rattle.ild_data.specs.Tree.{IsTree}
use Rattle.ild_schema.specs.declared.number.Slot.{Slot}
use Rattle.ild_schema.specs.declared.row.Row.{Row}
use Rattle.ild_schema.specs.Value.{Value}
use Rattle.ild_typed.specs.Holder.{Holder, fields, member, entries, elements, any_entries, any_elements, nothing}
use Rattle.ild_typed.specs.Segment.{set_part}
use Rattle.ild_typed.specs.At.{InSlot, at, last_holder, changed_in, Apart}
use Rattle.ild_typed.specs.OfType.{OfType, TestsKeys}
use Rattle.ild_typed.specs.Schema.{IsSchema}
use Rattle.ild_typed.specs.Typed.{Typed}
use Rattle.ild_path_edits.specs.Table.{slot_to_set, slot_to_insert, MayStand, insert_part, refusal_to_delete, delete_part}
use Rattle.ild_path_edits.specs.Edit.{Edit, set_at, ins_at, del_at, HasTextPath, new_slot, change, line_change}

-- the part that an edit brings is of the slot to which it goes
abbrev pub Brings : List Row → (Slot → Value → Type 0) → InSlot → Edit Value → Type 0
Brings rows fits p (set_at path w) = (slot : Slot) → new_slot rows p (set_at path w) ≡ Some slot → fits slot w
Brings rows fits p (ins_at path w) = (slot : Slot) → new_slot rows p (ins_at path w) ≡ Some slot → fits slot w
Brings rows fits p (del_at path) = Unit {0}

-- an edit that brings a part of its slot makes values of the slot of such values
abbrev pub EditsKeepTypes : Type 0
EditsKeepTypes = (rows : List Row) (is_key : ℕ → List ℕ → Bool) → IsSchema rows → TestsKeys rows is_key → (p : InSlot) (e : Edit Value) (c : Value)
    → HasTextPath e → Brings rows (OfType rows) p e → OfType rows p.0 p.1 → change rows is_key p e ≡ Ok c → OfType rows p.0 c

-- and typed values of typed ones
abbrev pub EditsKeepTyped : Type 0
EditsKeepTyped = (rows : List Row) (is_key : ℕ → List ℕ → Bool) → IsSchema rows → TestsKeys rows is_key → (p : InSlot) (e : Edit Value) (c : Value)
    → HasTextPath e → Brings rows (Typed rows) p e → Typed rows p.0 p.1 → change rows is_key p e ≡ Ok c → Typed rows p.0 c

-- the JSON text of a line's edit is read as a tree
abbrev pub ReadsTree : (List ℕ → Option Data) → Edit (List ℕ) → Type 0
ReadsTree read (set_at path json) = (d : Data) → read json ≡ Some d → IsTree d
ReadsTree read (ins_at path json) = (d : Data) → read json ≡ Some d → IsTree d
ReadsTree read (del_at path) = Unit {0}

-- so a line's edit makes typed values of typed ones
abbrev pub LinesKeepTyped : Type 0
LinesKeepTyped = (rows : List Row) (is_key : ℕ → List ℕ → Bool) → IsSchema rows → TestsKeys rows is_key → (read : List ℕ → Option Data) (p : InSlot) (e : Edit (List ℕ)) (c : Value)
    → HasTextPath e → ReadsTree read e → Typed rows p.0 p.1 → line_change rows is_key read p e ≡ Ok c → Typed rows p.0 c

-- what was set is there
abbrev pub SetStands : Type 0
SetStands = (rows : List Row) (is_key : ℕ → List ℕ → Bool) → IsSchema rows → TestsKeys rows is_key → (p : InSlot) (s : List ℕ) (ss : List (List ℕ)) (l : Holder × List ℕ) (slot : Slot) (w : Value)
    → OfType rows p.0 p.1 → last_holder rows p s ss ≡ Some l → slot_to_set l.0 l.1 ≡ Some slot → MayStand is_key l.0 l.1 → OfType rows slot w
    → at rows (p.0, changed_in rows (λ h t. set_part h t w) p s ss) (s ∷ ss) ≡ Some (slot, w)

-- a part that is replaced changes nothing elsewhere
abbrev pub ElsewhereStays : Type 0
ElsewhereStays = (rows : List Row) (is_key : ℕ → List ℕ → Bool) → IsSchema rows → TestsKeys rows is_key → (p q : InSlot) (s : List ℕ) (ss other : List (List ℕ)) (w : Value)
    → OfType rows p.0 p.1 → at rows p (s ∷ ss) ≡ Some q → OfType rows q.0 w → Apart (s ∷ ss) other
    → at rows (p.0, changed_in rows (λ h t. set_part h t w) p s ss) other ≡ at rows p other

-- parts that are found by names or keys: nothing moves where one comes or goes
abbrev pub IsKeyed : Holder → Type 0
IsKeyed (fields fs os) = Unit {0}
IsKeyed (member ms n v) = ⊥
IsKeyed (entries key slot paired ps) = Unit {0}
IsKeyed (elements slot vs) = ⊥
IsKeyed (any_entries ms) = Unit {0}
IsKeyed (any_elements ds) = ⊥
IsKeyed (nothing v) = Unit {0}

-- what an edit of the last holder of a path makes, at a path that neither begins nor continues its own
pub record LeavesOthers (rows : List Row) (is_key : ℕ → List ℕ → Bool) (p : InSlot) (s : List ℕ) (ss : List (List ℕ)) (l : Holder × List ℕ) (other : List (List ℕ)) : Type 0 where
  pub set : (slot : Slot) (w : Value) → slot_to_set l.0 l.1 ≡ Some slot → MayStand is_key l.0 l.1 → OfType rows slot w
      → at rows (p.0, changed_in rows (λ h t. set_part h t w) p s ss) other ≡ at rows p other
  pub inserted : (slot : Slot) (w : Value) → slot_to_insert l.0 l.1 ≡ Some slot → MayStand is_key l.0 l.1 → OfType rows slot w
      → at rows (p.0, changed_in rows (λ h t. insert_part h t w) p s ss) other ≡ at rows p other
  pub deleted : refusal_to_delete l.0 l.1 ≡ None → at rows (p.0, changed_in rows delete_part p s ss) other ≡ at rows p other

-- a part that is set, there before or not, inserted or deleted by its name or key changes nothing elsewhere
abbrev pub OthersStay : Type 0
OthersStay = (rows : List Row) (is_key : ℕ → List ℕ → Bool) → IsSchema rows → TestsKeys rows is_key → (p : InSlot) (s : List ℕ) (ss other : List (List ℕ)) (l : Holder × List ℕ)
    → OfType rows p.0 p.1 → last_holder rows p s ss ≡ Some l → IsKeyed l.0 → Apart (s ∷ ss) other → LeavesOthers rows is_key p s ss l other
