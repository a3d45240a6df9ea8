-- An edit in one block breaks of the value the delimiters that it breaks of the front (IPLD Schemas; IPLD HashMap).
use Rattle.std.specs.Prelude.{◌≡◌, ℕ, Bool, true, false, List, ◌∷◌, Some, Ok}
use Rattle.ild_data.specs.Data.{Data, text}
use Rattle.ild_path_edits.specs.Edit.{Edit, HasTextPath, change, del_at, ins_at, new_slot, path_of, set_at}
use Rattle.ild_path_edits.specs.EditLaws.{Brings}
use Rattle.ild_schema.specs.Clear.{IsSafe}
use Rattle.ild_schema.specs.Value.{Value}
use Rattle.ild_schema.specs.declared.number.Slot.{Slot}
use Rattle.ild_schema.specs.declared.row.Row.{Row}
use Rattle.ild_typed.specs.At.{InSlot}
use Rattle.ild_typed.specs.Hamt.{alone, whole}
use Rattle.ild_typed.specs.Judged.{breaks_delimiter}
use Rattle.ild_typed.specs.OfType.{OfType, TestsKeys}
use Rattle.ild_typed.specs.Represented.{represented}
use Rattle.ild_typed.specs.Schema.{IsSchema}
use Rattle.ild_typed_fronts.specs.Front.{front, front_in, in_one_block}

-- where the value broke none, nor does what comes by itself
abbrev pub BlocksBreakAlike : Type 0
BlocksBreakAlike =
    (h : List ℕ → List ℕ) (rows : List Row) (is_key : ℕ → List ℕ → Bool) → IsSchema rows → TestsKeys rows is_key → (p : InSlot) (s : List ℕ) (ss : List (List ℕ)) (e : Edit Value) (c : Value)
    → path_of e ≡ s ∷ ss → HasTextPath e → Brings rows (OfType rows) p e → Brings rows (λ slot w. breaks_delimiter rows slot w ≡ false) p e
    → OfType rows p.0 p.1 → breaks_delimiter rows p.0 p.1 ≡ false → in_one_block rows p (s ∷ ss) ≡ true → change rows is_key p e ≡ Ok c
    → breaks_delimiter rows p.0 (front h rows p.0 c) ≡ breaks_delimiter rows p.0 c

-- ---- parts in text form

-- w, of the slot, stands as a text
pub record IsTextPart (rows : List Row) (slot : Slot) (w : Value) : Type 0 where
  pub safe : IsSafe rows slot
  pub fits : OfType rows slot w
  pub text_is : List ℕ
  pub shown : represented alone rows slot w ≡ Some (text text_is)

abbrev pub BringsTextPart : List Row → InSlot → Edit Value → Type 0
BringsTextPart rows p (set_at path w) = (slot : Slot) → new_slot rows p (set_at path w) ≡ Some slot → IsTextPart rows slot w
BringsTextPart rows p (ins_at path w) = (slot : Slot) → new_slot rows p (ins_at path w) ≡ Some slot → IsTextPart rows slot w
BringsTextPart rows p (del_at path) = Unit {0}

-- the same edit makes of the front the front, which breaks the delimiters that the changed value breaks; before, it broke none
pub record IsTextEdit (h : List ℕ → List ℕ) (rows : List Row) (is_key : ℕ → List ℕ → Bool) (p : InSlot) (e : Edit Value) (c : Value) : Type 0 where
  pub made : change rows is_key (front_in h rows p) e ≡ Ok (front h rows p.0 c)
  pub alike : breaks_delimiter rows p.0 (front h rows p.0 c) ≡ breaks_delimiter rows p.0 c
  pub sound : breaks_delimiter rows p.0 (front h rows p.0 p.1) ≡ false

abbrev pub TextEditsOfFronts : Type 0
TextEditsOfFronts =
    (h : List ℕ → List ℕ) (rows : List Row) (is_key : ℕ → List ℕ → Bool) → IsSchema rows → TestsKeys rows is_key
    → (p : InSlot) (s : List ℕ) (ss : List (List ℕ)) (e : Edit Value) (c : Value) (d : Data)
    → path_of e ≡ s ∷ ss → HasTextPath e → BringsTextPart rows p e → OfType rows p.0 p.1
    → represented (whole h) rows p.0 p.1 ≡ Some d → in_one_block rows p (s ∷ ss) ≡ true → change rows is_key p e ≡ Ok c
    → IsTextEdit h rows is_key p e c
