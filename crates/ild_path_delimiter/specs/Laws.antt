-- Which holders can break a delimiter rule.
use Rattle.std.specs.Prelude.{◌≡◌, ℕ, true, false, List, Some, None}
use Rattle.ild_data.specs.Data.{Data, text}
use Rattle.ild_path_edits.specs.Along.{LayerPasses}
use Rattle.ild_path_holder.specs.Along.{is_holder}
use Rattle.ild_schema.specs.Legible.{IsLegible}
use Rattle.ild_schema.specs.Value.{Value}
use Rattle.ild_schema.specs.declared.number.Slot.{Slot}
use Rattle.ild_schema.specs.declared.row.Row.{Row}
use Rattle.ild_typed.specs.At.{InSlot, seen}
use Rattle.ild_typed.specs.Hamt.{alone}
use Rattle.ild_typed.specs.Holder.{Holder}
use Rattle.ild_typed.specs.Judged.{breaks, breaks_delimiter}
use Rattle.ild_typed.specs.Represented.{represented}
use Rattle.ild_typed.specs.Segment.{part}
use Rattle.ild_typed.specs.Strings.{text_in}

-- what stands as a text breaks no delimiter
abbrev pub TextsBreakNothing : Type 0
TextsBreakNothing = (rows : List Row) (slot : Slot) (v : Value) (s : List ℕ) → represented alone rows slot v ≡ Some (text s) → breaks_delimiter rows slot v ≡ false

-- a holder whose data are no text has no delimiter rule, whatever becomes of it
abbrev pub OnlyTextsBreak : Type 0
OnlyTextsBreak = (rows : List Row) (p : InSlot) (t : Data) (k : Holder) → represented alone rows p.0 p.1 ≡ Some t → is_holder (seen rows p) ≡ true → text_in t ≡ None → LayerPasses (breaks rows) rows p.0 k

-- a holder in a holder whose data are a text is a text too
abbrev pub TextsOfTexts : Type 0
TextsOfTexts =
    (rows : List Row) → IsLegible rows → (p q : InSlot) (s : List ℕ) (t d : Data) → represented alone rows p.0 p.1 ≡ Some t
    → represented alone rows q.0 q.1 ≡ Some d → part (seen rows p) s ≡ Some q → is_holder (seen rows q) ≡ true
    → text_in d ≡ None → text_in t ≡ None
