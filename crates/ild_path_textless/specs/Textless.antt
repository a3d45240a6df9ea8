-- A part that stands as no text breaks no delimiter around it (IPLD Schemas, "stringjoin", "stringpairs", "stringprefix").
use Rattle.std.specs.Prelude.{◌≡◌, ℕ, Bool, IsUtf8, List, Some, None, Ok, false}
use Rattle.std.specs.List.{AllByRecursion}
use Rattle.ild_build.specs.TextRep.{text_rep}
use Rattle.ild_path_edits.specs.Edit.{change, new_slot}
use Rattle.ild_path_judged.specs.Laws.{IsSound}
use Rattle.ild_path_judged.specs.Place.{bringing}
use Rattle.ild_path_room.specs.Room.{Coming}
use Rattle.ild_schema.specs.Value.{Value}
use Rattle.ild_schema.specs.declared.number.Slot.{Slot}
use Rattle.ild_schema.specs.declared.row.Row.{Row}
use Rattle.ild_typed.specs.At.{InSlot}
use Rattle.ild_typed.specs.Judged.{breaks_delimiter}
use Rattle.ild_typed.specs.OfType.{OfType, TestsKeys}
use Rattle.ild_typed.specs.Schema.{IsSchema}

-- Where w has no text and breaks nothing by itself, the value to which it comes, by set or by insert, breaks nothing either: the parts
-- of a text are texts, so no holder of w is one.
abbrev pub TextlessBreakNothing : Type 0
TextlessBreakNothing =
    (h : List ℕ → List ℕ) (rows : List Row) (is_key : ℕ → List ℕ → Bool) → IsSchema rows → TestsKeys rows is_key → (limit : ℕ) (p : InSlot) → IsSound h rows limit p
    → (how : Coming) (path : List (List ℕ)) (slot : Slot) (w c : Value) → AllByRecursion IsUtf8 path → new_slot rows p (bringing how path w) ≡ Some slot → OfType rows slot w
    → breaks_delimiter rows slot w ≡ false → text_rep rows slot w ≡ None → change rows is_key p (bringing how path w) ≡ Ok c → breaks_delimiter rows p.0 c ≡ false
