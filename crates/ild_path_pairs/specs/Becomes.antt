-- What a holder that stands as a text becomes where its part at a segment becomes a text, or goes.
use Rattle.std.specs.Prelude.{◌≡◌, ℕ, List, true, Option, Some, None, Result, option_map}
use Rattle.std.specs.declared.alloc.AllocError.{AllocError}
use Rattle.ild_data.specs.Data as T
use Rattle.ild_data.specs.Data.{Data}
use Rattle.ild_path_edits.specs.Table.{delete_part, refusal_to_delete, slot_to_set}
use Rattle.ild_path_holder.specs.Along.{is_holder}
use Rattle.ild_path_last.specs.Change.{becomes}
use Rattle.ild_path_pairs.specs.Pairs.{Tells}
use Rattle.ild_schema.specs.Value.{Value}
use Rattle.ild_schema.specs.declared.number.Slot.{Slot}
use Rattle.ild_schema.specs.declared.row.Row.{Row}
use Rattle.ild_typed.specs.At.{InSlot, seen}
use Rattle.ild_typed.specs.Hamt.{alone}
use Rattle.ild_typed.specs.Holder.{Holder}
use Rattle.ild_typed.specs.Represented.{represented}
use Rattle.ild_typed.specs.Segment.{set_part}
use Rattle.ild_view.specs.View.{IsView, slot_of, table_of}
use Rattle.ild_view.specs.declared.view.View.{View}

-- its part becomes a value, or goes
abbrev pub with_part : Holder → List ℕ → Option Value → Holder
with_part h s None = delete_part h s
with_part h s (Some w) = set_part h s w

-- the table lets it become what has these data, or go
abbrev pub LetsBe : List Row → Holder → List ℕ → Option Value → Option Data → Type 0
LetsBe rows h s None None = refusal_to_delete h s ≡ None
LetsBe rows h s None (Some x) = ⊥
LetsBe rows h s (Some w) None = ⊥
LetsBe rows h s (Some w) (Some x) = (slot : Slot) × (slot_to_set h s ≡ Some slot) × (represented alone rows slot w ≡ Some x)

-- the data of what it becomes
abbrev pub becoming_with : List Row → InSlot → List ℕ → Option Value → Option Data
becoming_with rows q s o = becomes rows q.0 (with_part (seen rows q) s o)

-- of each front for which a view stands, where that is a text: the text of what it becomes, or none where a rule of its form refuses that
abbrev pub AnswersText : View → List ℕ → Option (List ℕ) → Result (Option (List ℕ)) AllocError → Type 0
AnswersText v s new result =
    (f : Value) (o : Option Value) (j : List ℕ) → IsView v f → is_holder (seen (table_of v) (slot_of v, f)) ≡ true
    → represented alone (table_of v) (slot_of v) f ≡ Some (T.text j) → LetsBe (table_of v) (seen (table_of v) (slot_of v, f)) s o (option_map T.text new)
    → Tells (becoming_with (table_of v) (slot_of v, f) s o) result
