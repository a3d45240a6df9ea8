-- How the changed value of an edit is judged: by the first of hole, delimiter, depth, exhausted and size that holds of it.
use Rattle.std.specs.Prelude.{◌≡◌, ◌↔◌, ℕ, Bool, true, not, nat_le, List, length, Option, Some, None, Result, Ok, Err, if◌then◌else◌}
use Rattle.std.specs.List.{list_all}
use Rattle.std.specs.Option.{option_map_or}
use Rattle.ild_data.specs.Data.{Data}
use Rattle.ild_data.specs.Limits.{longest_block}
use Rattle.ild_schema.specs.declared.number.Slot.{Slot}
use Rattle.ild_schema.specs.declared.number.TypeNo.{TypeNo}
use Rattle.ild_schema.specs.declared.row.Row.{Row}
use Rattle.ild_schema.specs.Slots.{plainly}
use Rattle.ild_schema.specs.Value.{Value}
use Rattle.ild_script.specs.declared.reply.No.{No}
use Rattle.ild_script.specs.declared.reply.No.TheVariants as N
use Rattle.ild_typed.specs.Fits.{Fits}
use Rattle.ild_typed.specs.Hamt.{whole}
use Rattle.ild_typed.specs.Judged.{has_hole, breaks_delimiter, exhausts}
use Rattle.ild_typed.specs.OfType.{OfType, TestsKeys}
use Rattle.ild_typed.specs.Represented.{represented}
use Rattle.ild_typed.specs.Stands.{Frame, blocks_of}
use Rattle.ild_path_edits.specs.Edit.{Edit, line_change}

-- What is asked of texts by their types: whether a text is one of a key type, and whether a value, its keys too, fits in a room.
pub record Tests : Type 0 where
  pub is_key : ℕ → List ℕ → Bool
  pub fits : ℕ → Slot → Value → Bool

-- tests that answer by the types of a table
pub record AreTests (rows : List Row) (t : Tests) : Type 0 where
  pub keys : TestsKeys rows t.is_key
  pub rooms : (room : ℕ) (slot : Slot) (v : Value) → OfType rows slot v → (t.fits room slot v ≡ true) ↔ Fits rows room slot v

-- whether each block of a value is within the limit
abbrev pub are_sized : Frame → (List ℕ → List ℕ) → List Row → TypeNo → Value → Bool
are_sized f h rows n v = option_map_or (λ d. list_all (λ b. nat_le (length b) longest_block) (blocks_of f h rows n v d)) (represented (whole h) rows (plainly n) v) true

-- the first refusal of a value as a whole, or none
abbrev pub judged : Frame → (List ℕ → List ℕ) → List Row → Tests → TypeNo → Value → Option No
judged f h rows t n v =
    if has_hole rows (plainly n) v then Some N.Hole
    else if breaks_delimiter rows (plainly n) v then Some N.Delimiter
    else if not (t.fits f.room (plainly n) v) then Some N.Depth
    else if exhausts h rows (plainly n) v then Some N.Exhausted
    else if not (are_sized f h rows n v) then Some N.Size
    else None

-- a changed value that a store can hold, or the first refusal
abbrev pub unless_judged : Value → Option No → Result Value No
unless_judged c None = Ok c
unless_judged c (Some refusal) = Err refusal

abbrev pub judged_result : Frame → (List ℕ → List ℕ) → List Row → Tests → TypeNo → Result Value No → Result Value No
judged_result f h rows t n (Err refusal) = Err refusal
judged_result f h rows t n (Ok c) = unless_judged c (judged f h rows t n c)

-- what the edit of a line makes of a value of a type: the first of path, json, mismatch and what the changed value is refused for
abbrev pub edited : Frame → (List ℕ → List ℕ) → List Row → Tests → (List ℕ → Option Data) → TypeNo → Value → Edit (List ℕ) → Result Value No
edited f h rows t read n v e = judged_result f h rows t n (line_change rows t.is_key read (plainly n, v) e)
