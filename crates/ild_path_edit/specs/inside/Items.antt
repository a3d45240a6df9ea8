-- What is made of the holders on the path of an edit.
use Rattle.std.specs.Prelude.{◌≡◌, ℕ, Bool, IsSomeAnd, List, Some, Result, slice_get, true}
use Rattle.ild_data.specs.Data.{Data}
use Rattle.ild_data.specs.Spell.{spell}
use Rattle.ild_path_block.specs.Changes.{Allows}
use Rattle.ild_path_block.specs.Edits.{EditsPart}
use Rattle.ild_path_block.specs.Items.{becoming}
use Rattle.ild_path_block.specs.Spliced.{IsReplaced}
use Rattle.ild_path_block.specs.declared.answer.Replaced.{Replaced}
use Rattle.ild_path_block.specs.declared.edit.PartEdit.{PartEdit}
use Rattle.ild_path_edit.specs.Holders.{IsMade, PartIs}
use Rattle.ild_path_edit.specs.Made.{MakesBlock}
use Rattle.ild_path_holder.specs.Along.{is_holder}
use Rattle.ild_schema.specs.Value.{Value}
use Rattle.ild_schema.specs.declared.number.Slot.{Slot}
use Rattle.ild_schema.specs.declared.row.Row.{Row}
use Rattle.ild_splice.specs.declared.error.SpliceErr.{SpliceErr}
use Rattle.ild_typed.specs.At.{InSlot, seen}
use Rattle.ild_view.specs.Parts.{IsPartView}
use Rattle.ild_view.specs.View.{slot_of, table_of}
use Rattle.ild_view.specs.declared.view.View.{View}

-- the item of what the holder with a number becomes by an edit of the part at its segment
abbrev pub ChangesHolder : List View → List (List ℕ) → ℕ → PartEdit → Result (List ℕ) SpliceErr → Type 0
ChangesHolder views segments k edit result =
    (rows : List Row) (q : InSlot) (s : List ℕ) (w : Value) (d : Data) → IsSomeAnd (slice_get views k) (IsPartView rows q)
    → slice_get segments k ≡ Some s → is_holder (seen rows q) ≡ true → Allows rows edit (seen rows q) s w
    → becoming rows edit w q s ≡ Some d → MakesBlock (spell d) result

-- the same, where the part becomes what this block stands for
abbrev pub SetsPart : List View → List (List ℕ) → ℕ → List ℕ → Result (List ℕ) SpliceErr → Type 0
SetsPart views segments k block result =
    (rows : List Row) (q : InSlot) (slot : Slot) (s : List ℕ) (c : Value) (x d : Data) → IsSomeAnd (slice_get views k) (IsPartView rows q)
    → slice_get segments k ≡ Some s → is_holder (seen rows q) ≡ true → PartIs rows q s slot c x d
    → block ≡ spell x → MakesBlock (spell d) result

-- the item of what an edit at a path makes of the holder to which so many segments lead
abbrev pub MakesHolder : View → List (List ℕ) → PartEdit → ℕ → Result (List ℕ) SpliceErr → Type 0
MakesHolder root path edit from result =
    (is_key : ℕ → List ℕ → Bool) (f w c : Value) (t u d : Data) → EditsPart is_key root path edit f w c t u
    → IsMade (table_of root) is_key edit w (slot_of root, f) path from d → MakesBlock (spell d) result

-- the block of what an edit at a path makes of the whole, of which this holder is replaced
abbrev pub MakesWhole : View → List (List ℕ) → PartEdit → Replaced → Result (List ℕ) SpliceErr → Type 0
MakesWhole root path edit holder result =
    (is_key : ℕ → List ℕ → Bool) (f w c : Value) (t u : Data) → EditsPart is_key root path edit f w c t u
    → IsReplaced (table_of root) is_key edit w (slot_of root, f) path t u holder → MakesBlock (spell u) result
