-- The laws of judgements from a place: what is asked of the changed value is asked of the part that comes, and of the last holder.
use Rattle.std.specs.Prelude.{◌≡◌, ◌↔◌, ℕ, IsUtf8, List, Bool, true, false, ◌||◌, Option, Some, None, Ok}
use Rattle.std.specs.List.{AllByRecursion}
use Rattle.ild_data.specs.Data.{Data}
use Rattle.ild_schema.specs.declared.number.Slot.{Slot}
use Rattle.ild_schema.specs.declared.number.TypeNo.{TypeNo}
use Rattle.ild_schema.specs.declared.row.Row.{Row}
use Rattle.ild_schema.specs.Slots.{plainly}
use Rattle.ild_schema.specs.Value.{Value}
use Rattle.ild_script.specs.declared.reply.No.TheVariants as N
use Rattle.ild_typed.specs.At.{InSlot}
use Rattle.ild_typed.specs.Fits.{Fits}
use Rattle.ild_typed.specs.Hamt.{whole}
use Rattle.ild_typed.specs.Judged.{has_hole, breaks_delimiter, exhausts}
use Rattle.ild_typed.specs.OfType.{OfType, TestsKeys}
use Rattle.ild_typed.specs.Represented.{represented}
use Rattle.ild_typed.specs.Schema.{IsSchema}
use Rattle.ild_typed.specs.Stands.{Frame}
use Rattle.ild_typed.specs.Typed.{Typed}
use Rattle.ild_path_edits.specs.Edit.{del_at, new_slot, change}
use Rattle.ild_path_edits.specs.Judged.{Tests, AreTests, are_sized, judged}
use Rattle.ild_path_room.specs.Room.{Coming, FitsIn}
use Rattle.ild_path_judged.specs.Place.{bringing, hole_at, exhausts_at, IsRoomAt}

-- a value that nests within the limit and has data, so none of its layers is amiss
pub record IsSound (h : List ℕ → List ℕ) (rows : List Row) (limit : ℕ) (p : InSlot) : Type 0 where
  pub fits : Fits rows limit p.0 p.1
  pub tree : Data
  pub represents : represented (whole h) rows p.0 p.1 ≡ Some tree

-- Of a part w of a slot that is set or inserted at a path, and c, the changed value.
pub record IsJudgedBy (h : List ℕ → List ℕ) (rows : List Row) (limit : ℕ) (p : InSlot) (how : Coming) (path : List (List ℕ)) (slot : Slot) (w c : Value) : Type 0 where
  pub hole : has_hole rows p.0 c ≡ (has_hole rows slot w || hole_at rows p (bringing how path w))
  pub delimiter : breaks_delimiter rows slot w ≡ true → breaks_delimiter rows p.0 c ≡ true
  pub depth : (o : Option ℕ) → IsRoomAt rows limit p path o → Fits rows limit p.0 c ↔ FitsIn rows slot w o
  pub exhausted : exhausts h rows p.0 c ≡ (exhausts h rows slot w || exhausts_at h rows p (bringing how path w))

abbrev pub ComingIsJudged : Type 0
ComingIsJudged =
    (h : List ℕ → List ℕ) (rows : List Row) (is_key : ℕ → List ℕ → Bool) → IsSchema rows → TestsKeys rows is_key → (limit : ℕ) (p : InSlot) → IsSound h rows limit p
    → (how : Coming) (path : List (List ℕ)) (slot : Slot) (w c : Value) → AllByRecursion IsUtf8 path → new_slot rows p (bringing how path w) ≡ Some slot → OfType rows slot w
    → change rows is_key p (bringing how path w) ≡ Ok c → IsJudgedBy h rows limit p how path slot w c

-- Where the part at a path is deleted, and c is the changed value: neither depth nor a HAMT refuses it.
pub record IsJudgedWithout (h : List ℕ → List ℕ) (rows : List Row) (limit : ℕ) (p : InSlot) (path : List (List ℕ)) (c : Value) : Type 0 where
  pub hole : has_hole rows p.0 c ≡ hole_at rows p (del_at path)
  pub depth : Fits rows limit p.0 c
  pub exhausted : exhausts h rows p.0 c ≡ false

abbrev pub GoingIsJudged : Type 0
GoingIsJudged =
    (h : List ℕ → List ℕ) (rows : List Row) (is_key : ℕ → List ℕ → Bool) → IsSchema rows → TestsKeys rows is_key → (limit : ℕ) (p : InSlot) → IsSound h rows limit p
    → (path : List (List ℕ)) (c : Value) → AllByRecursion IsUtf8 path → change rows is_key p (del_at path) ≡ Ok c → IsJudgedWithout h rows limit p path c

-- The first refusal, step by step.
pub record IsRefusedInOrder (f : Frame) (h : List ℕ → List ℕ) (rows : List Row) (t : Tests) (n : TypeNo) (c : Value) : Type 0 where
  pub hole : has_hole rows (plainly n) c ≡ true → judged f h rows t n c ≡ Some N.Hole
  pub delimiter : has_hole rows (plainly n) c ≡ false → breaks_delimiter rows (plainly n) c ≡ true → judged f h rows t n c ≡ Some N.Delimiter
  pub depth : has_hole rows (plainly n) c ≡ false → breaks_delimiter rows (plainly n) c ≡ false → (Fits rows f.room (plainly n) c → ⊥) → judged f h rows t n c ≡ Some N.Depth
  pub exhausted : has_hole rows (plainly n) c ≡ false → breaks_delimiter rows (plainly n) c ≡ false
      → Fits rows f.room (plainly n) c → exhausts h rows (plainly n) c ≡ true → judged f h rows t n c ≡ Some N.Exhausted
  pub size : has_hole rows (plainly n) c ≡ false → breaks_delimiter rows (plainly n) c ≡ false → Fits rows f.room (plainly n) c → exhausts h rows (plainly n) c ≡ false → are_sized f h rows n c ≡ false
      → judged f h rows t n c ≡ Some N.Size
  pub none : has_hole rows (plainly n) c ≡ false → breaks_delimiter rows (plainly n) c ≡ false → Fits rows f.room (plainly n) c → exhausts h rows (plainly n) c ≡ false → are_sized f h rows n c ≡ true
      → judged f h rows t n c ≡ None

abbrev pub RefusedInOrder : Type 0
RefusedInOrder = (f : Frame) (h : List ℕ → List ℕ) (rows : List Row) (t : Tests) → AreTests rows t → (n : TypeNo) (c : Value) → Typed rows (plainly n) c → IsRefusedInOrder f h rows t n c

-- where none of the first four refuses it, the changed value has data
abbrev pub UnrefusedHaveData : Type 0
UnrefusedHaveData =
    (h : List ℕ → List ℕ) (rows : List Row) → IsSchema rows → (slot : Slot) (c : Value) → Typed rows slot c
    → has_hole rows slot c ≡ false → breaks_delimiter rows slot c ≡ false → exhausts h rows slot c ≡ false
    → (u : Data) × (represented (whole h) rows slot c ≡ Some u)
