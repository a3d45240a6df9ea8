-- The laws of judgements: a value is refused exactly where a store can't hold it, and for the first cause.
use Rattle.std.specs.Prelude.{◌≡◌, ◌↔◌, ℕ, List, Option, Some, None, Ok}
use Rattle.ild_data.specs.Data.{Data}
use Rattle.ild_schema.specs.declared.number.TypeNo.{TypeNo}
use Rattle.ild_schema.specs.declared.row.Row.{Row}
use Rattle.ild_schema.specs.Slots.{plainly}
use Rattle.ild_schema.specs.Value.{Value}
use Rattle.ild_script.specs.declared.reply.No.{No}
use Rattle.ild_script.specs.declared.reply.No.TheVariants as N
use Rattle.ild_typed.specs.Fits.{Fits}
use Rattle.ild_typed.specs.Judged.{is_hole, breaks}
use Rattle.ild_typed.specs.Schema.{IsSchema}
use Rattle.ild_typed.specs.Stands.{Frame, Storable}
use Rattle.ild_typed.specs.Typed.{Typed}
use Rattle.ild_path_edits.specs.Along.{IsFree, IsFirst}
use Rattle.ild_path_edits.specs.Edit.{Edit, HasTextPath}
use Rattle.ild_path_edits.specs.EditLaws.{ReadsTree}
use Rattle.ild_path_edits.specs.Judged.{Tests, AreTests, judged, edited}

-- each schema has tests of its texts and of rooms
abbrev pub SchemasHaveTests : Type 0
SchemasHaveTests = (rows : List Row) → IsSchema rows → (t : Tests) × AreTests rows t

abbrev pub UnrefusedAreStorable : Type 0
UnrefusedAreStorable = (f : Frame) (h : List ℕ → List ℕ) (rows : List Row) (t : Tests) → IsSchema rows → AreTests rows t → (n : TypeNo) (v : Value) → Typed rows (plainly n) v
    → (judged f h rows t n v ≡ None) ↔ ((d : Data) × Storable f h rows n v d)

-- the causes that are not found along the path come last
abbrev pub of_three : Option No → Option No
of_three (Some N.Exhausted) = None
of_three (Some N.Size) = None
of_three o = o

-- the first of hole, delimiter and depth, as it is found along the path of a change
abbrev pub JudgedInOrder : Type 0
JudgedInOrder = (f : Frame) (h : List ℕ → List ℕ) (rows : List Row) (t : Tests) → AreTests rows t → (n : TypeNo) (v : Value) → Typed rows (plainly n) v
    → IsFirst (IsFree is_hole rows (plainly n) v) (IsFree (breaks rows) rows (plainly n) v) (Fits rows f.room (plainly n) v) (of_three (judged f h rows t n v))

-- an edit of a typed value makes a value that a store can hold
abbrev pub EditedAreStorable : Type 0
EditedAreStorable = (f : Frame) (h : List ℕ → List ℕ) (rows : List Row) (t : Tests) → IsSchema rows → AreTests rows t
    → (read : List ℕ → Option Data) (n : TypeNo) (v : Value) (e : Edit (List ℕ)) (c : Value)
    → HasTextPath e → ReadsTree read e → Typed rows (plainly n) v → edited f h rows t read n v e ≡ Ok c → (d : Data) × Storable f h rows n c d
