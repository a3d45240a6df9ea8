-- What the edit of a line makes of a value under a root that names its schema, and of the struct that this root is.
use Rattle.std.specs.Prelude.{◌≡◌, ℕ, ◌<◌, codes, List, ◌∷◌, length, Option, Result, Ok, Err}
use Rattle.ild_data.specs.Data.{Data}
use Rattle.ild_schema.specs.declared.number.Slot.{Slot}
use Rattle.ild_schema.specs.declared.number.TypeNo.{TypeNo}
use Rattle.ild_schema.specs.declared.row.Row.{Row}
use Rattle.ild_schema.specs.Slots.{plainly}
use Rattle.ild_schema.specs.Table.{IsTable}
use Rattle.ild_schema.specs.Value.{Value}
use Rattle.ild_script.specs.declared.reply.No.{No}
use Rattle.ild_typed.specs.OfType.{OfType}
use Rattle.ild_typed.specs.Schema.{IsSchema}
use Rattle.ild_typed.specs.Stands.{bare}
use Rattle.ild_typed.specs.Typed.{Typed}
use Rattle.ild_value_meaning.specs.MeantRead.{meant}
use Rattle.ild_path_edits.specs.Edit.{Edit, HasTextPath, set_at, ins_at, del_at, line_change}
use Rattle.ild_path_edits.specs.EditLaws.{ReadsTree}
use Rattle.ild_path_edits.specs.Judged.{Tests, AreTests, edited, judged}
use Rattle.ild_named.specs.Named.{AreNaming, named}
use Rattle.ild_named_type.specs.Root.{named_rows, root_type}
use Rattle.ild_named_law.specs.Law.{rooted}
use Rattle.ild_named_law.specs.Paths.{root_in}

-- tests by the types of a schema's table, and of the longer one
pub record AreTestsOfBoth (rows : List Row) (n : TypeNo) (tests others : Tests) : Type 0 where
  pub own : AreTests rows tests
  pub longer : AreTests (named_rows rows n) others

-- the schema's own types have the same texts
abbrev pub KeysAreTestedAlike : Type 0
KeysAreTestedAlike =
    (rows : List Row) (n : TypeNo) → IsTable rows → (tests others : Tests) → AreTestsOfBoth rows n tests others
    → (key : TypeNo) (k : List ℕ) → key.0 < length rows → others.is_key key.0 k ≡ tests.is_key key.0 k

-- data mean the same value in a slot of the schema's own types
abbrev pub DataMeanAlike : Type 0
DataMeanAlike =
    (rows : List Row) (n : TypeNo) → IsTable rows → (tests others : Tests) → AreTestsOfBoth rows n tests others
    → (slot : Slot) (d : Data) → slot.ty.0 < length rows → meant (named_rows rows n) others.is_key slot d ≡ meant rows tests.is_key slot d

-- ---- judgements

-- The struct of a value is refused exactly where the value is, for the same cause: the room of the struct is that of the value and one level,
-- and the block beside the value is no longer than a block may be.
abbrev pub ValuesAreJudgedAlike : Type 0
ValuesAreJudgedAlike =
    (h : List ℕ → List ℕ) (rows : List Row) (n : TypeNo) → IsTable rows → n.0 < length rows → (tests others : Tests) → AreTestsOfBoth rows n tests others
    → (name source : List ℕ) → AreNaming name source → (v : Value) → OfType rows (plainly n) v
    → judged bare h (named_rows rows n) others (root_type rows) (rooted name source v) ≡ judged (named name source) h rows tests n v

-- ---- edits

-- an edit, seen from the struct: its path goes through the field "value" first
abbrev pub edit_beneath : {X : Type 0} → Edit X → Edit X
edit_beneath (set_at path x) = set_at (codes "value" ∷ path) x
edit_beneath (ins_at path x) = ins_at (codes "value" ∷ path) x
edit_beneath (del_at path) = del_at (codes "value" ∷ path)

-- the struct over a changed value; a refusal stays
abbrev pub rooted_or : List ℕ → List ℕ → Result Value No → Result Value No
rooted_or name source (Ok v) = Ok (rooted name source v)
rooted_or name source (Err refusal) = Err refusal

-- what a line's edit makes, before it is judged. The whole of the value is the field "value" of the struct: both can be set, and neither be inserted or deleted.
abbrev pub LineChangesAreAlike : Type 0
LineChangesAreAlike =
    (rows : List Row) (n : TypeNo) → IsTable rows → n.0 < length rows → (tests others : Tests) → AreTestsOfBoth rows n tests others
    → (name source : List ℕ) (read : List ℕ → Option Data) (v : Value) (e : Edit (List ℕ))
    → line_change (named_rows rows n) others.is_key read (root_in rows name source v) (edit_beneath e) ≡ rooted_or name source (line_change rows tests.is_key read (plainly n, v) e)

-- and what comes of it, for an edit as a line of a script has it
abbrev pub EditsAreAlike : Type 0
EditsAreAlike =
    (h : List ℕ → List ℕ) (rows : List Row) (n : TypeNo) → IsSchema rows → n.0 < length rows → (tests others : Tests) → AreTestsOfBoth rows n tests others
    → (name source : List ℕ) → AreNaming name source → (read : List ℕ → Option Data) (v : Value) (e : Edit (List ℕ))
    → HasTextPath e → ReadsTree read e → Typed rows (plainly n) v
    → edited bare h (named_rows rows n) others read (root_type rows) (rooted name source v) (edit_beneath e) ≡ rooted_or name source (edited (named name source) h rows tests read n v e)
