-- Paths into the struct: those that begin with the name of the field "value" lead where the rest leads in the value.
use Rattle.std.specs.Prelude.{◌≡◌, ℕ, suc, ◌<◌, codes, List, ◌∷◌, length}
use Rattle.ild_data.specs.Spell.{id_of}
use Rattle.ild_schema.specs.declared.number.TypeNo.{TypeNo}
use Rattle.ild_schema.specs.declared.row.Row.{Row}
use Rattle.ild_schema.specs.Slots.{plainly}
use Rattle.ild_schema.specs.Table.{IsTable}
use Rattle.ild_schema.specs.Value.{Value}
use Rattle.ild_typed.specs.At.{InSlot, at, changed_in, last_holder, reached, seen}
use Rattle.ild_typed.specs.Holder.{Holder, value_of}
use Rattle.ild_typed.specs.Segment.{set_part}
use Rattle.ild_typed.specs.Shown.{shown}
use Rattle.ild_named.specs.Named.{named_data, schema_block}
use Rattle.ild_named_type.specs.Root.{named_rows, root_type}
use Rattle.ild_named_law.specs.Law.{rooted}

-- the struct over a value, in its slot
abbrev pub root_in : List Row → List ℕ → List ℕ → Value → InSlot
root_in rows name source v = (plainly (root_type rows), rooted name source v)

abbrev pub PathsLeadAlike : Type 0
PathsLeadAlike =
    (rows : List Row) (n : TypeNo) → IsTable rows → n.0 < length rows → (name source : List ℕ) (v : Value) (path : List (List ℕ))
    → at (named_rows rows n) (root_in rows name source v) (codes "value" ∷ path) ≡ at rows (plainly n, v) path

-- the same where of a HAMT the root alone may be known, with segments counted from k on
abbrev pub PathsAreEntered : Type 0
PathsAreEntered =
    (rows : List Row) (n : TypeNo) → IsTable rows → n.0 < length rows → (name source : List ℕ) (v : Value) (k : ℕ) (path : List (List ℕ))
    → reached (named_rows rows n) k (root_in rows name source v) (codes "value" ∷ path) ≡ reached rows (suc k) (plainly n, v) path

-- the value replaced
abbrev pub ValuesAreSet : Type 0
ValuesAreSet =
    (rows : List Row) (n : TypeNo) (name source : List ℕ) (v w : Value)
    → value_of (set_part (seen (named_rows rows n) (root_in rows name source v)) (codes "value") w) ≡ rooted name source w

-- the holder in which the last segment is sought
abbrev pub HoldersAreAlike : Type 0
HoldersAreAlike =
    (rows : List Row) (n : TypeNo) → IsTable rows → n.0 < length rows → (name source : List ℕ) (v : Value) (s : List ℕ) (path : List (List ℕ))
    → last_holder (named_rows rows n) (root_in rows name source v) (codes "value") (s ∷ path) ≡ last_holder rows (plainly n, v) s path

-- that holder changed, by whatever change
abbrev pub ChangesAreAlike : Type 0
ChangesAreAlike =
    (rows : List Row) (n : TypeNo) → IsTable rows → n.0 < length rows → (name source : List ℕ) (v : Value) (change : Holder → List ℕ → Holder) (s : List ℕ) (path : List (List ℕ))
    → changed_in (named_rows rows n) change (root_in rows name source v) (codes "value") (s ∷ path) ≡ rooted name source (changed_in rows change (plainly n, v) s path)

abbrev pub RootsAreShown : Type 0
RootsAreShown =
    (rows : List Row) (n : TypeNo) → IsTable rows → n.0 < length rows → (name source : List ℕ) (v : Value)
    → shown (named_rows rows n) (plainly (root_type rows)) (rooted name source v) ≡ named_data name (id_of (schema_block source)) (shown rows (plainly n) v)
