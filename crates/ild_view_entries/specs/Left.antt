-- The entries of a map that are left, in each form in which they stand in a block.
use Rattle.std.specs.Borrow.{Bor}
use Rattle.std.specs.Prelude.{◌≡◌, ℕ, List, [], ◌∷◌, Option, Some, None, length, map}
use Rattle.ild_data.specs.Data.{Data, items_of}
use Rattle.ild_cbor.specs.Nodes.{HasData}
use Rattle.ild_cbor.specs.Steps.{HasItems}
use Rattle.ild_cbor.specs.declared.node.Node.{Node}
use Rattle.ild_cbor.specs.declared.piece.Piece.{Piece}
use Rattle.ild_layer_piece.specs.Entries.{HasLeft}
use Rattle.ild_layer_piece.specs.Pieces.{StandsFor}
use Rattle.ild_schema.specs.declared.def.MapForm.{MapForm}
use Rattle.ild_schema.specs.declared.def.MapForm.TheVariants as MF
use Rattle.ild_schema.specs.declared.row.Row.{Row}
use Rattle.ild_layer_fields.specs.Entries.{text_entries}
use Rattle.ild_text.specs.Parts.{pairs_in}
use Rattle.ild_typed.specs.Strings.{pair_data}
use Rattle.ild_view_entries.specs.declared.left.EntriesLeft.{EntriesLeft}
use Rattle.ild_view_entries.specs.declared.left.EntriesLeft.TheVariants as R

abbrev pub AreLeft : EntriesLeft → List (List ℕ × Data) → Type 0
AreLeft (R.Map s) es = HasLeft s es
AreLeft (R.ListPairs s) es = HasItems s (items_of (map pair_data es))
AreLeft (R.StringPairs split) es = es ≡ text_entries (pairs_in split)

-- how many there are at most
abbrev pub most_left : EntriesLeft → ℕ
most_left (R.Map s) = s.pairs.left
most_left (R.ListPairs s) = s.left
most_left (R.StringPairs split) = length (pairs_in split)

-- an item is a pair of a key and a value
abbrev pub IsPairOf : List ℕ × Data → Option (Bor (List ℕ) × Node) → Type 0
IsPairOf e None = ⊥
IsPairOf e (Some r) = (r.0.now ≡ e.0) × HasData r.1 e.1

-- the first entry, and those behind it
pub record TakesEntry (e : List ℕ × Data) (es : List (List ℕ × Data)) (r : Bor (List ℕ) × Piece × EntriesLeft) : Type 0 where
  pub key : r.0.now ≡ e.0
  pub stands : (rows : List Row) → StandsFor rows r.1 e.1
  pub left : AreLeft r.2 es

abbrev pub FirstStep : List (List ℕ × Data) → Option (Bor (List ℕ) × Piece × EntriesLeft) → Type 0
FirstStep [] None = Unit {0}
FirstStep [] (Some r) = ⊥
FirstStep (e ∷ es) None = ⊥
FirstStep (e ∷ es) (Some r) = TakesEntry e es r

-- entries left, of a map or without one
abbrev pub FindsLeft : Option (List (List ℕ × Data)) → Option EntriesLeft → Type 0
FindsLeft None None = Unit {0}
FindsLeft (Some es) (Some r) = AreLeft r es
FindsLeft None (Some r) = ⊥
FindsLeft (Some es) None = ⊥

-- those of a map of a form: of a HAMT none are looked for
abbrev pub FormLeft : MapForm → List (List ℕ × Data) → Option EntriesLeft → Type 0
FormLeft (MF.Hamt p) es r = r ≡ None
FormLeft form es r = FindsLeft (Some es) r
