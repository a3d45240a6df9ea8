-- What is left of a struct's parts: at first, and behind one step.
use Rattle.std.specs.Prelude.{◌≡◌, ◌<◌, ℕ, zero, ◌+◌, List, [], ◌∷◌, length, Option, Some, None}
use Rattle.std.specs.List.{AllByRecursion}
use Rattle.ild_data.specs.Data.{Data}
use Rattle.ild_cbor.specs.declared.piece.Piece.{Piece}
use Rattle.ild_schema.specs.declared.def.Field.{Field}
use Rattle.ild_schema.specs.declared.row.Row.{Row}
use Rattle.ild_layer_fields.specs.Entries.{by_place}
use Rattle.ild_layer_piece.specs.Entries.{HasLeft}
use Rattle.ild_layer_piece.specs.Pieces.{StandsFor}
use Rattle.ild_layer_piece.specs.declared.walk.MapEntries.{MapEntries}
use Rattle.ild_schema.specs.Clear.{AreNamesApart}
use Rattle.ild_struct.specs.declared.left.Left.{Left}
use Rattle.ild_struct.specs.Present.{ArePresent, Leaves}

-- the number of a field, a piece for its part, and what is left behind
pub record TakesFirst (fs : List Field) (x : ℕ × Data) (xs : List (ℕ × Data)) (r : ℕ × Piece × Left) : Type 0 where
  pub number : r.0 ≡ x.0
  pub stands : (rows : List Row) → StandsFor rows r.1 x.1
  pub left : Leaves fs r.2 (r.0 + 1) xs

abbrev pub TakesField : List Field → List (ℕ × Data) → Option (ℕ × Piece × Left) → Type 0
TakesField fs [] None = Unit {0}
TakesField fs [] (Some r) = ⊥
TakesField fs (x ∷ xs) None = ⊥
TakesField fs (x ∷ xs) (Some r) = TakesFirst fs x xs r

-- the first of the entries that are left is that of its field
abbrev pub TakesEntry : List Field → MapEntries → Option (ℕ × Piece × Left) → Type 0
TakesEntry fs entries r = AreNamesApart fs → (es : List (List ℕ × Data)) → HasLeft entries es → TakesField fs (by_place fs es) r

-- what is written, each of a field that is there
pub record Written (fs : List Field) (os : List (Option Data)) (xs : List (ℕ × Data)) : Type 0 where
  pub present : ArePresent fs os xs
  pub within : AllByRecursion (λ x. x.0 < length fs) xs

-- what is left of parts that are written
pub record Starts (fs : List Field) (os : List (Option Data)) (left : Left) : Type 0 where
  pub parts : List (ℕ × Data)
  pub written : Written fs os parts
  pub leaves : Leaves fs left zero parts
