-- The parts of a struct that are written, in the order of the data, each with the number of its field.
use Rattle.std.specs.Prelude.{◌≡◌, ◌<◌, ℕ, suc, length, true, false, nat_eq, List, [], ◌∷◌, Option, Some, None, map, slice_get}
use Rattle.std.specs.List.{AllByRecursion}
use Rattle.ild_data.specs.Data as T
use Rattle.ild_data.specs.Data.{Data, Items, items_list, items_of}
use Rattle.ild_cbor.specs.Steps.{HasItems}
use Rattle.ild_cbor.specs.declared.piece.Piece.{Piece}
use Rattle.ild_schema.specs.Clear.{AreNamesApart}
use Rattle.ild_schema.specs.declared.def.Field.{Field}
use Rattle.ild_schema.specs.declared.row.Row.{Row}
use Rattle.ild_text.specs.Parts.{pairs_in, parts_left}
use Rattle.ild_typed.specs.Fields.{is_implicit}
use Rattle.ild_typed.specs.Strings.{pair_data}
use Rattle.ild_layer_piece.specs.Entries.{HasLeft}
use Rattle.ild_layer_piece.specs.Pieces.{StandsFor}
use Rattle.ild_layer_fields.specs.Entries.{by_place, text_entries}
use Rattle.ild_struct.specs.declared.left.Left.{Left}
use Rattle.ild_struct.specs.declared.left.Left.TheVariants as L
use Rattle.ild_struct.specs.declared.present.Present.{Present}

-- no number comes twice
abbrev pub ComeOnce : List (ℕ × Data) → Type 0
ComeOnce [] = Unit {0}
ComeOnce (x ∷ xs) = AllByRecursion (λ (y : ℕ × Data). nat_eq x.0 y.0 ≡ false) xs × ComeOnce xs

-- these numbers and data are those of the fields whose parts are written
pub record ArePresent (fs : List Field) (os : List (Option Data)) (xs : List (ℕ × Data)) : Type 0 where
  pub sound : AllByRecursion (λ x. slice_get os x.0 ≡ Some (Some x.1)) xs
  -- all but the implicit ones, which are left out
  pub whole : (i : ℕ) (f : Field) (d : Data) → slice_get fs i ≡ Some f → slice_get os i ≡ Some (Some d) → is_implicit f.implicit d ≡ false → (n : ℕ) × (slice_get xs n ≡ Some (i, d))
  -- among them all of optional fields, which have no implicit value
  pub optional : (i : ℕ) (f : Field) (d : Data) → slice_get fs i ≡ Some f → slice_get os i ≡ Some (Some d) → f.optional ≡ true → (n : ℕ) × (slice_get xs n ≡ Some (i, d))
  -- each field comes once
  pub once : ComeOnce xs

-- values in the order of their fields, from the one with a number on
abbrev pub numbered : ℕ → List Data → List (ℕ × Data)
numbered n [] = []
numbered n (d ∷ ds) = (n, d) ∷ numbered (suc n) ds

-- what is left of the source, in each form
abbrev pub Leaves : List Field → Left → ℕ → List (ℕ × Data) → Type 0
Leaves fs (L.Map s guess) n xs = AreNamesApart fs × (es : List (List ℕ × Data)) × HasLeft s es × (xs ≡ by_place fs es)
Leaves fs (L.Tuple s) n xs = (ds : Items) × HasItems s ds × (xs ≡ numbered n (items_list ds))
Leaves fs (L.ListPairs s) n xs = AreNamesApart fs × (es : List (List ℕ × Data)) × HasItems s (items_of (map pair_data es)) × (xs ≡ by_place fs es)
Leaves fs (L.StringPairs split) n xs = AreNamesApart fs × (xs ≡ by_place fs (text_entries (pairs_in split)))
Leaves fs (L.StringJoin split) n xs = xs ≡ numbered n (map T.text (parts_left split))

-- how many there are at most
abbrev pub count_left : Left → ℕ
count_left (L.Map s guess) = s.pairs.left
count_left (L.Tuple s) = s.left
count_left (L.ListPairs s) = s.left
count_left (L.StringPairs split) = length (pairs_in split)
count_left (L.StringJoin split) = length (parts_left split)

-- the iterator has these left
pub record HasPresent (s : Present) (xs : List (ℕ × Data)) : Type 0 where
  pub within : AllByRecursion (λ x. x.0 < length s.fields.def.now.fields) xs
  pub left : Leaves s.fields.def.now.fields s.left s.next xs

-- the number of a field, a piece for its part, and an iterator that has the others left
pub record StepsTo (x : ℕ × Data) (xs : List (ℕ × Data)) (r : ℕ × Piece) (t : Present) : Type 0 where
  pub number : r.0 ≡ x.0
  pub stands : (rows : List Row) → StandsFor rows r.1 x.1
  pub left : HasPresent t xs

abbrev pub PresentStep : List (ℕ × Data) → Option (ℕ × Piece) → Present → Type 0
PresentStep [] None t = HasPresent t []
PresentStep [] (Some r) t = ⊥
PresentStep (x ∷ xs) None t = ⊥
PresentStep (x ∷ xs) (Some r) t = StepsTo x xs r t

abbrev pub PresentGives : Present → Option (ℕ × Piece) → Present → Type 0
PresentGives s r t = (xs : List (ℕ × Data)) → HasPresent s xs → PresentStep xs r t

-- they are those of a struct's parts
pub record IsWritten (fs : List Field) (os : List (Option Data)) (s : Present) : Type 0 where
  pub parts : List (ℕ × Data)
  pub left : HasPresent s parts
  pub present : ArePresent fs os parts
