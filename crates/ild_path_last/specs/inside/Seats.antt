-- Where a pair stands in a list of pairs, by its key.
use Rattle.std.specs.Prelude.{◌≡◌, ℕ, Bool, true, false, is_some, List, [], ◌∷◌, Option, Some, None}
use Rattle.ild_cbor.specs.declared.items.Items.{Items}
use Rattle.ild_data.specs.Data.{Data}
use Rattle.ild_data.specs.Key.{same_text, value_at}
use Rattle.ild_path_changes.specs.Pairs.{at_pair}
use Rattle.ild_path_changes.specs.Places.{field_data, field_named, field_place, left_out, place_of, written, written_before}
use Rattle.ild_schema.specs.Clear.{AreNamesApart}
use Rattle.ild_schema.specs.Marks.{field_text}
use Rattle.ild_schema.specs.declared.def.Field.{Field}
use Rattle.ild_typed.specs.Fields.{field_entries}
use Rattle.ild_typed.specs.Strings.{listpairs}
use Rattle.ild_path_last.specs.Change.{IsShown, located}
use Rattle.ild_path_last.specs.declared.change.LastChange.{LastChange}
use Rattle.ild_path_steps.specs.Seats.{HasPairs, IsSeat}
use Rattle.ild_path_steps.specs.declared.pair.Seat.{Seat}

-- an iterator behind the first pair, where that has this key
abbrev pub SeatIsBehind : List ℕ → List (List ℕ × Data) → Option Items → Type 0
SeatIsBehind k [] None = Unit {0}
SeatIsBehind k [] (Some s) = ⊥
SeatIsBehind k (e ∷ es) None = same_text k e.0 ≡ false
SeatIsBehind k (e ∷ es) (Some s) = (same_text k e.0 ≡ true) × HasPairs s es

-- the place of a field's pair among those that are written before it, and whether it is written
abbrev pub FindsField : Items → List Field → ℕ → Seat → Type 0
FindsField s fs number seat =
    (ds : List (Option Data)) (es : List (List ℕ × Data)) (k : List ℕ) (g : Field) → field_entries fs ds ≡ Some es
    → HasPairs s es → AreNamesApart fs → field_named k fs ≡ Some g → number ≡ field_place k fs
    → IsSeat seat (written_before left_out k fs ds) (written left_out g (field_data k fs ds))

-- the change of this pair
abbrev pub ChangesPair : (Data → Type 0) → List Field → ℕ → Bool → LastChange → Type 0
ChangesPair Holds fs number after result =
    (ds : List (Option Data)) (es : List (List ℕ × Data)) (k : List ℕ) (g : Field) (d x u : Option Data)
    → field_entries fs ds ≡ Some es → Holds (listpairs es) → AreNamesApart fs → field_named k fs ≡ Some g → number ≡ field_place k fs
    → after ≡ is_some (written left_out g d) → IsShown (written left_out g d) x
    → at_pair (written_before left_out k fs ds) (field_text g) (written left_out g (field_data k fs ds)) (written left_out g d) ≡ located result x u

-- the change of the pair at this key
abbrev pub ChangesAtKey : (Data → Type 0) → List ℕ → Bool → LastChange → Type 0
ChangesAtKey Holds k after result =
    (es : List (List ℕ × Data)) (d x u : Option Data) → Holds (listpairs es) → after ≡ is_some d → IsShown d x
    → at_pair (place_of k es) k (value_at k es) d ≡ located result x u
