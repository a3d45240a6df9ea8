-- The first cause for which data are no struct's, form by form, and what is noted of names with values.
use Rattle.std.specs.Prelude.{◌≡◌, ℕ, Bool, true, false, ◌||◌, not, cond, List, length, map, Option, Some, None, [], ◌∷◌, ◌++◌, ◌&&◌}
use Rattle.std.specs.List.{list_any}
use Rattle.ild_data.specs.Data.{Data}
use Rattle.ild_schema.specs.DataKinds.{same_kind, struct_kind}
use Rattle.ild_schema.specs.declared.def.Field.{Field}
use Rattle.ild_schema.specs.declared.def.StructForm.{StructForm}
use Rattle.ild_typed.specs.Kinds.{kind_word_of}
use Rattle.ild_typed.specs.Named.{is_pair, is_two, pair_entries, pair_names, entry_of, has_twice, items_or, name_of}
use Rattle.ild_typed.specs.StructWhy.{place_of, writes_implicit, struct_kind_why, struct_name_why, struct_missing, struct_count, struct_order, struct_repeat, struct_implicit, struct_delimiter, has_stranger, is_out_of_order, lacks_field}
use Rattle.ild_typed.specs.Why as W
use Rattle.ild_typed.specs.Why.{Why, in_order, first_that}
use Rattle.ild_layer_fields.specs.Notes.{IsNoted}
use Rattle.ild_layer_fields.specs.declared.notes.Notes.{Notes}
use Rattle.ild_cbor.specs.declared.piece.Piece.{Piece}
use Rattle.ild_layer_piece.specs.Pieces.{StandsFor}
use Rattle.ild_schema.specs.Clear.{AreNamesApart}
use Rattle.ild_schema.specs.declared.row.Row.{Row}
use Rattle.ild_layer_fields.specs.Pairs.{IsPairOf}
use Rattle.ild_layer_fields.specs.declared.pair.Pair.{Pair}

-- the causes that a struct can have
abbrev pub struct_cause : StructForm → List Field → Data → Why → Bool
struct_cause form fs t W.Kind = not (same_kind (struct_kind form) (kind_word_of t)) || struct_kind_why form t
struct_cause form fs t W.Name = struct_name_why form fs t
struct_cause form fs t W.Missing = struct_missing form fs t
struct_cause form fs t W.Count = struct_count form fs t
struct_cause form fs t W.Order = struct_order form fs t
struct_cause form fs t W.Repeat = struct_repeat form t
struct_cause form fs t W.Implicit = struct_implicit form fs t
struct_cause form fs t W.Delimiter = struct_delimiter form fs t
struct_cause form fs t w = false

abbrev pub struct_why : StructForm → List Field → Data → Option Why
struct_why form fs t = first_that (struct_cause form fs t) in_order

-- the first of those that are asked of names with values
abbrev pub first_cause : Bool → Bool → Bool → Bool → Bool → Bool → Option Why
first_cause name missing count order repeat implicit =
    cond name (Some W.Name) (cond missing (Some W.Missing) (cond count (Some W.Count) (cond order (Some W.Order) (cond repeat (Some W.Repeat) (cond implicit (Some W.Implicit) None)))))

-- what is noted of names, and of names with values
pub record Noted (fs : List Field) (ks : List (List ℕ)) (es : List (List ℕ × Data)) (notes : Notes) : Type 0 where
  pub names : IsNoted (length fs) notes (map (place_of fs) ks)
  pub needless : notes.needless ≡ writes_implicit fs es

-- what is noted of the pairs of a list: names with values, and whether a pair has another number of parts, or nothing where a
-- pair or its name has another kind
abbrev pub PairsNoted : List Field → List Data → Option (Notes × Bool) → Type 0
PairsNoted fs ds None = list_any (λ d. not (is_pair d)) ds ≡ true
PairsNoted fs ds (Some x) = (list_any (λ d. not (is_pair d)) ds ≡ false) × (x.1 ≡ list_any (λ d. not (is_two d)) ds) × Noted fs (pair_names ds) (pair_entries ds) x.0

-- ---- what one more of them adds, where each of the fields has a name of its own

-- a name more is noted
abbrev pub NotesName : List Field → List ℕ → Notes → Notes → Type 0
NotesName fs name old new = AreNamesApart fs → (ks : List (List ℕ)) (es : List (List ℕ × Data)) → Noted fs ks es old → Noted fs (ks ++ name ∷ []) es new

-- a name and the data that are its value are
abbrev pub AddsEntry : List Field → List ℕ → Data → Notes → Notes → Type 0
AddsEntry fs name d old new = (ks : List (List ℕ)) (es : List (List ℕ × Data)) → Noted fs ks es old → Noted fs (ks ++ name ∷ []) (es ++ (name, d) ∷ []) new

-- a name is, with the data for which a piece stands
abbrev pub NotesEntry : List Field → List ℕ → Piece → Notes → Notes → Type 0
NotesEntry fs name piece old new = AreNamesApart fs → (rows : List Row) (d : Data) → StandsFor rows piece d → AddsEntry fs name d old new

-- the same of each name of which the field has this place
abbrev pub NotesPlaced : List Field → ℕ → Piece → Notes → Notes → Type 0
NotesPlaced fs place piece old new = AreNamesApart fs → (name : List ℕ) → place ≡ place_of fs name → (rows : List Row) (d : Data) → StandsFor rows piece d → AddsEntry fs name d old new

-- the name of a pair is, with its value where it has one, and it is told whether the pair has two items
abbrev pub NotesPair : List Field → Pair → Notes → Bool → Notes → Type 0
NotesPair fs pair old two new =
    AreNamesApart fs → (d : Data) → IsPairOf d pair → is_pair d ≡ true → (ks : List (List ℕ)) (es : List (List ℕ × Data)) → Noted fs ks es old
    → (two ≡ is_two d) × Noted fs (ks ++ name_of (items_or d)) (es ++ entry_of (items_or d)) new

-- ---- what is told by them

-- the first cause for which the names and values that were noted are none of the fields, where parts may be too many or too
-- few, and the order may matter
abbrev pub TellsCause : List Field → Notes → Bool → Bool → Option Why → Type 0
TellsCause fs notes miscounted ordered why =
    AreNamesApart fs → (ks : List (List ℕ)) (es : List (List ℕ × Data)) → Noted fs ks es notes
    → why ≡ first_cause (has_stranger fs ks) (lacks_field fs ks) miscounted (ordered && is_out_of_order fs ks) (has_twice ks) (writes_implicit fs es)
