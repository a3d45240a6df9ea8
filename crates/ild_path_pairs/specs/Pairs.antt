-- The text of pairs of which one comes, goes or has another value, and what is answered of it.
use Rattle.std.specs.Prelude.{◌≡◌, ◌<◌, ℕ, IfOk, IsSomeAnd, true, is_some, List, [], ◌∷◌, ◌++◌, length, Option, Some, None, option_map, Result}
use Rattle.std.specs.Borrow.{Bor}
use Rattle.std.specs.declared.alloc.AllocError.{AllocError}
use Rattle.ild_data.specs.Data as T
use Rattle.ild_data.specs.Data.{Data}
use Rattle.ild_data.specs.Key.{without}
use Rattle.ild_path_block.specs.Items.{is_pairs_map, is_pairs_struct}
use Rattle.ild_path_changes.specs.Pairs.{pair_if}
use Rattle.ild_path_changes.specs.Places.{field_named, field_place}
use Rattle.ild_path_pairs.specs.declared.place.Seat.{Seat}
use Rattle.ild_path_text.specs.Changed.{changed}
use Rattle.ild_path_text.specs.declared.change.PairChange.{PairChange}
use Rattle.ild_schema.specs.Clear.{AreNamesApart, ClearStruct}
use Rattle.ild_schema.specs.declared.def.Field.{Field}
use Rattle.ild_schema.specs.declared.def.MapForm.{MapForm}
use Rattle.ild_schema.specs.declared.def.MapForm.TheVariants as M
use Rattle.ild_schema.specs.declared.def.StructDef.{StructDef}
use Rattle.ild_schema.specs.declared.def.StructForm.{StructForm}
use Rattle.ild_schema.specs.declared.def.StructForm.TheVariants as S
use Rattle.ild_typed.specs.Fields.{field_entries}
use Rattle.ild_typed.specs.Composed.{map_form, struct_form}
use Rattle.ild_typed.specs.Hamt.{alone}
use Rattle.ild_typed.specs.Layer as L
use Rattle.ild_typed.specs.Segment.{put_last, set_field}
use Rattle.ild_text.specs.Parts.{pairs_in}
use Rattle.ild_text.specs.declared.parts.PairParts.{PairParts}
use Rattle.ild_typed.specs.Strings.{stringpairs, text_pairs}

-- the text that the data are, or that there are none
abbrev pub Tells : Option Data → Result (Option (List ℕ)) AllocError → Type 0
Tells u r = IfOk r (λ t. option_map T.text t ≡ u)

-- the pairs with a change, or as they are
abbrev pub changed_by : Option PairChange → List (List ℕ × List ℕ) → List (List ℕ × List ℕ)
changed_by None ps = ps
changed_by (Some change) ps = changed change ps

-- a pair of texts, where it is written
abbrev pub text_pair_if : List ℕ → Option (List ℕ) → List (List ℕ × List ℕ)
text_pair_if k None = []
text_pair_if k (Some s) = (k, s) ∷ []

-- a borrowed text
abbrev pub borrowed_text : Option (Bor (List ℕ)) → Option (List ℕ)
borrowed_text o = option_map (λ s. s.now) o

-- the pairs of a text, where it is that of some
abbrev pub ReadsPairs : List ℕ → List ℕ → List ℕ → Option PairParts → Type 0
ReadsPairs inner entry text result = (es : List (List ℕ × Data)) → stringpairs inner entry es ≡ Some (T.text text) → IsSomeAnd result (λ split. text_pairs es ≡ Some (pairs_in split))

-- the change by which the pair of a key at a seat has this value, or is not
abbrev pub ChangesPair : Seat → List ℕ → Option (List ℕ) → Option PairChange → Type 0
ChangesPair seat key new result =
    (front behind : List (List ℕ × List ℕ)) (old : Option (List ℕ)) → seat.place ≡ length front → seat.there ≡ is_some old
    → changed_by result (front ++ (text_pair_if key old ++ behind)) ≡ front ++ (text_pair_if key new ++ behind)

-- the text of pairs in which the pair of a key stands at a seat, or would stand, where it has this value or is not
abbrev pub TellsPair : List ℕ → List ℕ → List ℕ → Seat → List ℕ → Option Data → Result (Option (List ℕ)) AllocError → Type 0
TellsPair inner entry text seat key new result =
    (front behind : List (List ℕ × Data)) (old : Option Data) → seat.place ≡ length front → seat.there ≡ is_some old
    → stringpairs inner entry (front ++ (pair_if key old ++ behind)) ≡ Some (T.text text) → Tells (stringpairs inner entry (front ++ (pair_if key new ++ behind))) result

-- the entries of a map with a value at a key, or without one
abbrev pub entries_with : {V : Type 0} → List ℕ → Option V → List (List ℕ × V) → List (List ℕ × V)
entries_with key None es = without key es
entries_with key (Some v) es = put_last key v es

-- of a map, where the value at a key becomes a text, or goes
abbrev pub TellsMap : List ℕ → List ℕ → List ℕ → List ℕ → Option (List ℕ) → Result (Option (List ℕ)) AllocError → Type 0
TellsMap inner entry text key new result = (es : List (List ℕ × Data)) → stringpairs inner entry es ≡ Some (T.text text)
    → Tells (stringpairs inner entry (entries_with key (option_map T.text new) es)) result

-- of a struct with these fields, of the one with a number
abbrev pub TellsStruct : List ℕ → List ℕ → List ℕ → List Field → ℕ → Option (List ℕ) → Result (Option (List ℕ)) AllocError → Type 0
TellsStruct inner entry text fields number new result =
    (ds : List (Option Data)) (es fresh : List (List ℕ × Data)) (k : List ℕ) (g : Field) → field_entries fields ds ≡ Some es → stringpairs inner entry es ≡ Some (T.text text) → AreNamesApart fields
    → field_named k fields ≡ Some g → number ≡ field_place k fields → field_entries fields (set_field k (option_map T.text new) fields ds) ≡ Some fresh → Tells (stringpairs inner entry fresh) result

-- ---- form by form

-- the delimiters of a form that has two are not empty
abbrev pub MapGiven : MapForm → Type 0
MapGiven M.Map = Unit {0}
MapGiven M.ListPairs = Unit {0}
MapGiven (M.StringPairs inner entry) = (0 < length inner) × (0 < length entry)
MapGiven (M.Hamt shape) = Unit {0}

abbrev pub StructGiven : StructForm → Type 0
StructGiven S.Map = Unit {0}
StructGiven S.Tuple = Unit {0}
StructGiven S.ListPairs = Unit {0}
StructGiven (S.StringPairs inner entry) = (0 < length inner) × (0 < length entry)
StructGiven (S.StringJoin delim) = Unit {0}

-- what is told of a map of such a form that stands as a text
abbrev pub TellsMapForm : MapForm → List ℕ → List ℕ → Option (List ℕ) → Result (Option (List ℕ)) AllocError → Type 0
TellsMapForm form text key new result =
    (es : List (List ℕ × Data)) → is_pairs_map form ≡ true → map_form alone form (L.map es) ≡ Some (T.text text)
    → Tells (map_form alone form (L.map (entries_with key (option_map T.text new) es))) result

-- and of a struct, where a field that goes is optional
abbrev pub TellsStructForm : StructDef → List ℕ → ℕ → Option (List ℕ) → Result (Option (List ℕ)) AllocError → Type 0
TellsStructForm def text number new result =
    (ds : List (Option Data)) (k : List ℕ) (g : Field) → is_pairs_struct def.form ≡ true → struct_form def.form def.fields ds ≡ Some (T.text text) → ClearStruct def.form def.fields
    → field_named k def.fields ≡ Some g → number ≡ field_place k def.fields → (new ≡ None → g.optional ≡ true)
    → Tells (struct_form def.form def.fields (set_field k (option_map T.text new) def.fields ds)) result
