-- Where the parts of a struct are looked up, by the form of the struct (IPLD Schemas, "Struct Representation Strategies").
use Rattle.std.specs.Prelude.{◌≡◌, ℕ, suc, ◌≤◌, List, length, Some}
use Rattle.ild_data.specs.Data as T
use Rattle.ild_data.specs.Data.{Data, Items}
use Rattle.ild_cbor.specs.Nodes.{HasData}
use Rattle.ild_cbor.specs.Steps.{HasItems}
use Rattle.ild_cbor.specs.declared.piece.Piece.{Piece}
use Rattle.ild_cbor.specs.declared.piece.Piece.TheVariants as P
use Rattle.ild_schema.specs.declared.def.StructForm.{StructForm}
use Rattle.ild_schema.specs.declared.def.StructForm.TheVariants as S
use Rattle.ild_schema.specs.declared.row.Row.{Row}
use Rattle.ild_text.specs.Parts.{parts, pairs_in}
use Rattle.ild_typed.specs.Named.{split_entries}
use Rattle.ild_typed.specs.Cuts.{parted}
use Rattle.ild_layer_piece.specs.Pieces.{StandsFor}
use Rattle.ild_layer_fields.specs.Entries.{text_entries}
use Rattle.ild_struct.specs.declared.source.Source.{Source}
use Rattle.ild_struct.specs.declared.source.Source.TheVariants as R

-- how many types a table has that has the union whose discriminant is passed over
abbrev pub types_of : Piece → ℕ
types_of (P.Inline n u) = suc u
types_of p = 0

abbrev pub types_in : Source → ℕ
types_in (R.Map p) = types_of p
types_in source = 0

-- the union is in the table
abbrev pub IsSourced : List Row → Source → Type 0
IsSourced rows source = types_in source ≤ length rows

-- the data there, in each form
abbrev pub FormShows : List Row → StructForm → Source → Data → Type 0
FormShows rows S.Map (R.Map p) t = StandsFor rows p t
FormShows rows S.Tuple (R.Tuple n) t = HasData n t
FormShows rows S.ListPairs (R.ListPairs s) t = (ds : Items) × (t ≡ T.list ds) × HasItems s ds
FormShows rows (S.StringPairs inner entry) (R.StringPairs split) t = split_entries inner entry t ≡ Some (text_entries (pairs_in split))
FormShows rows (S.StringJoin delim) (R.StringJoin split) t = (s : List ℕ) × (t ≡ T.text s) × (parted delim s ≡ parts split)
FormShows rows form source t = ⊥
