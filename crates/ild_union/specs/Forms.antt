-- The types whose layers are read here, copies followed, and the pieces of which they are read.
use Rattle.std.specs.Prelude.{◌≡◌, ◌||◌, ℕ, Bool, true, false, is_some, List, None}
use Rattle.std.specs.Option.{option_map_or}
use Rattle.ild_cbor.specs.declared.node.Node.{Node}
use Rattle.ild_cbor.specs.declared.piece.Piece.{Piece}
use Rattle.ild_cbor.specs.declared.piece.Piece.TheVariants as P
use Rattle.ild_schema.specs.declared.def.TypeDef.{TypeDef}
use Rattle.ild_schema.specs.declared.def.TypeDef.TheVariants as D
use Rattle.ild_schema.specs.declared.row.Row.{Row}
use Rattle.ild_schema.specs.Kinds.{meant}
use Rattle.ild_layer_piece.specs.Pieces.{passed_key}

abbrev pub is_union : TypeDef → Bool
is_union (D.Union u) = true
is_union d = false

abbrev pub IsUnionType : List Row → ℕ → Type 0
IsUnionType rows ty = option_map_or is_union (meant rows ty) false ≡ true

-- an entry of the map is passed over
abbrev pub passes_over : Piece → Bool
passes_over (P.Inline n u) = true
passes_over p = false

-- two discriminants that stand inline aren't passed over at once: a member of such a union is a struct
abbrev pub IsPassedOnce : List Row → ℕ → Piece → Type 0
IsPassedOnce rows ty piece = passes_over piece ≡ true → passed_key rows ty ≡ None

-- an entry of the member's map is passed over only where the union's discriminant stands inline, or one was before
abbrev pub IsPassedBy : List Row → ℕ → Piece → Piece → Type 0
IsPassedBy rows ty piece part = passes_over part ≡ true → (is_some (passed_key rows ty) || passes_over piece) ≡ true

-- where the discriminant stands inline, a whole item is read, and the member is this item without the discriminant
abbrev pub IsInlineOf : List Row → ℕ → Piece → Piece → Type 0
IsInlineOf rows ty piece part = is_some (passed_key rows ty) ≡ true → (n : Node) × (piece ≡ P.Node n) × (part ≡ P.Inline n ty)
