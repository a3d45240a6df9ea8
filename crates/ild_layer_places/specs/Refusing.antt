-- The place of a refusal in that of the part that is refused.
use Rattle.std.specs.Prelude.{◌≡◌, ◌+◌, ℕ, Bool, true, false, List, [], ◌∷◌, ◌++◌, Some}
use Rattle.ild_cbor.specs.declared.node.Node.{Node}
use Rattle.ild_cbor.specs.declared.piece.Piece.{Piece}
use Rattle.ild_cbor.specs.declared.piece.Piece.TheVariants as P
use Rattle.ild_data.specs.Data.{Data}
use Rattle.ild_data.specs.Tree.{IsTree}
use Rattle.ild_layer_piece.specs.Pieces.{StandsFor}
use Rattle.ild_schema.specs.Slots.{form_of}
use Rattle.ild_schema.specs.declared.def.StructDef.{StructDef}
use Rattle.ild_schema.specs.declared.def.TypeDef.{TypeDef}
use Rattle.ild_schema.specs.declared.def.TypeDef.TheVariants as D
use Rattle.ild_schema.specs.declared.number.Slot.{Slot}
use Rattle.ild_schema.specs.declared.row.Row.{Row}
use Rattle.ild_typed.specs.Refused.{AreParts, Refusal, Refused}
use Rattle.ild_typed.specs.Schema.{IsSchema}
use Rattle.ild_typed.specs.Spots.{Spot}
use Rattle.ild_layer_places.specs.Ending.{has_inline}
use Rattle.ild_layer_places.specs.Places.{LeadsIn, PlacedAt}

abbrev pub is_struct : TypeDef → Bool
is_struct (D.Struct st) = true
is_struct d = false

-- an item is no member of an inline union, where the whole is an item
abbrev pub IsNoInline : Piece → TypeDef → Spot → Type 0
IsNoInline (P.Node n) d p = is_struct d ≡ false → p.at ≡ [] → has_inline d ≡ true → ⊥
IsNoInline y d p = Unit {0}

-- what is asked of the piece of a part: an entry is passed over exactly for the member of an inline union, in the same item
abbrev pub IsInside : Piece → Piece → TypeDef → Data → Spot → Type 0
IsInside y (P.Node m) d t p = IsNoInline y d p
IsInside y (P.Inline m u) d t p = (p.at ≡ []) × (y ≡ P.Node m)
IsInside y (P.Text s) d t p = Unit {0}
IsInside y (P.Bytes s) d t p = Unit {0}

-- an entry is passed over in a struct alone
abbrev pub IsPassing : Piece → TypeDef → Type 0
IsPassing y d = (n : Node) (u : ℕ) → y ≡ P.Inline n u → (st : StructDef) × (d ≡ D.Struct st)

-- the way of a part leads to an item in that of the piece, and what is refused in the part stands so much further on
pub record IsPartPlaced (rows : List Row) (y x : Piece) (p : Spot) : Type 0 where
  pub leads : LeadsIn y p.at
  pub further : (room : ℕ) (q : Refusal) (k j : ℕ) → Refused rows room p.slot p.tree q → PlacedAt y p.at k → PlacedAt x q.at j → PlacedAt y (p.at ++ q.at) (k + j)

abbrev pub RefusalsArePlaced : Type 0
RefusalsArePlaced =
    (rows : List Row) → IsSchema rows → (y x : Piece) (s : Slot) (d : TypeDef) (t : Data) → form_of rows s ≡ Some d → StandsFor rows y t → IsTree t → IsPassing y d
    → (done : List Spot) (p : Spot) (others : List Spot) → AreParts d t (done ++ p ∷ others) → StandsFor rows x p.tree → IsInside y x d t p → IsPartPlaced rows y x p
