-- The steps of a way, and the item to which they lead.
use Rattle.std.specs.Prelude.{◌≡◌, ◌≤◌, ◌⊎◌, ◌+◌, ℕ, List, [], ◌∷◌, ◌++◌, Option, Some, None}
use Rattle.ild_cbor.specs.Nodes.{HasData, start_of}
use Rattle.ild_cbor.specs.declared.node.Node.{Node}
use Rattle.ild_cbor.specs.declared.piece.Piece.{Piece}
use Rattle.ild_cbor.specs.declared.piece.Piece.TheVariants as P
use Rattle.ild_data.specs.Data.{Data}
use Rattle.ild_data.specs.Limits.{longest_block}
use Rattle.ild_layer_places.specs.Ending.{Ends, EndsBelow, IsPlain}
use Rattle.ild_layer_places.specs.declared.way.Way.{Way}
use Rattle.ild_layer_places.specs.declared.way.Way.TheVariants as W
use Rattle.ild_typed.specs.RootSpots.{in_node}
use Rattle.ild_typed.specs.Spots.{Step, item, key, under}
use Rattle.ild_typed.specs.WayLaws.{Leads}
use Rattle.ild_typed.specs.Ways.{found_at}
use Rattle.ild_layer_piece.specs.Pieces.{StandsFor}
use Rattle.ild_schema.specs.declared.row.Row.{Row}

abbrev pub steps_of : Way → List Step
steps_of W.Here = []
steps_of (W.Item n) = item n ∷ []
steps_of (W.Within n m) = item n ∷ item m ∷ []
steps_of (W.Key k) = key k.now ∷ []
steps_of (W.Under k) = under k.now ∷ []
steps_of (W.KeyInNode n i) = in_node n i 0
steps_of (W.ValueInNode n i) = in_node n i 1

-- a node stands for these data, so many bytes behind the first of another
abbrev pub IsFound : Node → ℕ → Data → Option Node → Type 0
IsFound n p d (Some m) = HasData m d × (start_of m ≡ start_of n + p)
IsFound n p d None = ⊥

-- what a way finds was found
abbrev pub WayFinds : Node → Data → List Step → Option Node → Type 0
WayFinds n w way r = (p : ℕ) (d : Data) → found_at way w ≡ Some (p, d) → IsFound n p d r

-- the item at the end of a way begins so many bytes behind the first of the data's spelling
abbrev pub BeginsAt : List Step → Data → ℕ → Type 0
BeginsAt way t n = (d : Data) × (found_at way t ≡ Some (n, d))

-- the same in the item in which a piece stands: a part of a text or of bytes has no items in it
abbrev pub PlacedAt : Piece → List Step → ℕ → Type 0
PlacedAt (P.Node n) way k = (w : Data) → HasData n w → BeginsAt way w k
PlacedAt (P.Inline n u) way k = (w : Data) → HasData n w → BeginsAt way w k
PlacedAt (P.Text s) way k = (way ≡ []) × (k ≡ 0)
PlacedAt (P.Bytes s) way k = (way ≡ []) × (k ≡ 0)

-- the way ends at these data in the item of a piece
abbrev pub EndsIn : Piece → List Step → Data → Type 0
EndsIn (P.Node n) way d = (w : Data) → HasData n w → Ends way w d
EndsIn (P.Inline n u) way d = (w : Data) → HasData n w → Ends way w d
EndsIn (P.Text s) way d = ⊥
EndsIn (P.Bytes s) way d = ⊥

-- a part of a piece: a text or bytes stand anywhere; an item stands at the end of its way, or has no parts; and the member of an
-- inline union is the same item
abbrev pub IsOnto : Piece → List Step → Piece → Data → Type 0
IsOnto y way (P.Text s) d = Unit {0}
IsOnto y way (P.Bytes s) d = Unit {0}
IsOnto y way (P.Node m) d = IsPlain d ⊎ EndsIn y way d
IsOnto y way (P.Inline m u) d = (way ≡ []) × (y ≡ P.Node m)

-- a way leads to an item in that of a piece
abbrev pub LeadsIn : Piece → List Step → Type 0
LeadsIn (P.Node n) way = (w : Data) → HasData n w → Leads way w
LeadsIn (P.Inline n u) way = (w : Data) → HasData n w → Leads way w
LeadsIn (P.Text s) way = way ≡ []
LeadsIn (P.Bytes s) way = way ≡ []

-- the place of what is refused in a part is that of the part, and its place in the part
abbrev pub PartsArePlaced : Type 0
PartsArePlaced =
    (rows : List Row) (y x : Piece) (t d : Data) (at way : List Step) (k j : ℕ) → StandsFor rows y t → StandsFor rows x d → Leads way d
    → PlacedAt y at k → IsOnto y at x d → PlacedAt x way j → PlacedAt y (at ++ way) (k + j)

-- so much is known of a part by itself
abbrev pub IsFree : Piece → Piece → List Step → Data → Data → Type 0
IsFree y (P.Node m) way t d = IsPlain d ⊎ (EndsBelow way t d ⊎ (Ends way t d × ((n : Node) × (y ≡ P.Node n))))
IsFree y (P.Inline m u) way t d = (way ≡ []) × (y ≡ P.Node m)
IsFree y (P.Text s) way t d = Unit {0}
IsFree y (P.Bytes s) way t d = Unit {0}

-- a part of a piece stands there as its way says
pub record IsSet (y x : Piece) (way : List Step) (d : Data) : Type 0 where
  pub leads : LeadsIn y way
  pub onto : IsOnto y way x d

abbrev pub PartsAreOnto : Type 0
PartsAreOnto =
    (rows : List Row) (y x : Piece) (t d : Data) (way : List Step) → StandsFor rows y t → Leads way t → IsFree y x way t d → IsSet y x way d

-- an offset in a piece is short
abbrev pub PlacesAreShort : Type 0
PlacesAreShort = (rows : List Row) (y : Piece) (t : Data) (way : List Step) (n : ℕ) → StandsFor rows y t → PlacedAt y way n → n ≤ longest_block
