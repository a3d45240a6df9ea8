-- Parts of which a kind tells that they are values, and what is left behind them.
use Rattle.std.specs.Prelude.{◌≡◌, ◌++◌, ℕ, List, [], ◌∷◌, map, Option, Some, None, slice_get}
use Rattle.std.specs.List.{AllByRecursion}
use Rattle.ild_data.specs.Data.{Data, Items, item, items_of}
use Rattle.ild_data.specs.Tree.{IsTree}
use Rattle.ild_cbor.specs.declared.items.Items.{Items as ItemsLeft}
use Rattle.ild_cbor.specs.declared.kind.Kind.{Kind}
use Rattle.ild_cbor.specs.Scalar.{kind_of}
use Rattle.ild_cbor.specs.Steps.{HasItems}
use Rattle.ild_layer_piece.specs.declared.walk.MapEntries.{MapEntries}
use Rattle.ild_layer_piece.specs.Entries.{HasLeft}
use Rattle.ild_schema.specs.declared.def.Field.{Field}
use Rattle.ild_schema.specs.declared.number.Slot.{Slot}
use Rattle.ild_schema.specs.declared.row.Row.{Row}
use Rattle.ild_typed.specs.Fits.{Fits}
use Rattle.ild_typed.specs.Layers.{RepresentsSome}
use Rattle.ild_typed.specs.Spots.{Spot, value_spot}
use Rattle.ild_typed.specs.Strings.{pair_data}
use Rattle.ild_layer_parts.specs.Part.{FitsAnywhere}

-- all data of the kind are values of the slot
abbrev pub FitsOfKind : List Row → Slot → Kind → Type 0
FitsOfKind rows s k = (t : Data) → kind_of t ≡ k → IsTree t → (room : ℕ) → RepresentsSome (Fits rows room) rows s t

-- some spots are passed over, whose data are values, and the others are left
pub record PassesOver (rows : List Row) (ps : List Spot) (Left : List Spot → Type 0) : Type 0 where
  pub taken : List Spot
  pub others : List Spot
  pub is : ps ≡ taken ++ others
  pub fit : AllByRecursion (FitsAnywhere rows) taken
  pub left : Left others

-- behind the first item, which has a kind
pub record IsBehindItem (k : Kind) (ds : Items) (t : ItemsLeft) : Type 0 where
  pub first : Data
  pub rest : Items
  pub is : ds ≡ item first rest
  pub kind : kind_of first ≡ k
  pub left : HasItems t rest

abbrev pub BehindItem : Kind → Items → Option ItemsLeft → Type 0
BehindItem k ds None = Unit {0}
BehindItem k ds (Some t) = IsBehindItem k ds t

-- behind the first entry, whose value has a kind
pub record IsBehindEntry (k : Kind) (es : List (List ℕ × Data)) (t : MapEntries) : Type 0 where
  pub key : List ℕ
  pub first : Data
  pub rest : List (List ℕ × Data)
  pub is : es ≡ (key, first) ∷ rest
  pub kind : kind_of first ≡ k
  pub left : HasLeft t rest

abbrev pub BehindEntry : Kind → List (List ℕ × Data) → Option MapEntries → Type 0
BehindEntry k es None = Unit {0}
BehindEntry k es (Some t) = IsBehindEntry k es t

-- behind the first pair, whose value has a kind
pub record IsBehindPair (k : Kind) (es : List (List ℕ × Data)) (t : ItemsLeft) : Type 0 where
  pub key : List ℕ
  pub first : Data
  pub rest : List (List ℕ × Data)
  pub is : es ≡ (key, first) ∷ rest
  pub kind : kind_of first ≡ k
  pub left : HasItems t (items_of (map pair_data rest))

abbrev pub BehindPair : Kind → List (List ℕ × Data) → Option ItemsLeft → Type 0
BehindPair k es None = Unit {0}
BehindPair k es (Some t) = IsBehindPair k es t

-- a field with these data: they are a value in every room
abbrev pub IsFitAt : List Row → List Field → ℕ → Data → Type 0
IsFitAt rows fs i d = (f : Field) → slice_get fs i ≡ Some f → FitsAnywhere rows (value_spot f.slot d [])
