-- The offset that is told of a refusal: where the item begins in which the refused piece stands, from the first byte of the item of
-- the whole on. There is one refusal at most, so that of each is the one that is told.
use Rattle.std.specs.Prelude.{◌≡◌, ◌&&◌, ◌+◌, ◌-◌, ◌^◌, ℕ, true, false, not, min, List}
use Rattle.ild_data.specs.Data.{Data}
use Rattle.ild_cbor.specs.declared.piece.Piece.{Piece}
use Rattle.ild_cbor.specs.declared.node.Node.{Node}
use Rattle.ild_cbor.specs.Nodes.{start_of}
use Rattle.ild_layer_places.specs.Places.{BeginsAt, PlacedAt}
use Rattle.ild_schema.specs.declared.number.Slot.{Slot}
use Rattle.ild_schema.specs.declared.row.Row.{Row}
use Rattle.ild_typed.specs.Refused.{Refusal, Refused}
use Rattle.ild_view_walk.specs.Checks.{is_depth}
use Rattle.ild_view_walk.specs.declared.fault.ViewErr.{ViewErr}
use Rattle.ild_view_walk.specs.declared.fault.ViewErr.TheVariants as E
use Rattle.ild_layer_parts.specs.declared.part.Part.{Part}

abbrev pub TellsPlaceIn : List Row → ℕ → Slot → Piece → Data → ViewErr → Type 0
TellsPlaceIn rows room s y t (E.Shape ty why at) = (r : Refusal) → Refused rows room s t r → PlacedAt y r.at at
TellsPlaceIn rows room s y t E.Memory = Unit {0}

-- the same in the block of an item
abbrev pub TellsPlace : List Row → ℕ → Slot → Node → Data → ViewErr → Type 0
TellsPlace rows room s n t (E.Shape ty why at) = (r : Refusal) → Refused rows room s t r → (place : ℕ) × BeginsAt r.at t place × (at ≡ start_of n + place)
TellsPlace rows room s n t E.Memory = Unit {0}

-- the offset of a part's refusal, where the part begins at a place: a key that is no text of its type is refused itself
abbrev pub IsPlacedBy : Part → ℕ → ViewErr → ViewErr → Type 0
IsPlacedBy x place (E.Shape ty why j) (E.Shape sort cause at) = ((x.is_key && not (is_depth why)) ≡ true → at ≡ place) × ((x.is_key && not (is_depth why)) ≡ false → at ≡ min (place + j) (2 ^ 64 - 1))
IsPlacedBy x place E.Memory E.Memory = Unit {0}
IsPlacedBy x place e f = ⊥
