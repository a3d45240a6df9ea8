-- The item in which the pieces of the parts that are found stand.
use Rattle.std.specs.Prelude.{◌≡◌, ℕ, Bool, true, false, IfSome, List, Option, Result, Ok, Err}
use Rattle.ild_cbor.specs.declared.piece.Piece.{Piece}
use Rattle.ild_schema.specs.declared.row.Row.{Row}
use Rattle.ild_view_walk.specs.declared.opening.Opening.{Opening}
use Rattle.ild_view_walk.specs.declared.opening.Stop.{Stop}
use Rattle.ild_layer_parts.specs.PassedOver.{AreInside}
use Rattle.ild_layer_parts.specs.declared.parts.Parts.{Parts}
use Rattle.ild_layer_parts.specs.declared.parts.Parts.TheVariants as P

-- what is found of such a piece
abbrev pub IsOpenInside : List Row → ℕ → Piece → Result (Option Opening) Stop → Type 0
IsOpenInside rows ty y (Ok o) = IfSome o (λ x. AreInside rows ty y x.parts)
IsOpenInside rows ty y (Err stop) = Unit {0}

-- there is more than the member of a union
abbrev pub is_many : Parts → Bool
is_many (P.Member x) = false
is_many P.Nothing = false
is_many parts = true

abbrev pub OpensMany : Result (Option Opening) Stop → Type 0
OpensMany (Ok o) = IfSome o (λ x. is_many x.parts ≡ true)
OpensMany (Err stop) = Unit {0}
