-- The laws of paths.
use Rattle.std.specs.Prelude.{◌≡◌, ◌↔◌, ◌<◌, ◌^◌, ℕ, List, Some, decimal}
use Rattle.ild_schema.specs.declared.row.Row.{Row}
use Rattle.ild_typed.specs.At.{InSlot, at, reached, here}
use Rattle.ild_typed.specs.Segment.{index_of}

-- a path leads to a part exactly where it leads to that part with no root to be entered on the way
abbrev pub ReachesParts : Type 0
ReachesParts = (rows : List Row) (k : ℕ) (p q : InSlot) (path : List (List ℕ)) → (reached rows k p path ≡ here q) ↔ (at rows p path ≡ Some q)

-- a segment is an index exactly where it is the decimal of one
abbrev pub IndicesAreDecimals : Type 0
IndicesAreDecimals = (s : List ℕ) (i : ℕ) → (index_of s ≡ Some i → s ≡ decimal i) × (i < 2 ^ 64 → s ≡ decimal i → index_of s ≡ Some i)
