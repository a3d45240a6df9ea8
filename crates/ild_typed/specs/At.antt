-- Paths into a value: the part to which the segments lead, one step after another, and the value with its last holder changed.
use Rattle.std.specs.Prelude.{◌≡◌, ◌≢◌, ◌⊎◌, ℕ, suc, ◌+◌, List, [], ◌∷◌, Option, Some, option_and_then}
use Rattle.std.specs.Option.{option_map_or}
use Rattle.ild_schema.specs.declared.number.Slot.{Slot}
use Rattle.ild_schema.specs.declared.row.Row.{Row}
use Rattle.ild_schema.specs.Value.{Value, hamt}
use Rattle.ild_typed.specs.Holder.{Holder, holder_of, value_of}
use Rattle.ild_typed.specs.Segment.{part, set_part}

-- a value in its slot
abbrev pub InSlot : Type 0
InSlot = Slot × Value

abbrev pub seen : List Row → InSlot → Holder
seen rows p = holder_of rows p.0 p.1

-- the part to which a path leads, with its slot
abbrev pub at : List Row → InSlot → List (List ℕ) → Option InSlot
at rows p [] = Some p
at rows p (s ∷ ss) = option_and_then (λ q. at rows q ss) (part (seen rows p) s)

-- The same where of a HAMT the root alone may be known: a path leads to a part, or to a root that has to be entered, with the number
-- of the segment that is its key, or from a segment on nowhere. Segments are counted from k on.
pub data Reach : Type 0 where
  here : InSlot → Reach
  enter : InSlot → ℕ → Reach
  no_path : ℕ → Reach

abbrev pub or_enter : ℕ → Slot → Value → Reach
or_enter k slot (hamt d) = enter (slot, hamt d) k
or_enter k slot v = no_path k

abbrev pub reached : List Row → ℕ → InSlot → List (List ℕ) → Reach
reached rows k p [] = here p
reached rows k p (s ∷ ss) = option_map_or (λ q. reached rows (suc k) q ss) (part (seen rows p) s) (or_enter k p.0 p.1)

-- the holder in which the last of the segments is sought, and that segment
abbrev pub last_holder : List Row → InSlot → List ℕ → List (List ℕ) → Option (Holder × List ℕ)
last_holder rows p s [] = Some (seen rows p, s)
last_holder rows p s (t ∷ ss) = option_and_then (λ q. last_holder rows q t ss) (part (seen rows p) s)

-- the value in which f changes the last holder, and all else is as it was
abbrev pub changed_in : List Row → (Holder → List ℕ → Holder) → InSlot → List ℕ → List (List ℕ) → Value
changed_in rows f p s [] = value_of (f (seen rows p) s)
changed_in rows f p s (t ∷ ss) = option_map_or (λ q. value_of (set_part (seen rows p) s (changed_in rows f q t ss))) (part (seen rows p) s) p.1

-- neither path begins the other
abbrev pub Apart : List (List ℕ) → List (List ℕ) → Type 0
Apart [] q = ⊥
Apart (s ∷ p) [] = ⊥
Apart (s ∷ p) (t ∷ q) = (s ≢ t) ⊎ ((s ≡ t) × Apart p q)

-- The way of a path: what each holder counts for the segment that is sought in it, as far as the path leads. A HAMT counts the
-- nodes beneath its root that lie on the segment's hash, and all else counts none; the root block counts one.
abbrev pub met : List Row → (InSlot → List ℕ → ℕ) → InSlot → List (List ℕ) → ℕ
met rows count p [] = 0
met rows count p (s ∷ ss) = count p s + option_map_or (λ q. met rows count q ss) (part (seen rows p) s) 0

abbrev pub way : List Row → (InSlot → List ℕ → ℕ) → InSlot → List (List ℕ) → ℕ
way rows count p path = 1 + met rows count p path
