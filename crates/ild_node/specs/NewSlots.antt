-- The slots of a node that is written.
use Rattle.std.specs.Prelude.{◌<◌, ◌≤◌, ℕ, zero, suc, ◌+◌, ◌^◌, ◌==◌, if◌then◌else◌, Bool, false, List, [], ◌∷◌, length, slice_index_or, slice_set, Option, Some, None}
use Rattle.ild_data.specs.Trie.{TrieSlot, empty, bucket, child, is_used}
use Rattle.ild_data.specs.declared.hamt_shape.HamtShape.{HamtShape}
use Rattle.ild_node.specs.declared.hold.NewHold.{NewHold}
use Rattle.ild_node.specs.declared.hold.NewHold.TheVariants as N
use Rattle.ild_node.specs.declared.hold.NewSlot.{NewSlot}

abbrev pub hold_seen : NewHold → TrieSlot
hold_seen (N.Child id) = child id.0
hold_seen (N.Bucket rows) = bucket rows

-- where each index has a slot, used or not
abbrev pub slot_seen : Option NewHold → TrieSlot
slot_seen None = empty
slot_seen (Some h) = hold_seen h

-- the slots of a node of which one is exchanged
abbrev pub with_slot : List TrieSlot → ℕ → Option NewHold → List TrieSlot
with_slot slots i new = slice_set slots i (slot_seen new)

-- whether a slot is used, where slot i is exchanged for another
abbrev pub is_used_with : List TrieSlot → ℕ → TrieSlot → ℕ → Bool
is_used_with slots i s j = is_used (slice_index_or (slice_set slots i s) j empty)

-- where only the used slots are given: those of so many indices from one on
abbrev pub spread : ℕ → ℕ → List NewSlot → List TrieSlot
spread i zero ss = []
spread i (suc n) [] = empty ∷ spread (i + 1) n []
spread i (suc n) (s ∷ ss) = if s.index == i then hold_seen s.hold ∷ spread (i + 1) n ss else empty ∷ spread (i + 1) n (s ∷ ss)

abbrev pub slots_seen : HamtShape → List NewSlot → List TrieSlot
slots_seen p ss = spread 0 (2 ^ p.width) ss

-- whether the first of some new slots has an index
abbrev pub is_next : ℕ → List NewSlot → Bool
is_next i [] = false
is_next i (s ∷ ss) = s.index == i

-- the indices rise from one on, and are those of a node
abbrev pub IndicesRise : HamtShape → ℕ → List NewSlot → Type 0
IndicesRise p from [] = Unit {0}
IndicesRise p from (s ∷ ss) = (from ≤ s.index) × (s.index < 2 ^ p.width) × IndicesRise p (s.index + 1) ss

-- a bucket has from 1 to the shape's most entries
abbrev pub IsFilled : HamtShape → NewHold → Type 0
IsFilled p (N.Child id) = Unit {0}
IsFilled p (N.Bucket rows) = (1 ≤ length rows) × (length rows ≤ p.bucket)

abbrev pub IsFilledSlot : HamtShape → Option NewHold → Type 0
IsFilledSlot p None = Unit {0}
IsFilledSlot p (Some h) = IsFilled p h
