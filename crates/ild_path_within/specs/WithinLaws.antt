-- The laws of paths in two pieces: what the first leads to, and what is done there by the second.
use Rattle.std.specs.Prelude.{◌≡◌, ℕ, ◌+◌, List, ◌∷◌, ◌++◌, length, Bool, Some, Ok, option_map, option_and_then}
use Rattle.ild_schema.specs.declared.row.Row.{Row}
use Rattle.ild_schema.specs.Value.{Value}
use Rattle.ild_typed.specs.At.{InSlot, at, met}
use Rattle.ild_path_edits.specs.Edit.{Edit, set_at, path_of, change}
use Rattle.ild_path_edits.specs.Stop.{place_fault}
use Rattle.ild_path_within.specs.Within.{with_part, with_result, moved}

-- a path leads where its second piece leads from the part at the end of its first
abbrev pub PathsSplit : Type 0
PathsSplit = (rows : List Row) (p : InSlot) (front behind : List (List ℕ)) → at rows p (front ++ behind) ≡ option_and_then (λ q. at rows q behind) (at rows p front)

-- an edit beneath a part makes of the whole what it makes of the part, set in the whole; it is refused where it is refused there
abbrev pub EditsSplit : Type 0
EditsSplit =
    (rows : List Row) (is_key : ℕ → List ℕ → Bool) (p q : InSlot) (e : Edit Value) (front : List (List ℕ)) (s : List ℕ) (ss : List (List ℕ))
    → at rows p front ≡ Some q → path_of e ≡ s ∷ ss → change rows is_key p (moved (front ++ path_of e) e) ≡ with_result rows p front (change rows is_key q e)

-- at the segment of the same place
abbrev pub FaultsSplit : Type 0
FaultsSplit =
    (rows : List Row) (p q : InSlot) (e : Edit Value) (front : List (List ℕ)) (s : List ℕ) (ss : List (List ℕ))
    → at rows p front ≡ Some q → path_of e ≡ s ∷ ss → place_fault rows p (moved (front ++ path_of e) e) ≡ option_map (λ k. length front + k) (place_fault rows q e)

-- a part that is there can be set, whatever is set there
abbrev pub PartsAreSet : Type 0
PartsAreSet =
    (rows : List Row) (is_key : ℕ → List ℕ → Bool) (p q : InSlot) (path : List (List ℕ)) (m : Value)
    → at rows p path ≡ Some q → change rows is_key p (set_at path m) ≡ Ok (with_part rows p path m)

-- a part of a part is set in the whole by setting it in the part
abbrev pub PartsOfParts : Type 0
PartsOfParts =
    (rows : List Row) (p q : InSlot) (front behind : List (List ℕ)) (m : Value)
    → at rows p front ≡ Some q → with_part rows p (front ++ behind) m ≡ with_part rows p front (with_part rows q behind m)

-- what is counted on the way of a path is counted on its pieces
abbrev pub WaysSplit : Type 0
WaysSplit =
    (rows : List Row) (count : InSlot → List ℕ → ℕ) (p q : InSlot) (front behind : List (List ℕ))
    → at rows p front ≡ Some q → met rows count p (front ++ behind) ≡ met rows count p front + met rows count q behind
