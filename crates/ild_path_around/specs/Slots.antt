-- The slot of the part that an edit brings is told at the value behind a path, and in one block by the front of that.
use Rattle.std.specs.Prelude.{◌≡◌, ℕ, Bool, true, List, ◌∷◌, ◌++◌, Some}
use Rattle.ild_path_edits.specs.Edit.{Edit, new_slot, path_of}
use Rattle.ild_path_within.specs.Within.{moved}
use Rattle.ild_schema.specs.Value.{Value}
use Rattle.ild_schema.specs.declared.row.Row.{Row}
use Rattle.ild_typed.specs.At.{InSlot, at}
use Rattle.ild_typed.specs.OfType.{OfType, TestsKeys}
use Rattle.ild_typed.specs.Schema.{IsSchema}
use Rattle.ild_typed_fronts.specs.Front.{front_in, in_one_block}

abbrev pub SlotsBehind : Type 0
SlotsBehind =
    (rows : List Row) (p q : InSlot) (front : List (List ℕ)) (e : Edit Value) (s : List ℕ) (ss : List (List ℕ))
    → at rows p front ≡ Some q → path_of e ≡ s ∷ ss → new_slot rows p (moved (front ++ path_of e) e) ≡ new_slot rows q e

abbrev pub SlotsOfFronts : Type 0
SlotsOfFronts =
    (h : List ℕ → List ℕ) (rows : List Row) (is_key : ℕ → List ℕ → Bool) → IsSchema rows → TestsKeys rows is_key → (p : InSlot) (e : Edit Value) (s : List ℕ) (ss : List (List ℕ))
    → OfType rows p.0 p.1 → in_one_block rows p (s ∷ ss) ≡ true → path_of e ≡ s ∷ ss → new_slot rows (front_in h rows p) e ≡ new_slot rows p e
