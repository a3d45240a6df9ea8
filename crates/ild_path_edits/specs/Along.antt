-- Judging a changed value along the path of its change: the new part by itself, and each enclosing form by a test of its own layer.
-- What else is in the value was judged before.
use Rattle.std.specs.Prelude.{◌≡◌, ℕ, ◌-◌, ◌≤◌, List, [], ◌∷◌, Bool, false, Option, Some, None}
use Rattle.std.specs.Option.{option_map_or}
use Rattle.ild_data.specs.Data as D
use Rattle.ild_data.specs.Data.{depth, items_of, members_of}
use Rattle.ild_schema.specs.declared.def.TypeDef.{TypeDef}
use Rattle.ild_schema.specs.declared.def.TypeDef.TheVariants as T
use Rattle.ild_schema.specs.declared.number.Slot.{Slot}
use Rattle.ild_schema.specs.declared.row.Row.{Row}
use Rattle.ild_schema.specs.Slots.{form_of}
use Rattle.ild_schema.specs.Value.{Value, null}
use Rattle.ild_script.specs.declared.reply.No.{No}
use Rattle.ild_script.specs.declared.reply.No.TheVariants as N
use Rattle.ild_typed.specs.Levels.{levels_of}
use Rattle.ild_typed.specs.Fits.{Fits}
use Rattle.ild_typed.specs.EachLayer.{some_layer}
use Rattle.ild_typed.specs.Holder.{Holder, any_entries, any_elements, nothing, value_of}
use Rattle.ild_typed.specs.Segment.{part, set_part}
use Rattle.ild_typed.specs.At.{InSlot, seen, changed_in}

-- a test of a part, if there is one
abbrev pub AtPart : Option InSlot → (InSlot → Type 0) → Type 0
AtPart None test = Unit {0}
AtPart (Some q) test = test q

-- The tests L of the enclosing forms, from the top down, and the judgement J of the last holder as f changes it. The index is what
-- is left to a form, such as the levels that it may nest, and `below` what it leaves to its parts.
abbrev pub Tests : List Row → (I : Type 0) → (I → InSlot → List ℕ → I) → (I → Slot → Value → Type 0)
    → (I → Slot → Holder → Type 0) → (Holder → List ℕ → Holder) → I → InSlot → List ℕ → List (List ℕ) → Type 0
Tests rows I below J L f i p s [] = J i p.0 (value_of (f (seen rows p) s))
Tests rows I below J L f i p s (t ∷ ss) =
    AtPart (part (seen rows p) s) (λ q. L i p.0 (set_part (seen rows p) s (changed_in rows f q t ss)) × Tests rows I below J L f (below i p s) q t ss)

-- ---- a test of layers, such as those for holes, for broken delimiters and for HAMTs without a trie

-- no layer of a value meets a test
abbrev pub IsFree : (Option TypeDef → Value → Bool) → List Row → Slot → Value → Type 0
IsFree test rows slot v = some_layer test rows slot v ≡ false

-- one holder doesn't: data inside an Any, and what has no parts, are not tested
abbrev pub LayerPasses : (Option TypeDef → Value → Bool) → List Row → Slot → Holder → Type 0
LayerPasses test rows slot (any_entries ms) = Unit {0}
LayerPasses test rows slot (any_elements ds) = Unit {0}
LayerPasses test rows slot (nothing v) = Unit {0}
LayerPasses test rows slot h = test (form_of rows slot) (value_of h) ≡ false

-- the same along a path: no enclosing form meets the test, and the last holder, as f changes it, is free of it
abbrev pub IsFreeAlong : (Option TypeDef → Value → Bool) → List Row → (Holder → List ℕ → Holder) → InSlot → List ℕ → List (List ℕ) → Type 0
IsFreeAlong test rows f p s ss = Tests rows (Unit {0}) (λ i p s. i) (λ i slot v. IsFree test rows slot v) (λ i slot h. LayerPasses test rows slot h) f tt p s ss

-- ---- the levels that are left

-- The levels that a form takes from the room of its parts; of data inside an Any one each.
abbrev pub taken : Option TypeDef → ℕ
taken None = 0
taken (Some T.Any) = 1
taken (Some d) = levels_of d null

abbrev pub room_below : List Row → ℕ → InSlot → List ℕ → ℕ
room_below rows room p s = room - taken (form_of rows p.0)

-- What a room leaves at the end of a path: each holder on it takes its levels, the one in which the last segment is sought too.
abbrev pub room_at : List Row → ℕ → InSlot → List (List ℕ) → ℕ
room_at rows room p [] = room
room_at rows room p (s ∷ ss) = option_map_or (λ q. room_at rows (room_below rows room p s) q ss) (part (seen rows p) s) (room_below rows room p s)

-- what is asked of an enclosing form: data inside an Any nest no deeper than the room
abbrev pub IsInRoom : ℕ → Slot → Holder → Type 0
IsInRoom room slot (any_entries ms) = depth (D.map (members_of ms)) ≤ room
IsInRoom room slot (any_elements ds) = depth (D.list (items_of ds)) ≤ room
IsInRoom room slot h = Unit {0}

-- along a path: the last holder, as f changes it, fits in the room that is left there
abbrev pub FitsAlong : List Row → ℕ → (Holder → List ℕ → Holder) → InSlot → List ℕ → List (List ℕ) → Type 0
FitsAlong rows room f p s ss = Tests rows ℕ (room_below rows) (λ i slot v. Fits rows i slot v) IsInRoom f room p s ss

-- ---- the first cause

-- the first that fails of three, in this order
abbrev pub IsFirst : Type 0 → Type 0 → Type 0 → Option No → Type 0
IsFirst A B C (Some N.Hole) = A → ⊥
IsFirst A B C (Some N.Delimiter) = A × (B → ⊥)
IsFirst A B C (Some N.Depth) = A × B × (C → ⊥)
IsFirst A B C (Some refusal) = ⊥
IsFirst A B C None = A × B × C
