-- The steps along a path: from each holder to that of the next segment, and what they do to the change of the last holder.
use Rattle.std.specs.Prelude.{◌≡◌, ℕ, Bool, true, false, List, [], ◌∷◌, Option, Some, option_and_then}
use Rattle.std.specs.Option.{option_map_or}
use Rattle.ild_splice_changes.specs.TreeChange.{Located}
use Rattle.ild_data.specs.Data.{Data}
use Rattle.ild_path_changes.specs.Lift.{lift, lifted}
use Rattle.ild_schema.specs.Value.{Value}
use Rattle.ild_schema.specs.declared.row.Row.{Row}
use Rattle.ild_path_steps.specs.Steps.{LeadsTo, carried, carried_along}
use Rattle.ild_path_steps.specs.declared.steps.PartSteps.{PartSteps}
use Rattle.ild_typed.specs.At.{InSlot, changed_in, seen}
use Rattle.ild_typed.specs.Hamt.{alone}
use Rattle.ild_typed.specs.Holder.{Holder, any_elements, any_entries, elements, entries, fields, member, nothing, value_of}
use Rattle.ild_typed.specs.Represented.{represented}
use Rattle.ild_typed.specs.Segment.{part, set_part}

-- what has parts, or may be given some
abbrev pub is_holder : Holder → Bool
is_holder (fields fs os) = true
is_holder (member ms n v) = true
is_holder (entries key slot paired ps) = true
is_holder (elements slot vs) = true
is_holder (any_entries ms) = true
is_holder (any_elements ds) = true
is_holder (nothing v) = false

-- where the last segment is sought
abbrev pub holder_at : List Row → InSlot → List ℕ → List (List ℕ) → Option InSlot
holder_at rows p s [] = Some p
holder_at rows p s (t ∷ ss) = option_and_then (λ q. holder_at rows q t ss) (part (seen rows p) s)

-- the steps from a holder to another that is its part: where its data stand, and what they do to a change, whatever it becomes
pub record StepsIn (rows : List Row) (p : InSlot) (s : List ℕ) (q : InSlot) (steps : PartSteps) : Type 0 where
  pub held : Data
  pub holds : represented alone rows q.0 q.1 ≡ Some held
  pub leads : (t : Data) → represented alone rows p.0 p.1 ≡ Some t → LeadsTo steps t held
  pub each : (c : Value) (x : Data) (e : Located) → represented alone rows q.0 c ≡ Some x
      → lift alone rows p s c e ≡ carried steps (represented alone rows p.0 (value_of (set_part (seen rows p) s c))) e

-- from each holder on a path to the next
abbrev pub LeadAlong : List Row → InSlot → List ℕ → List (List ℕ) → List PartSteps → Type 0
LeadAlong rows p s [] [] = Unit {0}
LeadAlong rows p s [] (o ∷ os) = ⊥
LeadAlong rows p s (t ∷ ss) [] = ⊥
LeadAlong rows p s (t ∷ ss) (o ∷ os) = (q : InSlot) × (part (seen rows p) s ≡ Some q) × StepsIn rows p s q o × LeadAlong rows q t ss os

-- the last segment of a path
abbrev pub last_of : List ℕ → List (List ℕ) → List ℕ
last_of s [] = s
last_of s (t ∷ ss) = last_of t ss

-- ---- what they do to a change of the last holder

-- the data that each holder becomes but the last
abbrev pub become : List Row → (Holder → List ℕ → Holder) → InSlot → List ℕ → List (List ℕ) → List (Option Data)
become rows f p s [] = []
become rows f p s (t ∷ ss) = represented alone rows p.0 (changed_in rows f p s (t ∷ ss)) ∷ option_map_or (λ q. become rows f q t ss) (part (seen rows p) s) []

-- what each holder but the first becomes has data
abbrev pub AreRepresented : List Row → (Holder → List ℕ → Holder) → InSlot → List ℕ → List (List ℕ) → Type 0
AreRepresented rows f p s [] = Unit {0}
AreRepresented rows f p s (t ∷ ss) = (q : InSlot) → part (seen rows p) s ≡ Some q → ((x : Data) × (represented alone rows q.0 (changed_in rows f q t ss) ≡ Some x)) × AreRepresented rows f q t ss

abbrev pub AlongIsLifted : Type 0
AlongIsLifted = (rows : List Row) (f : Holder → List ℕ → Holder) (last : InSlot → Located) (p l : InSlot) (s : List ℕ) (ss : List (List ℕ)) (steps : List PartSteps)
    → LeadAlong rows p s ss steps → holder_at rows p s ss ≡ Some l → AreRepresented rows f p s ss
    → lifted rows (lift alone rows) f last p s ss ≡ carried_along steps (become rows f p s ss) (last l)
