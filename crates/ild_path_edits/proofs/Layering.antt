-- Judgements by layers.
use Rattle.std.specs.Prelude.{◌≡◌, ◌↔◌, ℕ, List, Bool, Some}
use Rattle.ild_schema.specs.declared.number.Slot.{Slot}
use Rattle.ild_schema.specs.declared.row.Row.{Row}
use Rattle.ild_schema.specs.Value.{Value}
use Rattle.ild_typed.specs.Holder.{Holder, value_of}
use Rattle.ild_typed.specs.Segment.{part, set_part}
use Rattle.ild_typed.specs.At.{InSlot, seen, last_holder, changed_in}
use Rattle.ild_path_edits.specs.Along.{Tests}
use Rattle.ild_path_edits.proofs.Kept.{IsKept}

-- J is a judgement of values that goes by layers: L tests one holder, and the parts are judged by what is below it
pub record IsLayered (rows : List Row) (P : Slot → Value → Type 0) (I : Type 0) (below : I → InSlot → List ℕ → I) (J : I → Slot → Value → Type 0) (L : I → Slot → Holder → Type 0) : Type 0 where
  pub own : (i : I) (p : InSlot) → P p.0 p.1 → J i p.0 p.1 → L i p.0 (seen rows p)
  pub parts : (i : I) (p q : InSlot) (s : List ℕ) → P p.0 p.1 → J i p.0 p.1 → part (seen rows p) s ≡ Some q → J (below i p s) q.0 q.1
  -- a part that is replaced leaves to the parts what was left to them
  pub steady : (i : I) (p q : InSlot) (s : List ℕ) (c : Value) → P p.0 p.1 → part (seen rows p) s ≡ Some q → P q.0 c → below i (p.0, value_of (set_part (seen rows p) s c)) s ≡ below i p s
  pub whole : (i : I) (p q : InSlot) (s : List ℕ) (c : Value) → P p.0 p.1 → J i p.0 p.1 → part (seen rows p) s ≡ Some q → P q.0 c
      → L i p.0 (set_part (seen rows p) s c) → J (below i p s) q.0 c → J i p.0 (value_of (set_part (seen rows p) s c))

-- The changed value is judged by these tests alone.
abbrev pub JudgedByTests : Type 1
JudgedByTests = (rows : List Row) (is_key : ℕ → List ℕ → Bool) (P : Slot → Value → Type 0) → IsKept rows is_key P
    → (I : Type 0) (below : I → InSlot → List ℕ → I) (J : I → Slot → Value → Type 0) (L : I → Slot → Holder → Type 0) → IsLayered rows P I below J L
    → (f : Holder → List ℕ → Holder) (l : Holder × List ℕ) → ((q : InSlot) → P q.0 q.1 → seen rows q ≡ l.0 → P q.0 (value_of (f l.0 l.1)))
    → (i : I) (p : InSlot) (s : List ℕ) (ss : List (List ℕ)) → P p.0 p.1 → J i p.0 p.1 → last_holder rows p s ss ≡ Some l
    → J i p.0 (changed_in rows f p s ss) ↔ Tests rows I below J L f i p s ss

-- Where the part is there, the last holder too is judged by its own test and the new part.
abbrev pub JudgedByPart : Type 1
JudgedByPart = (rows : List Row) (is_key : ℕ → List ℕ → Bool) (P : Slot → Value → Type 0) → IsKept rows is_key P
    → (I : Type 0) (below : I → InSlot → List ℕ → I) (J : I → Slot → Value → Type 0) (L : I → Slot → Holder → Type 0) → IsLayered rows P I below J L
    → (i : I) (p q : InSlot) (s : List ℕ) (w : Value) → P p.0 p.1 → J i p.0 p.1 → part (seen rows p) s ≡ Some q → P q.0 w
    → J i p.0 (value_of (set_part (seen rows p) s w)) ↔ (L i p.0 (set_part (seen rows p) s w) × J (below i p s) q.0 w)
