-- What is asked of a representation so that a change of one part is one change of the whole.
use Rattle.ild_path_changes.specs.Lift.{lifted, lift_within}
use Rattle.std.specs.Prelude.{◌≡◌, ℕ, List, Bool, Some}
use Rattle.ild_data.specs.Data.{Data}
use Rattle.ild_schema.specs.declared.number.Slot.{Slot}
use Rattle.ild_schema.specs.declared.row.Row.{Row}
use Rattle.ild_schema.specs.Value.{Value}
use Rattle.ild_splice_changes.specs.TreeChange.{TreeStep, replace, changed, part_at, Located, applied}
use Rattle.ild_typed.specs.Holder.{Holder, value_of}
use Rattle.ild_typed.specs.Segment.{part, set_part}
use Rattle.ild_typed.specs.At.{InSlot, seen, last_holder, changed_in}
use Rattle.ild_path_edits.proofs.Kept.{IsKept}

-- R is the representation of values in slots by data, in one block. A holder's law says where the change of a part's data is seen
-- in the holder's data: `lift p s c e` for the part at s of p that becomes c, whose own data is changed by e. That the changed
-- holder is represented is a premise: a text may break a delimiter rule.
pub record Represents (rows : List Row) (P : Slot → Value → Type 0) (R : Slot → Value → Data → Type 0) : Type 0 where
  pub lift : InSlot → List ℕ → Value → Located → Located
  -- a part of what is represented is represented
  pub parts : (p q : InSlot) (s : List ℕ) (t : Data) → P p.0 p.1 → part (seen rows p) s ≡ Some q → R p.0 p.1 t → (d : Data) × R q.0 q.1 d
  pub lifts : (p q : InSlot) (s : List ℕ) (c : Value) (t u d : Data) (e : Located) → P p.0 p.1 → part (seen rows p) s ≡ Some q → P q.0 c
      → R p.0 p.1 t → R q.0 q.1 d → R q.0 c (applied e d) → R p.0 (value_of (set_part (seen rows p) s c)) u → u ≡ applied (lift p s c e) t

-- The representation of the changed value, where there is one, is that of the value with one change.
abbrev pub OneChange : Type 1
OneChange = (rows : List Row) (is_key : ℕ → List ℕ → Bool) (P : Slot → Value → Type 0) (R : Slot → Value → Data → Type 0) → IsKept rows is_key P → (r : Represents rows P R)
    → (f : Holder → List ℕ → Holder) (last : InSlot → Located) (l : Holder × List ℕ)
    → ((q : InSlot) → P q.0 q.1 → seen rows q ≡ l.0 → P q.0 (value_of (f l.0 l.1)))
    → ((q : InSlot) (t u : Data) → P q.0 q.1 → seen rows q ≡ l.0 → R q.0 q.1 t → R q.0 (value_of (f l.0 l.1)) u → u ≡ applied (last q) t)
    → (p : InSlot) (s : List ℕ) (ss : List (List ℕ)) (t u : Data) → P p.0 p.1 → last_holder rows p s ss ≡ Some l → R p.0 p.1 t → R p.0 (changed_in rows f p s ss) u
    → u ≡ applied (lifted rows r.lift f last p s ss) t

-- what replaces the part at these steps changes it where it stands
abbrev pub WithinLifts : Type 0
WithinLifts = (q : List TreeStep) (t d : Data) (e : Located) → part_at q t ≡ Some d → changed q (replace (applied e d)) t ≡ applied (lift_within q e) t
