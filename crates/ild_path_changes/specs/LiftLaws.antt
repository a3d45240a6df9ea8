-- The laws of edits in the data of a value: an edit of a part is one of the five changes, at a named place, or none.
use Rattle.std.specs.Prelude.{◌≡◌, ℕ, List, [], ◌∷◌, Bool, Option, Some, None, Ok}
use Rattle.ild_data.specs.Data.{Data}
use Rattle.ild_schema.specs.declared.number.Slot.{Slot}
use Rattle.ild_schema.specs.declared.row.Row.{Row}
use Rattle.ild_schema.specs.Value.{Value}
use Rattle.ild_splice_changes.specs.TreeChange.{replace, Located, unchanged, one, applied}
use Rattle.ild_typed.specs.At.{InSlot, at, last_holder, changed_in}
use Rattle.ild_typed.specs.Composed.{Hamts}
use Rattle.ild_typed.specs.Hamt.{alone, whole as of_whole}
use Rattle.ild_typed.specs.Holder.{Holder}
use Rattle.ild_typed.specs.OfType.{OfType, TestsKeys}
use Rattle.ild_typed.specs.Represented.{represented}
use Rattle.ild_typed.specs.Schema.{IsSchema}
use Rattle.ild_typed.specs.Segment.{set_part}
use Rattle.ild_path_edits.specs.Edit.{Edit, set_at, ins_at, del_at, HasTextPath, change}
use Rattle.ild_path_edits.specs.EditLaws.{Brings}
use Rattle.ild_path_edits.specs.Table.{slot_to_set, slot_to_insert, refusal_to_delete, MayStand}
use Rattle.ild_path_changes.specs.Lift.{whole, lifted, lift}
use Rattle.ild_path_changes.specs.LastLift.{LastEdit, setting, inserting, deleting, last_seen}

-- how HAMTs stand: in fronts, or in whole values
pub data AreHamts (hamts : Hamts) : Type 0 where
  of_fronts : hamts ≡ alone → AreHamts hamts
  of_values : (h : List ℕ → List ℕ) → hamts ≡ of_whole h → AreHamts hamts

-- the new part's data in the place of the old, in the last holder
abbrev pub set_last : Hamts → List Row → List ℕ → Value → Data → InSlot → Located
set_last hamts rows s w d q = lift hamts rows q s w (one [] (replace d))

-- Of a part q that is there and becomes w, with l the last holder and its segment: the new tree u is the old one, t, with the
-- one change that is lifted from the last holder to the top.
abbrev pub SetIsOneChange : Type 0
SetIsOneChange = (rows : List Row) (is_key : ℕ → List ℕ → Bool) (hamts : Hamts) → AreHamts hamts → IsSchema rows → TestsKeys rows is_key
    → (p q : InSlot) (s : List ℕ) (ss : List (List ℕ)) (l : Holder × List ℕ) (w : Value) (t d u : Data)
    → OfType rows p.0 p.1 → at rows p (s ∷ ss) ≡ Some q → last_holder rows p s ss ≡ Some l → OfType rows q.0 w
    → represented hamts rows p.0 p.1 ≡ Some t → represented hamts rows q.0 w ≡ Some d → represented hamts rows p.0 (changed_in rows (λ h k. set_part h k w) p s ss) ≡ Some u
    → u ≡ applied (lifted rows (lift hamts rows) (λ h k. set_part h k w) (set_last hamts rows l.1 w d) p s ss) t

-- what the table lets an edit do in its last holder
abbrev pub MaySet : (ℕ → List ℕ → Bool) → Holder × List ℕ → Value → List Row → Type 0
MaySet is_key l w rows = (slot : Slot) × (slot_to_set l.0 l.1 ≡ Some slot) × MayStand is_key l.0 l.1 × OfType rows slot w

abbrev pub MayInsert : (ℕ → List ℕ → Bool) → Holder × List ℕ → Value → List Row → Type 0
MayInsert is_key l w rows = (slot : Slot) × (slot_to_insert l.0 l.1 ≡ Some slot) × MayStand is_key l.0 l.1 × OfType rows slot w

abbrev pub MayDelete : Holder × List ℕ → Type 0
MayDelete l = refusal_to_delete l.0 l.1 ≡ None

abbrev pub IsOneChange : List Row → (ℕ → List ℕ → Bool) → Hamts → LastEdit → (Holder × List ℕ → Type 0) → Type 0
IsOneChange rows is_key hamts e May =
    (p : InSlot) (s : List ℕ) (ss : List (List ℕ)) (l : Holder × List ℕ) (t u : Data) → OfType rows p.0 p.1 → last_holder rows p s ss ≡ Some l → May l
    → represented hamts rows p.0 p.1 ≡ Some t → represented hamts rows p.0 (changed_in rows e.made p s ss) ≡ Some u
    → u ≡ applied (lifted rows (lift hamts rows) e.made (last_seen hamts rows e l.1) p s ss) t

-- The representation of the changed value, where there is one, is that of the value with one change: for each verb, and each part
-- that the table lets it set, insert or delete.
abbrev pub EditsAreOneChange : Type 0
EditsAreOneChange = (rows : List Row) (is_key : ℕ → List ℕ → Bool) (hamts : Hamts) → AreHamts hamts → IsSchema rows → TestsKeys rows is_key
    → ((w : Value) → IsOneChange rows is_key hamts (setting w) (λ l. MaySet is_key l w rows)) × ((w : Value) → IsOneChange rows is_key hamts (inserting w) (λ l. MayInsert is_key l w rows))
    × IsOneChange rows is_key hamts deleting MayDelete

-- where the edit of the last holder is seen in the whole
abbrev pub seen_from : Hamts → List Row → LastEdit → InSlot → List ℕ → List (List ℕ) → Option (Holder × List ℕ) → Located
seen_from hamts rows e p s ss None = unchanged
seen_from hamts rows e p s ss (Some l) = lifted rows (lift hamts rows) e.made (last_seen hamts rows e l.1) p s ss

-- the change of the whole data that an edit is: at the root all is replaced, elsewhere it is that of the last holder, lifted to the top
abbrev pub edit_seen : Hamts → List Row → InSlot → Edit Value → Located
edit_seen hamts rows p (set_at [] w) = whole (represented hamts rows p.0 w)
edit_seen hamts rows p (set_at (s ∷ ss) w) = seen_from hamts rows (setting w) p s ss (last_holder rows p s ss)
edit_seen hamts rows p (ins_at [] w) = unchanged
edit_seen hamts rows p (ins_at (s ∷ ss) w) = seen_from hamts rows (inserting w) p s ss (last_holder rows p s ss)
edit_seen hamts rows p (del_at []) = unchanged
edit_seen hamts rows p (del_at (s ∷ ss)) = seen_from hamts rows deleting p s ss (last_holder rows p s ss)

-- so what an edit makes of a value has the data of the value with this one change, where both have data
abbrev pub ChangesAreOneChange : Type 0
ChangesAreOneChange = (rows : List Row) (is_key : ℕ → List ℕ → Bool) (hamts : Hamts) → AreHamts hamts → IsSchema rows → TestsKeys rows is_key
    → (p : InSlot) (e : Edit Value) (c : Value) (t u : Data) → HasTextPath e → Brings rows (OfType rows) p e → OfType rows p.0 p.1 → change rows is_key p e ≡ Ok c
    → represented hamts rows p.0 p.1 ≡ Some t → represented hamts rows p.0 c ≡ Some u → u ≡ applied (edit_seen hamts rows p e) t
