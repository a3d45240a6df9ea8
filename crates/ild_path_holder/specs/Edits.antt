-- What an edit is in the data of a value, by the steps along its path.
use Rattle.std.specs.Prelude.{◌≡◌, ℕ, Bool, List, Option, Some}
use Rattle.ild_splice_changes.specs.TreeChange.{Located}
use Rattle.ild_data.specs.Data.{Data}
use Rattle.ild_path_changes.specs.LastLift.{LastEdit, deleting, inserting, last_seen, setting}
use Rattle.ild_path_changes.specs.Lift.{lift, lifted}
use Rattle.ild_path_changes.specs.LiftLaws.{MayDelete, MayInsert, MaySet}
use Rattle.ild_schema.specs.Value.{Value}
use Rattle.ild_schema.specs.declared.row.Row.{Row}
use Rattle.ild_path_replaced.specs.Seen.{AreThere, seen_at}
use Rattle.ild_path_steps.specs.Steps.{carried_along}
use Rattle.ild_path_steps.specs.declared.steps.PartSteps.{PartSteps}
use Rattle.ild_typed.specs.At.{InSlot, changed_in, last_holder, seen}
use Rattle.ild_typed.specs.Hamt.{alone}
use Rattle.ild_typed.specs.Holder.{Holder, value_of}
use Rattle.ild_typed.specs.OfType.{OfType, TestsKeys}
use Rattle.ild_typed.specs.Represented.{represented}
use Rattle.ild_typed.specs.Schema.{IsSchema}
use Rattle.ild_path_holder.specs.Along.{LeadAlong, become, holder_at}

-- The change that is lifted from the last holder is carried by the steps to it, where the changed value has data.
abbrev pub IsCarried : List Row → LastEdit → (Holder × List ℕ → Type 0) → Type 0
IsCarried rows e May =
    (p q : InSlot) (s : List ℕ) (ss : List (List ℕ)) (l : Holder × List ℕ) (u : Data) (steps : List PartSteps)
    → OfType rows p.0 p.1 → last_holder rows p s ss ≡ Some l → May l → holder_at rows p s ss ≡ Some q
    → LeadAlong rows p s ss steps → represented alone rows p.0 (changed_in rows e.made p s ss) ≡ Some u
    → lifted rows (lift alone rows) e.made (last_seen alone rows e l.1) p s ss ≡ carried_along steps (become rows e.made p s ss) (last_seen alone rows e l.1 q)

-- for each verb, and each part that the table lets it set, insert or delete
abbrev pub EditsAreCarried : Type 0
EditsAreCarried = (rows : List Row) (is_key : ℕ → List ℕ → Bool) → IsSchema rows → TestsKeys rows is_key
    → ((w : Value) → IsCarried rows (setting w) (λ l. MaySet is_key l w rows)) × ((w : Value) → IsCarried rows (inserting w) (λ l. MayInsert is_key l w rows)) × IsCarried rows deleting MayDelete

-- Where the steps to a last holder say that a change of it is seen: in its item, or as the holder with a number, whatever data the
-- holders become (`ild_path_replaced`'s `replaced` tells it).
abbrev pub IsSeenAt : List PartSteps → Located → Option ℕ → Type 0
IsSeenAt steps e r = (ws : List (Option Data)) → AreThere steps ws → carried_along steps ws e ≡ seen_at steps ws e r

-- There the lifted change is, where the changed value has data. What the last holder becomes then has data too, so it is only asked
-- where its change is seen if it has.
abbrev pub IsSeen : List Row → LastEdit → (Holder × List ℕ → Type 0) → Type 0
IsSeen rows e May =
    (p q : InSlot) (s : List ℕ) (ss : List (List ℕ)) (l : Holder × List ℕ) (u : Data) (steps : List PartSteps) (r : Option ℕ)
    → OfType rows p.0 p.1 → last_holder rows p s ss ≡ Some l → May l → holder_at rows p s ss ≡ Some q
    → LeadAlong rows p s ss steps → represented alone rows p.0 (changed_in rows e.made p s ss) ≡ Some u
    → ((w : Data) → represented alone rows q.0 (value_of (e.made (seen rows q) l.1)) ≡ Some w → IsSeenAt steps (last_seen alone rows e l.1 q) r)
    → lifted rows (lift alone rows) e.made (last_seen alone rows e l.1) p s ss ≡ seen_at steps (become rows e.made p s ss) (last_seen alone rows e l.1 q) r

abbrev pub EditsAreSeen : Type 0
EditsAreSeen = (rows : List Row) (is_key : ℕ → List ℕ → Bool) → IsSchema rows → TestsKeys rows is_key
    → ((w : Value) → IsSeen rows (setting w) (λ l. MaySet is_key l w rows)) × ((w : Value) → IsSeen rows (inserting w) (λ l. MayInsert is_key l w rows)) × IsSeen rows deleting MayDelete
