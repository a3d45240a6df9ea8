-- The change of a whole block that an edit of the part at the last segment of a path is: in the item of the last holder, or in that of a
-- holder which is replaced.
use Rattle.std.specs.Prelude.{◌≡◌, ◌∷◌, ℕ, Bool, List, Option, Some, Ok}
use Rattle.ild_splice_changes.specs.TreeChange.{applied}
use Rattle.ild_data.specs.Data.{Data}
use Rattle.ild_path_edits.specs.Edit.{Edit, HasTextPath, change, del_at, ins_at, path_of, set_at}
use Rattle.ild_path_edits.specs.EditLaws.{Brings}
use Rattle.ild_path_last.specs.Change.{becomes, located}
use Rattle.ild_path_last.specs.declared.change.LastChange.{LastChange}
use Rattle.ild_path_changes.specs.LastLift.{LastEdit, deleting, inserting, last_seen, setting}
use Rattle.ild_path_changes.specs.Lift.{lift, lifted}
use Rattle.ild_path_changes.specs.LiftLaws.{MayDelete, MayInsert, MaySet}
use Rattle.ild_schema.specs.Value.{Value}
use Rattle.ild_schema.specs.declared.row.Row.{Row}
use Rattle.ild_path_replaced.specs.Seen.{AreThere, seen_at}
use Rattle.ild_path_steps.specs.declared.steps.PartSteps.{PartSteps}
use Rattle.ild_typed.specs.At.{InSlot, changed_in, seen}
use Rattle.ild_typed.specs.Hamt.{alone}
use Rattle.ild_typed.specs.Holder.{Holder}
use Rattle.ild_typed.specs.OfType.{OfType, TestsKeys}
use Rattle.ild_typed.specs.Represented.{represented}
use Rattle.ild_typed.specs.Schema.{IsSchema}
use Rattle.ild_path_holder.specs.Along.{LeadAlong, become, holder_at, last_of}
use Rattle.ild_path_holder.specs.Edits.{IsSeenAt}

-- What is told of an edit at a path: the last holder q and the steps to it, the change of its data, where the new part has the data x
-- (any, where no part comes), and where that change is seen, whatever data q then has: in its item, or as the holder with a number.
pub record IsTold (rows : List Row) (e : LastEdit) (p q : InSlot) (s : List ℕ) (ss : List (List ℕ)) (x : Data) (steps : List PartSteps) (last : LastChange) (r : Option ℕ) : Type 0 where
  pub at : holder_at rows p s ss ≡ Some q
  pub lead : LeadAlong rows p s ss steps
  pub changes : last_seen alone rows e (last_of s ss) q ≡ located last (Some x) (becomes rows q.0 (e.made (seen rows q) (last_of s ss)))
  pub where_seen : (w : Data) → IsSeenAt steps (located last (Some x) (Some w)) r

-- The data t of the whole become u: the last holder becomes what has the data `made`, each one before it what has data too, and the edit's
-- change, lifted from the last holder, is this one at the end of the steps, or that of the holder which is replaced, by its new data. So u is t
-- with it.
pub record IsEdited (rows : List Row) (e : LastEdit) (p q : InSlot) (s : List ℕ) (ss : List (List ℕ)) (x : Data) (steps : List PartSteps) (last : LastChange) (r : Option ℕ) (t u : Data) : Type 0 where
  pub made : Data
  pub made_is : becomes rows q.0 (e.made (seen rows q) (last_of s ss)) ≡ Some made
  pub there : AreThere steps (become rows e.made p s ss)
  pub seen_there : lifted rows (lift alone rows) e.made (last_seen alone rows e (last_of s ss)) p s ss ≡ seen_at steps (become rows e.made p s ss) (located last (Some x) (Some made)) r
  pub is : u ≡ applied (seen_at steps (become rows e.made p s ss) (located last (Some x) (Some made)) r) t

-- ---- of each edit that the table allows

abbrev pub AreEdited : List Row → LastEdit → (Holder × List ℕ → Type 0) → Type 0
AreEdited rows e May =
    (p q : InSlot) (s : List ℕ) (ss : List (List ℕ)) (x t u : Data) (steps : List PartSteps) (last : LastChange) (r : Option ℕ)
    → OfType rows p.0 p.1 → May (seen rows q, last_of s ss) → IsTold rows e p q s ss x steps last r
    → represented alone rows p.0 p.1 ≡ Some t → represented alone rows p.0 (changed_in rows e.made p s ss) ≡ Some u → IsEdited rows e p q s ss x steps last r t u

abbrev pub EditsAreEdited : Type 0
EditsAreEdited = (rows : List Row) (is_key : ℕ → List ℕ → Bool) → IsSchema rows → TestsKeys rows is_key
    → ((w : Value) → AreEdited rows (setting w) (λ l. MaySet is_key l w rows)) × ((w : Value) → AreEdited rows (inserting w) (λ l. MayInsert is_key l w rows)) × AreEdited rows deleting MayDelete

-- ---- of each edit that is done

-- what it does to the last holder
abbrev pub in_last : Edit Value → LastEdit
in_last (set_at path w) = setting w
in_last (ins_at path w) = inserting w
in_last (del_at path) = deleting

-- c is what it makes of the value
abbrev pub ChangesAreEdited : Type 0
ChangesAreEdited = (rows : List Row) (is_key : ℕ → List ℕ → Bool) → IsSchema rows → TestsKeys rows is_key
    → (p q : InSlot) (e : Edit Value) (c : Value) (s : List ℕ) (ss : List (List ℕ)) (x t u : Data) (steps : List PartSteps) (last : LastChange) (r : Option ℕ)
    → HasTextPath e → Brings rows (OfType rows) p e → OfType rows p.0 p.1 → change rows is_key p e ≡ Ok c → path_of e ≡ s ∷ ss → IsTold rows (in_last e) p q s ss x steps last r
    → represented alone rows p.0 p.1 ≡ Some t → represented alone rows p.0 c ≡ Some u → IsEdited rows (in_last e) p q s ss x steps last r t u
