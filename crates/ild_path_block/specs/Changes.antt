-- What an edit changes in the last holder of its path, and what is known where that is told.
use Rattle.std.specs.Prelude.{◌≡◌, ℕ, Bool, List, ◌∷◌, Option, Some, None, IsSomeAnd, true}
use Rattle.ild_cbor.specs.declared.node.Node.{Node}
use Rattle.ild_data.specs.Data.{Data}
use Rattle.ild_path_edits.specs.Table.{refusal_to_delete, slot_to_insert, slot_to_set}
use Rattle.ild_path_last.specs.Change.{NewIs, becomes, located}
use Rattle.ild_path_last.specs.declared.change.LastChange.{LastChange}
use Rattle.ild_path_changes.specs.LastLift.{LastEdit, deleting, inserting, last_seen, setting}
use Rattle.ild_path_changes.specs.Lift.{lift, lifted}
use Rattle.ild_path_changes.specs.LiftLaws.{edit_seen}
use Rattle.ild_path_block.specs.Edits.{IsPartItem, EditMakes, edit_of}
use Rattle.ild_path_block.specs.declared.edit.PartEdit.{PartEdit}
use Rattle.ild_path_block.specs.declared.edit.PartEdit.TheVariants as E
use Rattle.ild_path_holder.specs.Along.{LeadAlong, holder_at, last_of, is_holder}
use Rattle.ild_path_holder.specs.Edited.{IsEdited, IsTold}
use Rattle.ild_schema.specs.Value.{Value}
use Rattle.ild_schema.specs.declared.number.Slot.{Slot}
use Rattle.ild_schema.specs.declared.row.Row.{Row}
use Rattle.ild_path_steps.specs.declared.steps.PartSteps.{PartSteps}
use Rattle.ild_typed.specs.At.{InSlot, changed_in, last_holder, seen}
use Rattle.ild_typed.specs.Hamt.{alone}
use Rattle.ild_typed.specs.Holder.{Holder}
use Rattle.ild_typed.specs.Represented.{represented}
use Rattle.ild_view.specs.Parts.{IsPartView}
use Rattle.ild_view.specs.declared.view.View.{View}

-- what it does to the last holder
abbrev pub in_last : PartEdit → Value → LastEdit
in_last (E.Set n) w = setting w
in_last (E.Insert n) w = inserting w
in_last E.Delete w = deleting

-- the item that it brings
abbrev pub node_of : PartEdit → Option Node
node_of (E.Set n) = Some n
node_of (E.Insert n) = Some n
node_of E.Delete = None

-- the table lets it change the part at a segment of a holder
abbrev pub Allows : List Row → PartEdit → Holder → List ℕ → Value → Type 0
Allows rows (E.Set n) h s w = (slot : Slot) × (slot_to_set h s ≡ Some slot) × IsPartItem rows slot n w
Allows rows (E.Insert n) h s w = (slot : Slot) × (slot_to_insert h s ≡ Some slot) × IsPartItem rows slot n w
Allows rows E.Delete h s w = refusal_to_delete h s ≡ None

-- it is this change of the holder's data, whatever stands for a part that doesn't come
pub record IsChange (rows : List Row) (e : LastEdit) (q : InSlot) (s : List ℕ) (new : Option Node) (change : LastChange) : Type 0 where
  pub some : Data
  pub part : Option Data
  pub part_is : NewIs new part
  pub of_some : last_seen alone rows e s q ≡ located change (Some some) (becomes rows q.0 (e.made (seen rows q) s))
  pub of_part : last_seen alone rows e s q ≡ located change part (becomes rows q.0 (e.made (seen rows q) s))

-- it is told of each holder that the view is of, where the table lets the edit be done
abbrev pub TellsChange : View → List ℕ → PartEdit → Option LastChange → Type 0
TellsChange v s edit result =
    (rows : List Row) (q : InSlot) (w : Value) → IsPartView rows q v → is_holder (seen rows q) ≡ true → Allows rows edit (seen rows q) s w
    → IsSomeAnd result (IsChange rows (in_last edit w) q s (node_of edit))

-- What is known of an edit whose change of the last holder is told: where the steps lead, what the law of edits says, and that the edit at
-- the rest of the path makes the value that each holder becomes.
pub record IsReady (rows : List Row) (is_key : ℕ → List ℕ → Bool) (edit : PartEdit) (w : Value) (p : InSlot)
    (path : List (List ℕ)) (steps : List PartSteps) (change : LastChange) (new : Option Node) (t u : Data) : Type 0 where
  pub last : InSlot
  pub first : List ℕ
  pub others : List (List ℕ)
  pub path_is : path ≡ first ∷ others
  pub at : holder_at rows p first others ≡ Some last
  pub lead : LeadAlong rows p first others steps
  pub was : represented alone rows p.0 p.1 ≡ Some t
  pub one_change : edit_seen alone rows p (edit_of edit w path) ≡ lifted rows (lift alone rows) (in_last edit w).made (last_seen alone rows (in_last edit w) (last_of first others)) p first others
  pub is_change : IsChange rows (in_last edit w) last (last_of first others) new change
  pub law : (r : Option ℕ) → IsTold rows (in_last edit w) p last first others is_change.some steps change r → IsEdited rows (in_last edit w) p last first others is_change.some steps change r t u
  pub makes : (h : InSlot) (s : List ℕ) (ss : List (List ℕ)) → last_holder rows h s ss ≡ last_holder rows p first others
      → EditMakes rows is_key edit w h (s ∷ ss) (changed_in rows (in_last edit w).made h s ss)
