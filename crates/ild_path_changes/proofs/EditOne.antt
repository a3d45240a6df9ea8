-- Each edit that the table allows is one change of the whole tree.
use Rattle.ild_path_edits.proofs.Seen.{insert_part-seen, delete_part-seen}
use Rattle.ild_value_meaning.proofs.Told.{told}
use Rattle.ild_schema.proofs.Legibly.{legible}
use Rattle.ild_typed.specs.Schema.{IsSchema}
use Rattle.std.proofs.Common.{◌≡◌, ℕ, List, Bool, Option, Some, ap, sym, subst, ◌∙◌}
use Rattle.ild_data.specs.Data.{Data}
use Rattle.ild_schema.specs.declared.number.Slot.{Slot}
use Rattle.ild_schema.specs.declared.row.Row.{Row}
use Rattle.ild_schema.specs.Value.{Value}
use Rattle.ild_splice_changes.specs.TreeChange.{applied}
use Rattle.ild_schema.specs.Clear.{IsClear}
use Rattle.ild_typed.specs.Composed.{Hamts}
use Rattle.ild_typed.specs.Represented.{represented}
use Rattle.ild_schema.specs.Slots.{form_of}
use Rattle.ild_typed.specs.Holder.{Holder, holder_of, value_of}
use Rattle.ild_typed.specs.At.{InSlot, seen}
use Rattle.ild_path_changes.specs.LastLift.{LastEdit, setting, inserting, deleting, last_seen}
use Rattle.ild_path_changes.specs.LiftLaws.{MaySet, MayInsert, MayDelete, IsOneChange, EditsAreOneChange}
use Rattle.ild_path_changes.proofs.Datas.{data_of}
use Rattle.ild_typed.specs.OfType.{OfType, TestsKeys}
use Rattle.ild_path_changes.proofs.HaveTrees.{HasTrees, has_trees}
use Rattle.ild_value_meaning.proofs.ByParts.{ByParts}
use Rattle.ild_path_changes.proofs.Commuting.{one_change}
use Rattle.ild_path_edits.proofs.Holders.{set_part-seen}
use Rattle.ild_path_changes.proofs.LastEdits.{set_is_seen, insert_is_seen, delete_is_seen}
use Rattle.ild_path_edits.proofs.KeepTyped.{of_type_is_kept}
use Rattle.ild_path_edits.proofs.Paths.{set_typed, inserted_typed, deleted_typed}
use Rattle.ild_path_changes.proofs.Represented.{represents, in_holders}
use Rattle.ild_value_meaning.proofs.TypedByParts.{to_parts}

module _ (rows : List Row) (is_key : ℕ → List ℕ → Bool) (hamts : Hamts) (schema : IsSchema rows) (keys : TestsKeys rows is_key) (trees : HasTrees hamts rows) where
  clear : IsClear rows
  clear = (legible rows schema.accepted).clear

  abbrev to : (slot : Slot) (v : Value) → OfType rows slot v → ByParts rows is_key slot v
  to slot v h = to_parts rows is_key keys v slot h

  -- an edit is one change where it is one in the last holder
  edited : (e : LastEdit) (May : Holder × List ℕ → Type 0)
      → ((l : Holder × List ℕ) → May l → (q : InSlot) → OfType rows q.0 q.1 → seen rows q ≡ l.0 → OfType rows q.0 (value_of (e.made l.0 l.1)))
      → ((slot : Slot) (v : Value) (s : List ℕ) → holder_of rows slot (value_of (e.made (holder_of rows slot v) s)) ≡ e.made (holder_of rows slot v) s)
      → ((q : InSlot) (s : List ℕ) → OfType rows q.0 q.1 → May (seen rows q, s) → (u : Option Data) (t n : Data) → data_of hamts (form_of rows q.0) (represented hamts rows) q.0 (seen rows q) ≡ Some t
      → data_of hamts (form_of rows q.0) (represented hamts rows) q.0 (e.made (seen rows q) s) ≡ Some n → u ≡ Some n → n ≡ applied (e.seen_in (form_of rows q.0) (represented hamts rows) (seen rows q) s u) t)
      → IsOneChange rows is_key hamts e May
  edited e May typed seen_as here p s ss l t u is last may was now =
      let kept = of_type_is_kept rows is_key schema keys in
      one_change rows is_key (λ slot v. OfType rows slot v) (λ slot v t. represented hamts rows slot v ≡ Some t) kept (represents rows is_key (told rows schema).apart (told rows schema).any_there keys clear hamts trees kept)
      e.made (last_seen hamts rows e l.1) l (typed l may)
      (λ q a b it eq old after.
      let made : represented hamts rows q.0 (value_of (e.made (seen rows q) l.1)) ≡ Some b = subst (λ h. represented hamts rows q.0 (value_of (e.made h l.1)) ≡ Some b) (sym eq) after in
      here q l.1 it (subst (λ h. May (h, l.1)) (sym eq) may) (represented hamts rows q.0 (value_of (e.made (seen rows q) l.1))) a b
      (sym (in_holders hamts rows q.0 q.1) ∙ old)
      (ap (data_of hamts (form_of rows q.0) (represented hamts rows) q.0) (sym (seen_as q.0 q.1 l.1)) ∙ sym (in_holders hamts rows q.0 (value_of (e.made (seen rows q) l.1))) ∙ made) made)
      p s ss t u is last was now

  set_one : (w : Value) → IsOneChange rows is_key hamts (setting w) (λ l. MaySet is_key l w rows)
  set_one w =
      edited (setting w) (λ l. MaySet is_key l w rows)
      (λ l may. set_typed rows is_key (λ slot v. OfType rows slot v) (of_type_is_kept rows is_key schema keys) l may.0 w may.1 may.2 may.3)
      (λ slot v s. set_part-seen rows slot v s w)
      (λ q s is may u t n was now after. set_is_seen rows is_key (told rows schema).apart (told rows schema).any_there clear hamts q.0 q.1 s w may.0 (to q.0 q.1 is) may.1 (to may.0 w may.3) u t n was now after)

  insert_one : (w : Value) → IsOneChange rows is_key hamts (inserting w) (λ l. MayInsert is_key l w rows)
  insert_one w =
      edited (inserting w) (λ l. MayInsert is_key l w rows)
      (λ l may. inserted_typed rows is_key (λ slot v. OfType rows slot v) (of_type_is_kept rows is_key schema keys) l may.0 w may.1 may.2 may.3)
      (λ slot v s. insert_part-seen rows slot v s w)
      (λ q s is may u t n was now after. insert_is_seen rows is_key (told rows schema).apart (told rows schema).any_there clear hamts q.0 q.1 s w may.0 (to q.0 q.1 is) may.1 (to may.0 w may.3) u t n was now after)

  delete_one : IsOneChange rows is_key hamts deleting MayDelete
  delete_one =
      edited deleting MayDelete
      (λ l may. deleted_typed rows is_key (λ slot v. OfType rows slot v) (of_type_is_kept rows is_key schema keys) l may)
      (λ slot v s. delete_part-seen rows slot v s)
      (λ q s is may u t n was now after. delete_is_seen rows is_key (told rows schema).apart (told rows schema).any_there clear hamts q.0 q.1 s (to q.0 q.1 is) may u t n was now after)

pub edits_are_one_change : EditsAreOneChange
edits_are_one_change rows is_key hamts tried schema keys =
    let trees = has_trees hamts rows tried schema.table.texts.spelled in
    (set_one rows is_key hamts schema keys trees, insert_one rows is_key hamts schema keys trees, delete_one rows is_key hamts schema keys trees)
