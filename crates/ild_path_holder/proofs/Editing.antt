-- From an edit of a value, by the change of its last holder, to the one change of the whole data.
use Rattle.std.proofs.Common.{◌≡◌, ℕ, List, [], ◌∷◌, Bool, Option, Some, ap, refl, subst, sym, ◌∙◌}
use Rattle.std.specs.List.{AllByRecursion}
use Rattle.std.specs.Prelude.{IsUtf8, Ok, option_and_then}
use Rattle.std.proofs.lemmas.Option.{same_Some}
use Rattle.ild_splice_changes.specs.TreeChange.{applied}
use Rattle.ild_data.proofs.Options.{chain_some}
use Rattle.ild_data.specs.Data.{Data}
use Rattle.ild_path_edits.proofs.KeepTyped.{of_type_is_kept}
use Rattle.ild_path_edits.proofs.Paths.{kept_typed, last_text, may_stand, placed_typed}
use Rattle.ild_path_edits.specs.Edit.{Edit, HasTextPath, change, del_at, del_in, ins_at, ins_in, path_of, set_at, set_in}
use Rattle.ild_path_edits.specs.EditLaws.{Brings}
use Rattle.ild_path_edits.specs.Table.{delete_part, insert_part, key_fits, refusal_to_delete, slot_to_insert, slot_to_set}
use Rattle.ild_path_last.specs.Change.{located}
use Rattle.ild_path_last.specs.declared.change.LastChange.{LastChange}
use Rattle.ild_path_changes.proofs.EditOne.{edits_are_one_change}
use Rattle.ild_path_changes.specs.LastLift.{LastEdit, deleting, inserting, last_seen, setting}
use Rattle.ild_path_changes.specs.Lift.{lift, lifted}
use Rattle.ild_path_changes.specs.LiftLaws.{IsOneChange, MayDelete, MayInsert, MaySet, of_fronts}
use Rattle.ild_schema.specs.Value.{Value}
use Rattle.ild_schema.specs.declared.row.Row.{Row}
use Rattle.ild_path_replaced.specs.Seen.{seen_at}
use Rattle.ild_path_steps.specs.declared.steps.PartSteps.{PartSteps}
use Rattle.ild_typed.specs.At.{InSlot, changed_in, last_holder, seen}
use Rattle.ild_typed.specs.Hamt.{alone}
use Rattle.ild_typed.specs.Holder.{Holder}
use Rattle.ild_typed.specs.OfType.{OfType, TestsKeys}
use Rattle.ild_typed.specs.Represented.{represented}
use Rattle.ild_typed.specs.Schema.{IsSchema}
use Rattle.ild_typed.specs.Segment.{part, set_part}
use Rattle.ild_path_holder.specs.Along.{become, holder_at, last_of}
use Rattle.ild_path_holder.specs.Edited.{AreEdited, ChangesAreEdited, EditsAreEdited, IsEdited, IsTold, in_last}
use Rattle.ild_path_holder.specs.Edits.{IsSeenAt}
use Rattle.ild_path_holder.proofs.Carrying.{along}
use Rattle.ild_path_holder.proofs.Edits.{Keeps, all_represented, delete_keeps, insert_keeps, set_keeps}
use Rattle.ild_path_holder.proofs.Seeing.{become_there, last_there}

-- the last holder, and the last segment
same_last : (rows : List Row) (p q : InSlot) (s : List ℕ) (ss : List (List ℕ)) → holder_at rows p s ss ≡ Some q → last_holder rows p s ss ≡ Some (seen rows q, last_of s ss)
same_last rows p q s [] h = ap (λ (r : InSlot). Some (seen rows r, s)) (same_Some p q h)
same_last rows p q s (t ∷ ss) h =
    let x = chain_some (λ r. holder_at rows r t ss) (part (seen rows p) s) q h in
    ap (option_and_then (λ r. last_holder rows r t ss)) x.1 ∙ same_last rows x.0 q t ss x.2

module _ (rows : List Row) (is_key : ℕ → List ℕ → Bool) (schema : IsSchema rows) (keys : TestsKeys rows is_key) where
  edited_by : (e : LastEdit) (May : Holder × List ℕ → Type 0) → Keeps rows e May → IsOneChange rows is_key alone e May → AreEdited rows e May
  edited_by e May typed one_change p q s ss x t u steps last r is may told was now =
      let l : Holder × List ℕ = (seen rows q, last_of s ss) in
      let at = same_last rows p q s ss told.at in
      let all = all_represented rows is_key schema keys e.made l (typed l may) s ss p u is at now in
      let w = last_there rows e.made p q s ss l u at told.at all now in
      let holders = become_there rows e.made p s ss steps u told.lead all now in
      let changes : last_seen alone rows e (last_of s ss) q ≡ located last (Some x) (Some w.0) = told.changes ∙ ap (located last (Some x)) w.1 in
      let lifts : lifted rows (lift alone rows) e.made (last_seen alone rows e (last_of s ss)) p s ss ≡ seen_at steps (become rows e.made p s ss) (located last (Some x) (Some w.0)) r =
      along rows e.made (last_seen alone rows e (last_of s ss)) p q s ss steps told.lead told.at all
      ∙ subst (λ c. IsSeenAt steps c r) (sym changes) (told.where_seen w.0) (become rows e.made p s ss) holders
      ∙ ap (λ c. seen_at steps (become rows e.made p s ss) c r) changes in
      record { made = w.0; made_is = w.1; there = holders; seen_there = lifts; is = one_change p s ss l t u is at may was now ∙ ap (λ c. applied c t) lifts }

pub edits_are_edited : EditsAreEdited
edits_are_edited rows is_key schema keys =
    let one = edits_are_one_change rows is_key alone (of_fronts refl) schema keys in (
      λ w. edited_by rows is_key schema keys (setting w) (λ l. MaySet is_key l w rows) (set_keeps rows is_key schema keys w) (one.0 w),
      λ w. edited_by rows is_key schema keys (inserting w) (λ l. MayInsert is_key l w rows) (insert_keeps rows is_key schema keys w) (one.1 w),
      edited_by rows is_key schema keys deleting MayDelete (delete_keeps rows is_key schema keys) one.2,
    )

-- ---- of each edit that is done

module _ (rows : List Row) (is_key : ℕ → List ℕ → Bool) (schema : IsSchema rows) (keys : TestsKeys rows is_key) where
  text_of : (p : InSlot) (s : List ℕ) (ss : List (List ℕ)) (l : Holder × List ℕ) → AllByRecursion IsUtf8 (s ∷ ss) → last_holder rows p s ss ≡ Some l → IsUtf8 l.1
  text_of p s ss l texts at = last_text rows is_key (λ slot v. OfType rows slot v) (of_type_is_kept rows is_key schema keys) p s ss l texts at

  module _ (p q : InSlot) (s : List ℕ) (ss : List (List ℕ)) (x t u : Data) (steps : List PartSteps) (last : LastChange) (r : Option ℕ) (texts : AllByRecursion IsUtf8 (s ∷ ss)) (is : OfType rows p.0 p.1) (was : represented alone rows p.0 p.1 ≡ Some t) where
    abbrev l : Holder × List ℕ
    l = (seen rows q, last_of s ss)

    abbrev Edited : LastEdit → Value → Type 0
    Edited e c = represented alone rows p.0 c ≡ Some u → IsEdited rows e p q s ss x steps last r t u

    set_edited : (w c : Value) → Brings rows (OfType rows) p (set_at (s ∷ ss) w) → change rows is_key p (set_at (s ∷ ss) w) ≡ Ok c → IsTold rows (setting w) p q s ss x steps last r → Edited (setting w) c
    set_edited w c new h told =
        let at = same_last rows p q s ss told.at in
        let d = changed_in rows (λ h t. set_part h t w) p s ss in
        placed_typed (Edited (setting w)) (key_fits is_key l.0 l.1) d (slot_to_set l.0 l.1) c (subst (λ o. set_in is_key d o ≡ Ok c) at h)
        (λ slot free fits now. (edits_are_edited rows is_key schema keys).0 w p q s ss x t u steps last r is
        (slot, free, may_stand is_key l.0 l.1 (text_of p s ss l texts at) fits, new slot (ap (option_and_then (λ (l : Holder × List ℕ). slot_to_set l.0 l.1)) at ∙ free)) told was now)

    insert_edited : (w c : Value) → Brings rows (OfType rows) p (ins_at (s ∷ ss) w) → change rows is_key p (ins_at (s ∷ ss) w) ≡ Ok c → IsTold rows (inserting w) p q s ss x steps last r → Edited (inserting w) c
    insert_edited w c new h told =
        let at = same_last rows p q s ss told.at in
        let d = changed_in rows (λ h t. insert_part h t w) p s ss in
        placed_typed (Edited (inserting w)) (key_fits is_key l.0 l.1) d (slot_to_insert l.0 l.1) c (subst (λ o. ins_in is_key d o ≡ Ok c) at h)
        (λ slot free fits now. (edits_are_edited rows is_key schema keys).1 w p q s ss x t u steps last r is
        (slot, free, may_stand is_key l.0 l.1 (text_of p s ss l texts at) fits, new slot (ap (option_and_then (λ (l : Holder × List ℕ). slot_to_insert l.0 l.1)) at ∙ free)) told was now)

    delete_edited : (c : Value) → change rows is_key p (del_at (s ∷ ss)) ≡ Ok c → IsTold rows deleting p q s ss x steps last r → Edited deleting c
    delete_edited c h told =
        let at = same_last rows p q s ss told.at in
        let d = changed_in rows delete_part p s ss in
        kept_typed (Edited deleting) d (refusal_to_delete l.0 l.1) c (subst (λ o. del_in d o ≡ Ok c) at h)
        (λ free now. (edits_are_edited rows is_key schema keys).2 p q s ss x t u steps last r is free told was now)

  edited : (p q : InSlot) (e : Edit Value) (c : Value) (s : List ℕ) (ss : List (List ℕ)) (x t u : Data) (steps : List PartSteps) (last : LastChange) (r : Option ℕ)
      → HasTextPath e → Brings rows (OfType rows) p e → OfType rows p.0 p.1 → change rows is_key p e ≡ Ok c → path_of e ≡ s ∷ ss → IsTold rows (in_last e) p q s ss x steps last r
      → represented alone rows p.0 p.1 ≡ Some t → represented alone rows p.0 c ≡ Some u → IsEdited rows (in_last e) p q s ss x steps last r t u
  edited p q (set_at path w) c s ss x t u steps last r texts new is h at told was now =
      set_edited p q s ss x t u steps last r (subst (λ y. AllByRecursion IsUtf8 y) at texts) is was w c (subst (λ y. Brings rows (OfType rows) p (set_at y w)) at new) (subst (λ y. change rows is_key p (set_at y w) ≡ Ok c) at h) told now
  edited p q (ins_at path w) c s ss x t u steps last r texts new is h at told was now =
      insert_edited p q s ss x t u steps last r (subst (λ y. AllByRecursion IsUtf8 y) at texts) is was w c (subst (λ y. Brings rows (OfType rows) p (ins_at y w)) at new) (subst (λ y. change rows is_key p (ins_at y w) ≡ Ok c) at h) told now
  edited p q (del_at path) c s ss x t u steps last r texts new is h at told was now =
      delete_edited p q s ss x t u steps last r (subst (λ y. AllByRecursion IsUtf8 y) at texts) is was c (subst (λ y. change rows is_key p (del_at y) ≡ Ok c) at h) told now

pub changes_are_edited : ChangesAreEdited
changes_are_edited rows is_key schema keys p q e c s ss x t u steps last r texts new is h at told was now = edited rows is_key schema keys p q e c s ss x t u steps last r texts new is h at told was now
