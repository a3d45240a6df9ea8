-- What an edit makes of a value is seen in its data as one change.
use Rattle.std.proofs.Common.{◌≡◌, ℕ, List, [], ◌∷◌, Bool, Option, Some, None, refl, ap, sym, ◌∙◌}
use Rattle.std.specs.List.{AllByRecursion}
use Rattle.std.specs.Prelude.{IsUtf8, Ok, option_and_then}
use Rattle.ild_data.specs.Data.{Data}
use Rattle.ild_schema.specs.declared.number.Slot.{Slot}
use Rattle.ild_schema.specs.declared.row.Row.{Row}
use Rattle.ild_schema.specs.Value.{Value}
use Rattle.ild_splice_changes.specs.TreeChange.{applied}
use Rattle.ild_typed.specs.At.{InSlot, last_holder, changed_in}
use Rattle.ild_typed.specs.Composed.{Hamts}
use Rattle.ild_typed.specs.Holder.{Holder}
use Rattle.ild_typed.specs.OfType.{OfType, TestsKeys}
use Rattle.ild_typed.specs.Represented.{represented}
use Rattle.ild_typed.specs.Schema.{IsSchema}
use Rattle.ild_typed.specs.Segment.{set_part}
use Rattle.ild_path_edits.specs.Edit.{Edit, set_at, ins_at, del_at, HasTextPath, set_in, ins_in, del_in, change}
use Rattle.ild_path_edits.specs.EditLaws.{Brings}
use Rattle.ild_path_edits.specs.Table.{slot_to_set, slot_to_insert, key_fits, insert_part, refusal_to_delete, delete_part}
use Rattle.ild_path_edits.proofs.KeepTyped.{of_type_is_kept, ok_same}
use Rattle.ild_path_edits.proofs.Paths.{last_text, may_stand, placed_typed, kept_typed}
use Rattle.ild_path_changes.specs.Lift.{whole}
use Rattle.ild_path_changes.specs.LastLift.{setting, inserting, deleting}
use Rattle.ild_path_changes.specs.LiftLaws.{AreHamts, seen_from, edit_seen, ChangesAreOneChange}
use Rattle.ild_path_changes.proofs.EditOne.{edits_are_one_change}

module _ (rows : List Row) (is_key : ℕ → List ℕ → Bool) (hamts : Hamts) (tried : AreHamts hamts) (schema : IsSchema rows) (keys : TestsKeys rows is_key) where
  abbrev rep : Slot → Value → Option Data
  rep slot v = represented hamts rows slot v

  text_of : (p : InSlot) (s : List ℕ) (ss : List (List ℕ)) (l : Holder × List ℕ) → AllByRecursion IsUtf8 (s ∷ ss) → last_holder rows p s ss ≡ Some l → IsUtf8 l.1
  text_of p s ss l texts e = last_text rows is_key (λ slot v. OfType rows slot v) (of_type_is_kept rows is_key schema keys) p s ss l texts e

  set_seen : (p : InSlot) (s : List ℕ) (ss : List (List ℕ)) (w c : Value) (t u : Data) (o : Option (Holder × List ℕ)) → last_holder rows p s ss ≡ o → AllByRecursion IsUtf8 (s ∷ ss)
      → ((slot : Slot) → option_and_then (λ (l : Holder × List ℕ). slot_to_set l.0 l.1) o ≡ Some slot → OfType rows slot w) → OfType rows p.0 p.1
      → set_in is_key (changed_in rows (λ h t. set_part h t w) p s ss) o ≡ Ok c → rep p.0 p.1 ≡ Some t → rep p.0 c ≡ Some u → u ≡ applied (seen_from hamts rows (setting w) p s ss o) t
  set_seen p s ss w c t u None e texts new is h was now = absurd cc
  set_seen p s ss w c t u (Some l) e texts new is h was now =
      placed_typed (λ c. rep p.0 c ≡ Some u → u ≡ applied (seen_from hamts rows (setting w) p s ss (Some l)) t) (key_fits is_key l.0 l.1) (changed_in rows (λ h t. set_part h t w) p s ss) (slot_to_set l.0 l.1) c h
      (λ slot free fits after. (edits_are_one_change rows is_key hamts tried schema keys).0 w p s ss l t u is e (slot, free, may_stand is_key l.0 l.1 (text_of p s ss l texts e) fits, new slot free) was after) now

  ins_seen : (p : InSlot) (s : List ℕ) (ss : List (List ℕ)) (w c : Value) (t u : Data) (o : Option (Holder × List ℕ)) → last_holder rows p s ss ≡ o → AllByRecursion IsUtf8 (s ∷ ss)
      → ((slot : Slot) → option_and_then (λ (l : Holder × List ℕ). slot_to_insert l.0 l.1) o ≡ Some slot → OfType rows slot w) → OfType rows p.0 p.1
      → ins_in is_key (changed_in rows (λ h t. insert_part h t w) p s ss) o ≡ Ok c → rep p.0 p.1 ≡ Some t → rep p.0 c ≡ Some u → u ≡ applied (seen_from hamts rows (inserting w) p s ss o) t
  ins_seen p s ss w c t u None e texts new is h was now = absurd cc
  ins_seen p s ss w c t u (Some l) e texts new is h was now =
      placed_typed (λ c. rep p.0 c ≡ Some u → u ≡ applied (seen_from hamts rows (inserting w) p s ss (Some l)) t) (key_fits is_key l.0 l.1) (changed_in rows (λ h t. insert_part h t w) p s ss) (slot_to_insert l.0 l.1) c h
      (λ slot free fits after. (edits_are_one_change rows is_key hamts tried schema keys).1 w p s ss l t u is e (slot, free, may_stand is_key l.0 l.1 (text_of p s ss l texts e) fits, new slot free) was after) now

  del_seen : (p : InSlot) (s : List ℕ) (ss : List (List ℕ)) (c : Value) (t u : Data) (o : Option (Holder × List ℕ)) → last_holder rows p s ss ≡ o → OfType rows p.0 p.1
      → del_in (changed_in rows delete_part p s ss) o ≡ Ok c → rep p.0 p.1 ≡ Some t → rep p.0 c ≡ Some u → u ≡ applied (seen_from hamts rows deleting p s ss o) t
  del_seen p s ss c t u None e is h was now = absurd cc
  del_seen p s ss c t u (Some l) e is h was now =
      kept_typed (λ c. rep p.0 c ≡ Some u → u ≡ applied (seen_from hamts rows deleting p s ss (Some l)) t) (changed_in rows delete_part p s ss) (refusal_to_delete l.0 l.1) c h
      (λ free after. (edits_are_one_change rows is_key hamts tried schema keys).2 p s ss l t u is e free was after) now

  seen : (p : InSlot) (e : Edit Value) (c : Value) (t u : Data) → HasTextPath e → Brings rows (OfType rows) p e → OfType rows p.0 p.1 → change rows is_key p e ≡ Ok c → rep p.0 p.1 ≡ Some t → rep p.0 c ≡ Some u
      → u ≡ applied (edit_seen hamts rows p e) t
  seen p (set_at [] w) c t u texts new is h was now = sym (ap (λ o. applied (whole o) t) (ap (rep p.0) (ok_same w c h) ∙ now))
  seen p (set_at (s ∷ ss) w) c t u texts new is h was now = set_seen p s ss w c t u (last_holder rows p s ss) refl texts new is h was now
  seen p (ins_at [] w) c t u texts new is h was now = absurd cc
  seen p (ins_at (s ∷ ss) w) c t u texts new is h was now = ins_seen p s ss w c t u (last_holder rows p s ss) refl texts new is h was now
  seen p (del_at []) c t u texts new is h was now = absurd cc
  seen p (del_at (s ∷ ss)) c t u texts new is h was now = del_seen p s ss c t u (last_holder rows p s ss) refl is h was now

pub changes_are_one_change : ChangesAreOneChange
changes_are_one_change rows is_key hamts tried schema keys p e c t u texts new is h was now = seen rows is_key hamts tried schema keys p e c t u texts new is h was now
