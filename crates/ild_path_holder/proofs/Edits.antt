-- Where the changed value has data, each holder on the path becomes what has data.
use Rattle.std.proofs.Common.{◌≡◌, ℕ, List, [], ◌∷◌, Bool, Some, refl, sym, ◌∙◌, ap}
use Rattle.std.specs.Prelude.{option_and_then}
use Rattle.std.specs.Option.{option_map_or}
use Rattle.ild_data.specs.Data.{Data}
use Rattle.ild_path_edits.proofs.Holders.{set_part-seen, set_part-there}
use Rattle.ild_path_edits.proofs.Kept.{IsKept}
use Rattle.ild_path_edits.proofs.KeepTyped.{of_type_is_kept}
use Rattle.ild_path_edits.proofs.Paths.{deleted_typed, inside_of, inserted_typed, set_typed, typed_changed}
use Rattle.ild_path_changes.proofs.HaveTrees.{has_trees}
use Rattle.ild_path_changes.proofs.Represented.{represents}
use Rattle.ild_path_changes.proofs.Represents.{Represents}
use Rattle.ild_path_changes.specs.LastLift.{LastEdit, deleting, inserting, last_seen, setting}
use Rattle.ild_path_changes.specs.LiftLaws.{MayDelete, MayInsert, MaySet, of_fronts}
use Rattle.ild_value_meaning.proofs.Told.{told}
use Rattle.ild_schema.proofs.Legibly.{legible}
use Rattle.ild_schema.specs.Value.{Value}
use Rattle.ild_schema.specs.declared.number.Slot.{Slot}
use Rattle.ild_schema.specs.declared.row.Row.{Row}
use Rattle.ild_typed.specs.At.{InSlot, changed_in, last_holder, seen}
use Rattle.ild_typed.specs.Hamt.{alone}
use Rattle.ild_typed.specs.Holder.{Holder, value_of}
use Rattle.ild_typed.specs.OfType.{OfType, TestsKeys}
use Rattle.ild_typed.specs.Represented.{represented}
use Rattle.ild_typed.specs.Schema.{IsSchema}
use Rattle.ild_typed.specs.Segment.{part, set_part}
use Rattle.ild_path_holder.specs.Along.{AreRepresented}
use Rattle.ild_path_holder.specs.Edits.{EditsAreCarried, IsCarried}
use Rattle.ild_path_holder.proofs.Carrying.{along}

-- what an edit that the table allows makes of the last holder is of its slot
abbrev pub Keeps : List Row → LastEdit → (Holder × List ℕ → Type 0) → Type 0
Keeps rows e May = (l : Holder × List ℕ) → May l → (q : InSlot) → OfType rows q.0 q.1 → seen rows q ≡ l.0 → OfType rows q.0 (value_of (e.made l.0 l.1))

module _ (rows : List Row) (is_key : ℕ → List ℕ → Bool) (schema : IsSchema rows) (keys : TestsKeys rows is_key) where
  kept : IsKept rows is_key (λ slot v. OfType rows slot v)
  kept = of_type_is_kept rows is_key schema keys

  abbrev Of : Slot → Value → Type 0
  Of slot v = OfType rows slot v

  abbrev Rep : Slot → Value → Data → Type 0
  Rep slot v t = represented alone rows slot v ≡ Some t

  stands : Represents rows Of Rep
  stands = represents rows is_key (told rows schema).apart (told rows schema).any_there keys (legible rows schema.accepted).clear alone (has_trees alone rows (of_fronts refl) schema.table.texts.spelled) kept

  module _ (f : Holder → List ℕ → Holder) (l : Holder × List ℕ) (typed : (q : InSlot) → OfType rows q.0 q.1 → seen rows q ≡ l.0 → OfType rows q.0 (value_of (f l.0 l.1))) where
    pub all_represented : (s : List ℕ) (ss : List (List ℕ)) (p : InSlot) (u : Data) → OfType rows p.0 p.1 → last_holder rows p s ss ≡ Some l → represented alone rows p.0 (changed_in rows f p s ss) ≡ Some u → AreRepresented rows f p s ss
    all_represented s [] p u is h new = tt
    all_represented s (t ∷ ss) p u is h new = λ q e.
        let c = changed_in rows f q t ss in
        let it = kept.parts p q s is e in
        let last : last_holder rows q t ss ≡ Some l = sym (ap (option_and_then (λ q. last_holder rows q t ss)) e) ∙ h in
        let part_of : Of q.0 c = typed_changed rows is_key Of kept f l typed q t ss it last in
        let whole : Of p.0 (value_of (set_part (seen rows p) s c)) = kept.set p s q.0 c is (kept.slots p q s is e) (kept.there p q s is e) part_of in
        let there : part (seen rows (p.0, value_of (set_part (seen rows p) s c))) s ≡ Some (q.0, c) =
        ap (λ h. part h s) (set_part-seen rows p.0 p.1 s c) ∙ set_part-there (seen rows p) s q.0 c (kept.slots p q s is e) (λ g. inside_of rows is_key Of kept q.0 c part_of g) in
        let made : represented alone rows p.0 (value_of (set_part (seen rows p) s c)) ≡ Some u =
        sym (ap (λ o. represented alone rows p.0 (option_map_or (λ q. value_of (set_part (seen rows p) s (changed_in rows f q t ss))) o p.1)) e) ∙ new in
        let n = stands.parts (p.0, value_of (set_part (seen rows p) s c)) (q.0, c) s u whole there made in
        ((n.0, n.1), all_represented t ss q n.0 it last n.1)

  -- each verb makes values of the slot
  pub set_keeps : (w : Value) → Keeps rows (setting w) (λ l. MaySet is_key l w rows)
  set_keeps w l may q is e = set_typed rows is_key Of kept l may.0 w may.1 may.2 may.3 q is e

  pub insert_keeps : (w : Value) → Keeps rows (inserting w) (λ l. MayInsert is_key l w rows)
  insert_keeps w l may q is e = inserted_typed rows is_key Of kept l may.0 w may.1 may.2 may.3 q is e

  pub delete_keeps : Keeps rows deleting MayDelete
  delete_keeps l may q is e = deleted_typed rows is_key Of kept l may q is e

  carried_by : (e : LastEdit) (May : Holder × List ℕ → Type 0) → Keeps rows e May → IsCarried rows e May
  carried_by e May typed p q s ss l u steps is last may at lead new = along rows e.made (last_seen alone rows e l.1) p q s ss steps lead at (all_represented e.made l (typed l may) s ss p u is last new)

pub edits_are_carried : EditsAreCarried
edits_are_carried rows is_key schema keys = (
  λ w. carried_by rows is_key schema keys (setting w) (λ l. MaySet is_key l w rows) (set_keeps rows is_key schema keys w),
  λ w. carried_by rows is_key schema keys (inserting w) (λ l. MayInsert is_key l w rows) (insert_keeps rows is_key schema keys w),
  carried_by rows is_key schema keys deleting MayDelete (delete_keeps rows is_key schema keys),
)
