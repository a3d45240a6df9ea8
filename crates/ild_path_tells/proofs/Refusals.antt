-- Why there is no place at the end of a path is why an edit is refused there.
use Rattle.std.proofs.Common.{cond, ◌≡◌, ℕ, List, [], ◌∷◌, Bool, true, false, is_some, Option, Some, None, Result, Ok, Err, refl, ap, sym, ◌∙◌}
use Rattle.std.specs.Prelude.{option_and_then}
use Rattle.std.specs.Option.{option_map_or}
use Rattle.std.proofs.lemmas.Option.{none-some}
use Rattle.ild_data.specs.Key.{same_text, value_at}
use Rattle.ild_path_edits.proofs.Stops.{err_same}
use Rattle.ild_path_edits.specs.Edit.{del_in, unless_kept}
use Rattle.ild_path_edits.specs.Stop.{fault_by, may_delete}
use Rattle.ild_path_edits.specs.Table.{field_kept, if_present, never, refusal_to_delete, slot_to_insert, slot_to_set, unless_there}
use Rattle.ild_path_place.specs.Places.{IsKept, SlotIs, path_fault}
use Rattle.ild_path_place.specs.declared.verb.Verb.{Verb}
use Rattle.ild_path_place.specs.declared.verb.Verb.TheVariants as V
use Rattle.ild_path_tells.specs.Facts.{refusal_at, unless_some}
use Rattle.ild_path_tells.specs.Tells.{FaultsAreRefusals}
use Rattle.ild_schema.specs.declared.def.Field.{Field}
use Rattle.ild_schema.specs.declared.number.Slot.{Slot}
use Rattle.ild_schema.specs.declared.row.Row.{Row}
use Rattle.ild_schema.specs.Value.{Value}
use Rattle.ild_script.specs.declared.reply.No.{No}
use Rattle.ild_script.specs.declared.reply.No.TheVariants as N
use Rattle.ild_typed.specs.At.{InSlot, last_holder}
use Rattle.ild_typed.specs.Holder.{Holder, any_elements, any_entries, elements, entries, fields, member, nothing}
use Rattle.ild_typed.specs.Segment.{held_as, index_of}

-- ---- why what is there can't be deleted

abbrev IsCause : Option No → Type 0
IsCause None = Unit {0}
IsCause (Some N.Path) = Unit {0}
IsCause (Some N.Mismatch) = Unit {0}
IsCause (Some e) = ⊥

there_cause : {X : Type 0} (o : Option X) → IsCause (unless_there o)
there_cause None = tt
there_cause (Some x) = tt

never_cause : {X : Type 0} (o : Option X) → IsCause (never o)
never_cause None = tt
never_cause (Some x) = tt

field_cause : (s : List ℕ) (fs : List Field) (os : List (Option Value)) → IsCause (field_kept s fs os)
field_cause s [] os = tt
field_cause s (f ∷ fs) [] = tt
field_cause s (f ∷ fs) (o ∷ os) = by (same_text s f.name) o f.optional (field_cause s fs os) where
  by : (b : Bool) (o : Option Value) (optional : Bool) → IsCause (field_kept s fs os) → IsCause (cond b (if_present optional o) (field_kept s fs os))
  by true None optional rest = tt
  by true (Some v) true rest = tt
  by true (Some v) false rest = tt
  by false o optional rest = rest

cause : (k : Holder) (s : List ℕ) → IsCause (refusal_to_delete k s)
cause (fields fs os) s = field_cause s fs os
cause (member ms n v) s = never_cause (held_as s v _)
cause (entries key slot paired ps) s = there_cause (value_at s ps)
cause (elements slot vs) s = there_cause (option_and_then _ (index_of s))
cause (any_entries ms) s = there_cause (value_at s ms)
cause (any_elements ds) s = there_cause (option_and_then _ (index_of s))
cause (nothing v) s = tt

-- ---- faults, by the last holder

abbrev Allows : Type 0
Allows = Holder → List ℕ → Bool

allowed_by : (stop last : ℕ) (allows : Allows) (l : Holder × List ℕ) → allows l.0 l.1 ≡ true → fault_by stop last allows (Some l) ≡ None
allowed_by stop last allows l t = rw t refl

refused_by : (stop last : ℕ) (allows : Allows) (l : Holder × List ℕ) → allows l.0 l.1 ≡ false → fault_by stop last allows (Some l) ≡ Some last
refused_by stop last allows l t = rw t refl

abbrev Deletes : Allows
Deletes h t = may_delete (refusal_to_delete h t)

-- nothing at fault is deleted
goes : (stop last : ℕ) (c : Value) (o : Option (Holder × List ℕ)) → fault_by stop last Deletes o ≡ None → (((is_key : ℕ → List ℕ → Bool) → del_in c o ≡ Err N.Mismatch) → ⊥)
    → option_map_or (λ (l : Holder × List ℕ). refusal_to_delete l.0 l.1) o (Some N.Path) ≡ None
goes stop last c None free may = absurd (none-some stop (sym free))
goes stop last c (Some l) free may = by (refusal_to_delete l.0 l.1) refl (cause l.0 l.1) where
  by : (r : Option No) → refusal_to_delete l.0 l.1 ≡ r → IsCause r → refusal_to_delete l.0 l.1 ≡ None
  by None e is = e
  by (Some N.Path) e is = absurd (none-some last (sym free ∙ refused_by stop last Deletes l (ap may_delete e)))
  by (Some N.Mismatch) e is = absurd (may (λ is_key. ap (unless_kept c) e))
  by (Some n) e is = absurd is

-- what is at fault is refused as a path
nowhere : (stop last k : ℕ) (o : Option (Holder × List ℕ)) → fault_by stop last Deletes o ≡ Some k → option_map_or (λ (l : Holder × List ℕ). refusal_to_delete l.0 l.1) o (Some N.Path) ≡ Some N.Path
nowhere stop last k None fault = refl
nowhere stop last k (Some l) fault = by (refusal_to_delete l.0 l.1) refl (cause l.0 l.1) where
  by : (r : Option No) → refusal_to_delete l.0 l.1 ≡ r → IsCause r → refusal_to_delete l.0 l.1 ≡ Some N.Path
  by None e is = absurd (none-some k (sym (allowed_by stop last Deletes l (ap may_delete e)) ∙ fault))
  by (Some N.Path) e is = e
  by (Some N.Mismatch) e is = absurd (none-some k (sym (allowed_by stop last Deletes l (ap may_delete e)) ∙ fault))
  by (Some n) e is = absurd is

-- nothing comes to it
none_comes : (slot_for : Holder → List ℕ → Option Slot) (stop last k : ℕ) (o : Option (Holder × List ℕ)) → fault_by stop last (λ h t. is_some (slot_for h t)) o ≡ Some k
    → option_and_then (λ (l : Holder × List ℕ). slot_for l.0 l.1) o ≡ None
none_comes slot_for stop last k None fault = refl
none_comes slot_for stop last k (Some l) fault = by (slot_for l.0 l.1) refl where
  by : (r : Option Slot) → slot_for l.0 l.1 ≡ r → slot_for l.0 l.1 ≡ None
  by None e = e
  by (Some u) e = absurd (none-some k (sym (allowed_by stop last (λ h t. is_some (slot_for h t)) l (ap is_some e)) ∙ fault))

kept_by : (c : Value) (o : Option (Holder × List ℕ)) → del_in c o ≡ Err N.Mismatch → option_map_or (λ (l : Holder × List ℕ). refusal_to_delete l.0 l.1) o (Some N.Path) ≡ Some N.Mismatch
kept_by c None e = ap (λ (n : No). Some n) (err_same N.Path N.Mismatch e)
kept_by c (Some l) e = by (refusal_to_delete l.0 l.1) refl where
  by : (r : Option No) → refusal_to_delete l.0 l.1 ≡ r → refusal_to_delete l.0 l.1 ≡ Some N.Mismatch
  by None is = absurd (not_err (sym (ap (unless_kept c) is) ∙ e)) where
    not_err : ◌≡◌ {A = Result Value No} (Ok c) (Err N.Mismatch) → ⊥
    not_err h = absurd cc
  by (Some n) is = is ∙ ap (λ (n : No). Some n) (err_same n N.Mismatch (sym (ap (unless_kept c) is) ∙ e))

-- ---- at the end of a path

module _ (rows : List Row) (p : InSlot) where
  -- where there is a place, nothing is refused
  pub allowed_at : (path : List (List ℕ)) (verb : Verb) (slot : Slot) → path_fault rows p path verb ≡ None → (IsKept rows p path verb → ⊥) → SlotIs rows p path verb slot → refusal_at rows p path verb ≡ None
  allowed_at path V.Set slot free may is = ap (λ (o : Option Slot). unless_some o) is
  allowed_at path V.Ins slot free may is = ap (λ (o : Option Slot). unless_some o) is
  allowed_at [] V.Del slot free may is = absurd (may (λ is_key. refl))
  allowed_at (s ∷ ss) V.Del slot free may is = goes _ _ _ (last_holder rows p s ss) free may

  -- where the path leads nowhere, it is refused
  pub nowhere_at : (path : List (List ℕ)) (verb : Verb) (k : ℕ) → path_fault rows p path verb ≡ Some k → refusal_at rows p path verb ≡ Some N.Path
  nowhere_at [] V.Set k e = absurd (none-some k e)
  nowhere_at (s ∷ ss) V.Set k e = ap (λ (o : Option Slot). unless_some o) (none_comes slot_to_set _ _ k (last_holder rows p s ss) e)
  nowhere_at [] V.Ins k e = refl
  nowhere_at (s ∷ ss) V.Ins k e = ap (λ (o : Option Slot). unless_some o) (none_comes slot_to_insert _ _ k (last_holder rows p s ss) e)
  nowhere_at [] V.Del k e = absurd (none-some k e)
  nowhere_at (s ∷ ss) V.Del k e = nowhere _ _ k (last_holder rows p s ss) e

  -- what is there can't be deleted
  pub kept_at : (path : List (List ℕ)) (verb : Verb) → IsKept rows p path verb → refusal_at rows p path verb ≡ Some N.Mismatch
  kept_at path V.Set is = absurd is
  kept_at path V.Ins is = absurd is
  kept_at [] V.Del is = refl
  kept_at (s ∷ ss) V.Del is = kept_by _ (last_holder rows p s ss) (is (λ n k. false))

pub faults_are_refusals : FaultsAreRefusals
faults_are_refusals = λ rows p path verb. record { nowhere = λ k e. nowhere_at rows p path verb k e; kept = λ is. kept_at rows p path verb is }
