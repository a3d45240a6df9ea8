-- What comes into a holder that is no list is set in it.
use Rattle.std.proofs.Common.{◌≡◌, ℕ, List, [], ◌∷◌, Bool, true, false, cond, Option, Some, None, refl, ap}
use Rattle.std.proofs.lemmas.Option.{none-some, same_Some}
use Rattle.ild_data.specs.Key.{same_text}
use Rattle.ild_path_edits.specs.Table.{declared_slot, if_absent, insert_part, slot_left_out, slot_to_insert, slot_to_set}
use Rattle.ild_schema.specs.Prelude.{anything}
use Rattle.ild_schema.specs.Value.{Value}
use Rattle.ild_schema.specs.declared.def.Field.{Field}
use Rattle.ild_schema.specs.declared.number.Slot.{Slot}
use Rattle.ild_typed.specs.Holder.{Holder, any_elements, any_entries, elements, entries, fields, member, nothing}
use Rattle.ild_typed.specs.Segment.{set_part}

slot_if : (b : Bool) (u slot : Slot) → cond b None (Some slot) ≡ Some u → slot ≡ u
slot_if true u slot e = absurd (none-some u e)
slot_if false u slot e = same_Some slot u e

absent_is : (slot u : Slot) (optional : Bool) (o : Option Value) → if_absent slot optional o ≡ Some u → slot ≡ u
absent_is slot u optional (Some v) e = absurd (none-some u e)
absent_is slot u true None e = same_Some slot u e
absent_is slot u false None e = absurd (none-some u e)

left_at : (f : Field) (o : Option Value) (u : Slot) (b : Bool) (r q : Option Slot) → cond b (if_absent f.slot f.optional o) r ≡ Some u → (r ≡ Some u → q ≡ Some u) → cond b (Some f.slot) q ≡ Some u
left_at f o u true r q e rest = ap Some (absent_is f.slot u f.optional o e)
left_at f o u false r q e rest = rest e

left_declared : (s : List ℕ) (fs : List Field) (os : List (Option Value)) (u : Slot) → slot_left_out s fs os ≡ Some u → declared_slot s fs os ≡ Some u
left_declared s [] os u e = absurd (none-some u e)
left_declared s (f ∷ fs) [] u e = absurd (none-some u e)
left_declared s (f ∷ fs) (o ∷ os) u e = left_at f o u (same_text s f.name) (slot_left_out s fs os) (declared_slot s fs os) e (λ g. left_declared s fs os u g)

-- what comes into a list has a place of its own, and all else is set
abbrev pub is_list : Holder → Bool
is_list (elements elem vs) = true
is_list (any_elements ds) = true
is_list h = false

pub as_set : (h : Holder) (s : List ℕ) (u : Slot) (w : Value) → is_list h ≡ false → slot_to_insert h s ≡ Some u → (insert_part h s w ≡ set_part h s w) × (slot_to_set h s ≡ Some u)
as_set (fields fs os) s u w e at = (refl, left_declared s fs os u at)
as_set (member ms n v) s u w e at = absurd (none-some u at)
as_set (entries key elem paired ps) s u w e at = (refl, ap Some (slot_if _ u elem at))
as_set (elements elem vs) s u w e at = absurd cc
as_set (any_entries ms) s u w e at = (refl, ap Some (slot_if _ u anything at))
as_set (any_elements ds) s u w e at = absurd cc
as_set (nothing v) s u w e at = absurd (none-some u at)
