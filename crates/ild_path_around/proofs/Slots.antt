-- The slot of the part that an edit brings.
use Rattle.std.proofs.Common.{◌≡◌, ℕ, List, [], ◌∷◌, ◌++◌, Bool, true, Option, Some, None, refl, sym, ◌∙◌, ap, subst}
use Rattle.std.specs.Prelude.{option_and_then, option_map}
use Rattle.std.proofs.lemmas.Option.{same_Some}
use Rattle.ild_path_edits.proofs.KeepTyped.{of_type_is_kept}
use Rattle.ild_path_edits.specs.Edit.{del_at, ins_at, new_slot, set_at}
use Rattle.ild_path_edits.specs.Table.{slot_to_insert, slot_to_set}
use Rattle.ild_path_around.specs.Slots.{SlotsBehind, SlotsOfFronts}
use Rattle.ild_path_within.proofs.Splitting.{first_of_path}
use Rattle.ild_schema.specs.Value.{Value}
use Rattle.ild_schema.specs.declared.number.Slot.{Slot}
use Rattle.ild_schema.specs.declared.row.Row.{Row}
use Rattle.ild_typed.specs.At.{InSlot, at, last_holder, seen}
use Rattle.ild_typed.specs.Holder.{Holder}
use Rattle.ild_typed.specs.OfType.{OfType, TestsKeys}
use Rattle.ild_typed.specs.Schema.{IsSchema}
use Rattle.ild_typed.specs.Segment.{part}
use Rattle.ild_typed_fronts.proofs.Pathing.{first_plain, rest_plain}
use Rattle.ild_typed_fronts.proofs.Seeing.{parts_of_fronts, tables_of_fronts}
use Rattle.ild_typed_fronts.specs.Front.{front_in, in_one_block}

-- what a holder tells of its segment, at the end of a path
abbrev told_last : (Holder → List ℕ → Option Slot) → List Row → InSlot → List ℕ → List (List ℕ) → Option Slot
told_last g rows p s ss = option_and_then (λ (l : Holder × List ℕ). g l.0 l.1) (last_holder rows p s ss)

abbrev told_at : (Holder → List ℕ → Option Slot) → List Row → InSlot → List (List ℕ) → Option Slot
told_at g rows p [] = None
told_at g rows p (s ∷ ss) = told_last g rows p s ss

-- one segment on
told_on : (g : Holder → List ℕ → Option Slot) (rows : List Row) (p q : InSlot) (s t : List ℕ) (ts : List (List ℕ)) → part (seen rows p) s ≡ Some q → told_last g rows p s (t ∷ ts) ≡ told_last g rows q t ts
told_on g rows p q s t ts e = ap (λ o. option_and_then (λ (l : Holder × List ℕ). g l.0 l.1) (option_and_then (λ q. last_holder rows q t ts) o)) e

first_on : (g : Holder → List ℕ → Option Slot) (rows : List Row) (p q : InSlot) (s : List ℕ) (us : List (List ℕ)) (t : List ℕ) (ts : List (List ℕ)) → us ≡ t ∷ ts → part (seen rows p) s ≡ Some q → told_last g rows p s us ≡ told_at g rows q us
first_on g rows p q s us t ts e there = subst (λ us. told_last g rows p s us ≡ told_at g rows q us) (sym e) (told_on g rows p q s t ts there)

starts : (front : List (List ℕ)) (s : List ℕ) (ss : List (List ℕ)) → (t : List ℕ) × (ts : List (List ℕ)) × (front ++ (s ∷ ss) ≡ t ∷ ts)
starts [] s ss = (s, ss, refl)
starts (t ∷ ts) s ss = (t, ts ++ (s ∷ ss), refl)

told_behind : (g : Holder → List ℕ → Option Slot) (rows : List Row) (front : List (List ℕ)) (p q : InSlot) (s : List ℕ) (ss : List (List ℕ)) → at rows p front ≡ Some q → told_at g rows p (front ++ (s ∷ ss)) ≡ told_last g rows q s ss
told_behind g rows [] p q s ss e = ap (λ r. told_last g rows r s ss) (same_Some p q e)
told_behind g rows (t ∷ ts) p q s ss e =
    let x = first_of_path rows p q t ts e in
    let b = starts ts s ss in
    first_on g rows p x.item t (ts ++ (s ∷ ss)) b.0 b.1 b.2 x.there ∙ told_behind g rows ts x.item q s ss x.made

set_is : (rows : List Row) (p : InSlot) (path : List (List ℕ)) (s : List ℕ) (ss : List (List ℕ)) (w : Value) → path ≡ s ∷ ss → new_slot rows p (set_at path w) ≡ told_at slot_to_set rows p path
set_is rows p path s ss w e = subst (λ path. new_slot rows p (set_at path w) ≡ told_at slot_to_set rows p path) (sym e) refl

ins_is : (rows : List Row) (p : InSlot) (path : List (List ℕ)) (s : List ℕ) (ss : List (List ℕ)) (w : Value) → path ≡ s ∷ ss → new_slot rows p (ins_at path w) ≡ told_at slot_to_insert rows p path
ins_is rows p path s ss w e = subst (λ path. new_slot rows p (ins_at path w) ≡ told_at slot_to_insert rows p path) (sym e) refl

pub slots_behind : SlotsBehind
slots_behind rows p q front (set_at path w) s ss there e =
    let b = starts front s ss in
    set_is rows p (front ++ path) b.0 b.1 w (ap (λ u. front ++ u) e ∙ b.2) ∙ ap (λ u. told_at slot_to_set rows p (front ++ u)) e ∙ told_behind slot_to_set rows front p q s ss there
    ∙ sym (ap (λ u. new_slot rows q (set_at u w)) e)
slots_behind rows p q front (ins_at path w) s ss there e =
    let b = starts front s ss in
    ins_is rows p (front ++ path) b.0 b.1 w (ap (λ u. front ++ u) e ∙ b.2) ∙ ap (λ u. told_at slot_to_insert rows p (front ++ u)) e ∙ told_behind slot_to_insert rows front p q s ss there
    ∙ sym (ap (λ u. new_slot rows q (ins_at u w)) e)
slots_behind rows p q front (del_at path) s ss there e = refl

module _ (h : List ℕ → List ℕ) (rows : List Row) (is_key : ℕ → List ℕ → Bool) (schema : IsSchema rows) (keys : TestsKeys rows is_key) (g : Holder → List ℕ → Option Slot)
    (same : (p : InSlot) (s : List ℕ) → OfType rows p.0 p.1 → in_one_block rows p (s ∷ []) ≡ true → g (seen rows (front_in h rows p)) s ≡ g (seen rows p) s) where
  front_step : (p : InSlot) (s t : List ℕ) (ts : List (List ℕ)) (o : Option InSlot) → part (seen rows p) s ≡ o → part (seen rows (front_in h rows p)) s ≡ option_map (front_in h rows) o
      → ((q : InSlot) → part (seen rows p) s ≡ Some q → told_last g rows (front_in h rows q) t ts ≡ told_last g rows q t ts) → told_last g rows (front_in h rows p) s (t ∷ ts) ≡ told_last g rows p s (t ∷ ts)
  front_step p s t ts None e f rest =
      ap (λ o. option_and_then (λ (l : Holder × List ℕ). g l.0 l.1) (option_and_then (λ q. last_holder rows q t ts) o)) (f ∙ sym e)
  front_step p s t ts (Some q) e f rest = told_on g rows (front_in h rows p) (front_in h rows q) s t ts f ∙ rest q e ∙ sym (told_on g rows p q s t ts e)

  front_told : (ss : List (List ℕ)) (p : InSlot) (s : List ℕ) → OfType rows p.0 p.1 → in_one_block rows p (s ∷ ss) ≡ true → told_last g rows (front_in h rows p) s ss ≡ told_last g rows p s ss
  front_told [] p s is one = same p s is one
  front_told (t ∷ ts) p s is one =
      front_step p s t ts (part (seen rows p) s) refl (parts_of_fronts h rows is_key schema keys p s is (first_plain h rows is_key schema keys p s (t ∷ ts) one))
      (λ q e. front_told ts q t ((of_type_is_kept rows is_key schema keys).parts p q s is e) (rest_plain h rows is_key schema keys p q s (t ∷ ts) one e))

pub slots_of_fronts : SlotsOfFronts
slots_of_fronts h rows is_key schema keys p (set_at path w) s ss is one e =
    ap (λ u. new_slot rows (front_in h rows p) (set_at u w)) e
    ∙ front_told h rows is_key schema keys slot_to_set (λ p s is one. (tables_of_fronts h rows is_key schema keys p s is (first_plain h rows is_key schema keys p s [] one)).set) ss p s is one
    ∙ sym (ap (λ u. new_slot rows p (set_at u w)) e)
slots_of_fronts h rows is_key schema keys p (ins_at path w) s ss is one e =
    ap (λ u. new_slot rows (front_in h rows p) (ins_at u w)) e
    ∙ front_told h rows is_key schema keys slot_to_insert (λ p s is one. (tables_of_fronts h rows is_key schema keys p s is (first_plain h rows is_key schema keys p s [] one)).inserted) ss p s is one
    ∙ sym (ap (λ u. new_slot rows p (ins_at u w)) e)
slots_of_fronts h rows is_key schema keys p (del_at path) s ss is one e = refl
