-- No holder around a part without a text is a text.
use Rattle.std.proofs.Common.{◌≡◌, ℕ, List, [], ◌∷◌, Bool, true, false, Option, Some, None, refl, sym, ◌∙◌, ap, subst}
use Rattle.std.specs.Prelude.{IsUtf8, Ok, option_and_then}
use Rattle.std.specs.List.{AllByRecursion}
use Rattle.std.proofs.lemmas.Option.{none-some, same_Some}
use Rattle.ild_path_edits.proofs.KeepTyped.{ok_same}
use Rattle.ild_build.specs.TextRep.{text_rep}
use Rattle.ild_path_edits.proofs.LayerTesting.{judged_along}
use Rattle.ild_path_edits.proofs.Paths.{inserted_typed, last_text, may_stand, placed_typed, set_typed}
use Rattle.ild_path_edits.specs.Along.{AtPart, IsFree, IsFreeAlong, LayerPasses}
use Rattle.ild_path_edits.specs.Edit.{change, ins_in, new_slot, set_in}
use Rattle.ild_path_edits.specs.Table.{MayStand, insert_part, key_fits, slot_to_insert, slot_to_set}
use Rattle.ild_path_judged.proofs.Last.{came, held_of, kept, parts_of}
use Rattle.ild_path_judged.proofs.Parts.{part_free}
use Rattle.ild_path_judged.specs.Laws.{IsSound}
use Rattle.ild_path_judged.specs.Place.{bringing}
use Rattle.ild_path_room.specs.Room.{Coming, brought, by_insert, by_set, slot_for}
use Rattle.ild_path_textless.proofs.Slots.{HasTexts, coming_text, set_text, silent, text_slots}
use Rattle.ild_path_textless.proofs.Values.{has_text}
use Rattle.ild_path_textless.specs.Textless.{TextlessBreakNothing}
use Rattle.ild_schema.specs.Made.{IsTextSlot}
use Rattle.ild_schema.specs.Slots.{form_of}
use Rattle.ild_schema.specs.Value.{Value}
use Rattle.ild_schema.specs.declared.number.Slot.{Slot}
use Rattle.ild_schema.specs.declared.row.Row.{Row}
use Rattle.ild_typed.proofs.Judging.{tree_sound}
use Rattle.ild_typed.specs.At.{InSlot, changed_in, last_holder, seen}
use Rattle.ild_typed.specs.Holder.{Holder, any_elements, any_entries, elements, entries, fields, member, nothing, value_of}
use Rattle.ild_typed.specs.Judged.{breaks, breaks_delimiter}
use Rattle.ild_typed.specs.OfType.{OfType, TestsKeys}
use Rattle.ild_typed.specs.Schema.{IsSchema}
use Rattle.ild_typed.specs.Segment.{part, set_part}

passes : (rows : List Row) (slot : Slot) → ((v : Value) → breaks rows (form_of rows slot) v ≡ false) → (k : Holder) → LayerPasses (breaks rows) rows slot k
passes rows slot all (fields fs os) = all (value_of (fields fs os))
passes rows slot all (member ms n v) = all (value_of (member ms n v))
passes rows slot all (entries key elem paired ps) = all (value_of (entries key elem paired ps))
passes rows slot all (elements elem vs) = all (value_of (elements elem vs))
passes rows slot all (any_entries ms) = tt
passes rows slot all (any_elements ds) = tt
passes rows slot all (nothing v) = tt

module _ (h : List ℕ → List ℕ) (rows : List Row) (is_key : ℕ → List ℕ → Bool) (schema : IsSchema rows) (keys : TestsKeys rows is_key) (how : Coming) (slot : Slot) (w : Value) (new : OfType rows slot w)
    (sound : breaks_delimiter rows slot w ≡ false) (none : text_rep rows slot w ≡ None) where
  abbrev OfT : InSlot → Type 0
  OfT p = OfType rows p.0 p.1

  no_text : IsTextSlot rows slot → ⊥
  no_text text = let x = has_text rows is_key schema h keys slot w text new sound in none-some x.0 (sym none ∙ x.1)

  -- what comes into a text stands as a text
  down : (ss : List (List ℕ)) (p : InSlot) (s : List ℕ) (l : Holder × List ℕ) → OfT p → HasTexts rows (form_of rows p.0) → last_holder rows p s ss ≡ Some l → slot_for how l.0 l.1 ≡ Some slot → IsTextSlot rows slot
  down [] p s l is texts e there =
      let here : slot_for how (seen rows p) s ≡ Some slot = subst (λ (l : Holder × List ℕ). slot_for how l.0 l.1 ≡ Some slot) (sym (same_Some (seen rows p, s) l e)) there in
      coming_text rows schema is_key keys how p.0 (seen rows p) s slot (held_of rows is_key schema keys p.0 p.1 is) texts here
  down (t ∷ ss) p s l is texts e there =
      let k = kept rows is_key schema keys in
      by (part (seen rows p) s) refl e
      (λ q g last.
      let text = set_text rows schema is_key keys p.0 (seen rows p) s q.0 (held_of rows is_key schema keys p.0 p.1 is) texts (k.slots p q s is g) in
      down ss q t l (k.parts p q s is g) (text_slots rows schema q.0 text) last there)
    where
      by : (o : Option InSlot) → part (seen rows p) s ≡ o → option_and_then (λ q. last_holder rows q t ss) o ≡ Some l
          → ((q : InSlot) → part (seen rows p) s ≡ Some q → last_holder rows q t ss ≡ Some l → IsTextSlot rows slot) → IsTextSlot rows slot
      by None g last rest = absurd (none-some l last)
      by (Some q) g last rest = rest q g last

  -- so a holder on the path has no delimiter rule, whatever becomes of it
  quiet : (ss : List (List ℕ)) (p : InSlot) (s : List ℕ) (l : Holder × List ℕ) → OfT p → last_holder rows p s ss ≡ Some l → slot_for how l.0 l.1 ≡ Some slot → (k : Holder) → LayerPasses (breaks rows) rows p.0 k
  quiet ss p s l is last there k = passes rows p.0 (silent rows schema p.0 (λ texts. no_text (down ss p s l is texts last there))) k

  along : (ss : List (List ℕ)) (p : InSlot) (s : List ℕ) (l : Holder × List ℕ) → OfT p → IsFree (breaks rows) rows p.0 p.1 → last_holder rows p s ss ≡ Some l → slot_for how l.0 l.1 ≡ Some slot → MayStand is_key l.0 l.1
      → IsFreeAlong (breaks rows) rows (brought how w) p s ss
  along [] p s l is free e there stands =
      let back = sym (same_Some (seen rows p, s) l e) in
      let here : slot_for how (seen rows p) s ≡ Some slot = subst (λ (l : Holder × List ℕ). slot_for how l.0 l.1 ≡ Some slot) back there in
      let may : MayStand is_key (seen rows p) s = subst (λ (l : Holder × List ℕ). MayStand is_key l.0 l.1) back stands in
      (came rows is_key schema keys (breaks rows) how p s slot w is free here may new).1 (quiet [] p s l is e there (brought how w (seen rows p) s), sound)
  along (t ∷ ss) p s l is free e there stands =
      by (part (seen rows p) s) refl e
      (λ q g last.
      let inner = part_free (breaks rows) rows (seen rows p) s q (parts_of rows is_key schema keys (breaks rows) p.0 p.1 is free).1 g in (
        quiet (t ∷ ss) p s l is e there (set_part (seen rows p) s (changed_in rows (brought how w) q t ss)),
        along ss q t l ((kept rows is_key schema keys).parts p q s is g) inner last there stands,
      ))
    where
      Below : InSlot → Type 0
      Below q = LayerPasses (breaks rows) rows p.0 (set_part (seen rows p) s (changed_in rows (brought how w) q t ss)) × IsFreeAlong (breaks rows) rows (brought how w) q t ss

      by : (o : Option InSlot) → part (seen rows p) s ≡ o → option_and_then (λ q. last_holder rows q t ss) o ≡ Some l → ((q : InSlot) → part (seen rows p) s ≡ Some q → last_holder rows q t ss ≡ Some l → Below q) → AtPart o Below
      by None g last rest = tt
      by (Some q) g last rest = rest q g last

  typed_by : (how : Coming) (l : Holder × List ℕ) → slot_for how l.0 l.1 ≡ Some slot → MayStand is_key l.0 l.1 → (q : InSlot) → OfT q → seen rows q ≡ l.0 → OfType rows q.0 (value_of (brought how w l.0 l.1))
  typed_by by_set l there stands q is same = set_typed rows is_key (λ slot v. OfType rows slot v) (kept rows is_key schema keys) l slot w there stands new q is same
  typed_by by_insert l there stands q is same = inserted_typed rows is_key (λ slot v. OfType rows slot v) (kept rows is_key schema keys) l slot w there stands new q is same

  pub nothing_breaks : (p : InSlot) (s : List ℕ) (ss : List (List ℕ)) (l : Holder × List ℕ) → OfT p → breaks_delimiter rows p.0 p.1 ≡ false → last_holder rows p s ss ≡ Some l → slot_for how l.0 l.1 ≡ Some slot
      → AllByRecursion IsUtf8 (s ∷ ss) → key_fits is_key l.0 l.1 ≡ true → breaks_delimiter rows p.0 (changed_in rows (brought how w) p s ss) ≡ false
  nothing_breaks p s ss l is free e there texts fits =
      let stands = may_stand is_key l.0 l.1 (last_text rows is_key (λ slot v. OfType rows slot v) (kept rows is_key schema keys) p s ss l texts e) fits in
      (judged_along rows is_key (breaks rows) schema keys (brought how w) l (typed_by how l there stands) p s ss is free e).1 (along ss p s l is free e there stands)

told : (g : Holder × List ℕ → Option Slot) (o : Option (Holder × List ℕ)) (l : Holder × List ℕ) (slot : Slot) → o ≡ Some l → option_and_then g o ≡ Some slot → g l ≡ Some slot
told g o l slot e there = sym (ap (option_and_then g) e) ∙ there

module _ (h : List ℕ → List ℕ) (rows : List Row) (is_key : ℕ → List ℕ → Bool) (schema : IsSchema rows) (keys : TestsKeys rows is_key) (limit : ℕ) (p : InSlot) (whole : IsSound h rows limit p) where
  it : OfType rows p.0 p.1
  it = (limit, whole.fits)

  free : breaks_delimiter rows p.0 p.1 ≡ false
  free = (tree_sound h rows p.0 p.1 whole.tree whole.represents).2

  breaks_nothing : (how : Coming) (path : List (List ℕ)) (slot : Slot) (w c : Value) → AllByRecursion IsUtf8 path → new_slot rows p (bringing how path w) ≡ Some slot → OfType rows slot w
      → breaks_delimiter rows slot w ≡ false → text_rep rows slot w ≡ None → change rows is_key p (bringing how path w) ≡ Ok c → breaks_delimiter rows p.0 c ≡ false
  breaks_nothing by_set [] slot w c texts there new sound none made = (λ i. breaks_delimiter rows (same_Some p.0 slot there i) (sym (ok_same w c made) i)) ∙ sound
  breaks_nothing by_set (s ∷ ss) slot w c texts there new sound none made = by (last_holder rows p s ss) refl made where
    by : (o : Option (Holder × List ℕ)) → last_holder rows p s ss ≡ o → set_in is_key (changed_in rows (λ k t. set_part k t w) p s ss) o ≡ Ok c → breaks_delimiter rows p.0 c ≡ false
    by None e m = absurd cc
    by (Some l) e m =
        let at = told (λ l. slot_to_set l.0 l.1) (last_holder rows p s ss) l slot e there in
        placed_typed (λ c. breaks_delimiter rows p.0 c ≡ false) (key_fits is_key l.0 l.1) (changed_in rows (λ k t. set_part k t w) p s ss) (slot_to_set l.0 l.1) c m
        (λ u is fits. nothing_breaks h rows is_key schema keys by_set slot w new sound none p s ss l it free e at texts fits)
  breaks_nothing by_insert [] slot w c texts there new sound none made = absurd (none-some slot there)
  breaks_nothing by_insert (s ∷ ss) slot w c texts there new sound none made = by (last_holder rows p s ss) refl made where
    by : (o : Option (Holder × List ℕ)) → last_holder rows p s ss ≡ o → ins_in is_key (changed_in rows (λ k t. insert_part k t w) p s ss) o ≡ Ok c → breaks_delimiter rows p.0 c ≡ false
    by None e m = absurd cc
    by (Some l) e m =
        let at = told (λ l. slot_to_insert l.0 l.1) (last_holder rows p s ss) l slot e there in
        placed_typed (λ c. breaks_delimiter rows p.0 c ≡ false) (key_fits is_key l.0 l.1) (changed_in rows (λ k t. insert_part k t w) p s ss) (slot_to_insert l.0 l.1) c m
        (λ u is fits. nothing_breaks h rows is_key schema keys by_insert slot w new sound none p s ss l it free e at texts fits)

pub textless_break_nothing : TextlessBreakNothing
textless_break_nothing = λ h rows is_key schema keys limit p whole how path slot w c texts there new sound none made. breaks_nothing h rows is_key schema keys limit p whole how path slot w c texts there new sound none made
