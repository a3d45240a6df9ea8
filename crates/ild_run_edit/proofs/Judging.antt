-- The part that an edit brings, judged at its place, tells the first refusal of the changed value.
use Rattle.std.proofs.Common.{cond, ◌≡◌, ℕ, List, [], ◌∷◌, Bool, true, false, Option, Some, None, refl, ap, sym, subst, ◌∙◌}
use Rattle.std.specs.Prelude.{◌↔◌, IsUtf8, unwrap_or, option_and_then, Ok, Err}
use Rattle.std.specs.List.{AllByRecursion}
use Rattle.std.specs.Option.{option_map_or}
use Rattle.std.proofs.lemmas.Option.{none-some, same_Some}
use Rattle.ild_build.specs.IsJudged.{IsJudged}
use Rattle.ild_build.specs.declared.judgement.Judged.{Judged}
use Rattle.ild_build.specs.declared.judgement.Judged.TheVariants as J
use Rattle.ild_schema.specs.declared.number.Slot.{Slot}
use Rattle.ild_schema.specs.declared.number.TypeNo.{TypeNo}
use Rattle.ild_schema.specs.declared.row.Row.{Row}
use Rattle.ild_schema.specs.Slots.{plainly}
use Rattle.ild_schema.specs.Value.{Value}
use Rattle.ild_script.specs.declared.reply.No.{No}
use Rattle.ild_script.specs.declared.reply.No.TheVariants as N
use Rattle.ild_typed.specs.At.{InSlot, last_holder, changed_in}
use Rattle.ild_typed.specs.Fits.{Fits}
use Rattle.ild_typed.specs.Holder.{Holder}
use Rattle.ild_typed.specs.Judged.{has_hole, breaks_delimiter, exhausts}
use Rattle.ild_typed.specs.OfType.{OfType}
use Rattle.ild_typed.specs.Schema.{IsSchema}
use Rattle.ild_typed.specs.Segment.{set_part}
use Rattle.ild_typed.specs.Stands.{bare}
use Rattle.ild_typed.specs.Typed.{Typed}
use Rattle.ild_path_edits.specs.Edit.{Edit, set_at, ins_at, new_slot, placed, set_in, ins_in, change, HasTextPath}
use Rattle.ild_path_edits.specs.EditLaws.{Brings}
use Rattle.ild_path_edits.specs.Judged.{Tests, AreTests, judged, unless_judged, judged_result}
use Rattle.ild_path_edits.specs.Table.{key_fits, slot_to_set, slot_to_insert, insert_part}
use Rattle.ild_path_edits.proofs.KeepTyped.{edits_keep_typed}
use Rattle.ild_path_judged.specs.Laws.{IsSound, IsJudgedBy, IsRefusedInOrder}
use Rattle.ild_path_judged.specs.Place.{bringing, exhausts_at, hole_at}
use Rattle.ild_path_judged.proofs.Judging.{coming_is_judged}
use Rattle.ild_path_judged.proofs.Order.{refused_in_order, unrefused_have_data}
use Rattle.ild_path_around.specs.Telling.{key_at, verb_of}
use Rattle.ild_path_around.specs.Telling.{IsPlaceIn}
use Rattle.ild_path_place.specs.Exhausting.{Exhausts}
use Rattle.ild_path_place.specs.Parts.{end_in, verb_in}
use Rattle.ild_path_place.specs.Tells.{fits_in, hole_in, room_in, slot_in, table_at}
use Rattle.ild_path_place.specs.declared.place.Place.{Place}
use Rattle.ild_path_room.specs.Room.{Coming, by_set, by_insert, FitsIn}
use Rattle.ild_run_edit.specs.inside.Judges.{first_told, IsPartRefusal, IsFreePart, ChangeJudged}
use Rattle.ild_run_edit.proofs.Deciding.{Judges, FitsIt, Outcome, decided, undecided}

-- ---- the change, where there is a slot

module _ (rows : List Row) (is_key : ℕ → List ℕ → Bool) (p : InSlot) where
  pub record ByKey (e : Edit Value) (key : Bool) : Type 0 where
    pub fits : key ≡ true → (c : Value) × (change rows is_key p e ≡ Ok c)
    pub wrong : key ≡ false → change rows is_key p e ≡ Err N.Mismatch

  placed_by : (b key : Bool) (d : Value) (o : Option Slot) (slot : Slot) → o ≡ Some slot → b ≡ key → (key ≡ true → (c : Value) × (placed b d o ≡ Ok c)) × (key ≡ false → placed b d o ≡ Err N.Mismatch)
  placed_by b key d o slot e same = (
    λ k. (d, ap (placed b d) e ∙ ap (λ x. cond x (Ok d) (Err N.Mismatch)) (same ∙ k)),
    λ k. ap (placed b d) e ∙ ap (λ x. cond x (Ok d) (Err N.Mismatch)) (same ∙ k),
  )

  pub by_key : (how : Coming) (path : List (List ℕ)) (w : Value) (slot : Slot) → new_slot rows p (bringing how path w) ≡ Some slot → ByKey (bringing how path w) (key_at is_key rows p path)
  by_key by_set [] w slot e = record { fits = λ k. (w, refl); wrong = λ k. absurd (let f : true ≡ false = k in cc) }
  by_key by_set (s ∷ ss) w slot e = by (last_holder rows p s ss) refl e where
    by : (o : Option (Holder × List ℕ)) → last_holder rows p s ss ≡ o → option_and_then (λ (l : Holder × List ℕ). slot_to_set l.0 l.1) o ≡ Some slot → ByKey (set_at (s ∷ ss) w) (key_at is_key rows p (s ∷ ss))
    by None f g = absurd (none-some slot g)
    by (Some l) f g =
        let d = changed_in rows (λ h t. set_part h t w) p s ss in
        let x = placed_by (key_fits is_key l.0 l.1) (key_at is_key rows p (s ∷ ss)) d (slot_to_set l.0 l.1) slot g (sym (ap (λ o. option_map_or (λ (l : Holder × List ℕ). key_fits is_key l.0 l.1) o true) f)) in
        record { fits = λ k. let y = x.0 k in (y.0, ap (set_in is_key d) f ∙ y.1); wrong = λ k. ap (set_in is_key d) f ∙ x.1 k }
  by_key by_insert [] w slot e = absurd (none-some slot e)
  by_key by_insert (s ∷ ss) w slot e = by (last_holder rows p s ss) refl e where
    by : (o : Option (Holder × List ℕ)) → last_holder rows p s ss ≡ o → option_and_then (λ (l : Holder × List ℕ). slot_to_insert l.0 l.1) o ≡ Some slot → ByKey (ins_at (s ∷ ss) w) (key_at is_key rows p (s ∷ ss))
    by None f g = absurd (none-some slot g)
    by (Some l) f g =
        let d = changed_in rows (λ h t. insert_part h t w) p s ss in
        let x = placed_by (key_fits is_key l.0 l.1) (key_at is_key rows p (s ∷ ss)) d (slot_to_insert l.0 l.1) slot g (sym (ap (λ o. option_map_or (λ (l : Holder × List ℕ). key_fits is_key l.0 l.1) o true) f)) in
        record { fits = λ k. let y = x.0 k in (y.0, ap (ins_in is_key d) f ∙ y.1); wrong = λ k. ap (ins_in is_key d) f ∙ x.1 k }

-- ---- judged

module _ (rows : List Row) (slot : Slot) (w : Value) where
  judges : (n : ℕ) (j : Option Judged) → IsJudged rows n slot w j → Judges (has_hole rows slot w) (breaks_delimiter rows slot w) (λ n. Fits rows n slot w) n j
  judges n (Some J.Hole) k = k
  judges n (Some J.Delimiter) k = k
  judges n (Some J.Depth) k = k
  judges n None k = k

  fits_it : (o : Option ℕ) → FitsIn rows slot w o → FitsIt (λ n. Fits rows n slot w) o
  fits_it None x = x
  fits_it (Some n) x = x

  fits_back : (o : Option ℕ) → FitsIt (λ n. Fits rows n slot w) o → FitsIn rows slot w o
  fits_back None x = x
  fits_back (Some n) x = x

-- a part of which nothing is told is free by itself
pub free_part : (place : Place) (w : Value) (o : Option No) → IsPartRefusal place w o → o ≡ None → IsFreePart place w
free_part place w o r e =
    let rows = table_at place in
    let x = undecided (has_hole rows (slot_in place) w) (breaks_delimiter rows (slot_in place) w) (λ n. Fits rows n (slot_in place) w) (fits_in place) (hole_in place) r.around r.full r.judged (room_in place)
    (judges rows (slot_in place) w (unwrap_or (room_in place) 96) r.judged r.by) (sym r.is ∙ e) in
    record { hole = x.0; delimiter = x.1; room = (x.2).0; room_is = (x.2).1; fits = (x.2).2 }

pub path_texts : (how : Coming) (path : List (List ℕ)) (w : Value) → AllByRecursion IsUtf8 path → HasTextPath (bringing how path w)
path_texts by_set path w t = t
path_texts by_insert path w t = t

pub brings_part : (rows : List Row) (how : Coming) (p : InSlot) (path : List (List ℕ)) (w : Value) (slot : Slot) → new_slot rows p (bringing how path w) ≡ Some slot → Typed rows slot w → Brings rows (Typed rows) p (bringing how path w)
brings_part rows by_set p path w slot e t = λ u f. subst (λ s. Typed rows s w) (same_Some slot u (sym e ∙ f)) t
brings_part rows by_insert p path w slot e t = λ u f. subst (λ s. Typed rows s w) (same_Some slot u (sym e ∙ f)) t

module _ (h : List ℕ → List ℕ) (t : Tests) (n : TypeNo) (v : Value) (place : Place) (w : Value) (how : Coming) (path : List (List ℕ)) (was : List (List ℕ))
    (schema : IsSchema (table_at place)) (tests : AreTests (table_at place) t) (typed : Typed (table_at place) (plainly n) v) (sound : IsSound h (table_at place) 96 (plainly n, v)) (texts : AllByRecursion IsUtf8 path)
    (new : Typed (table_at place) (slot_in place) w) (is : IsPlaceIn h (table_at place) was (plainly n, v) path (verb_of how) place) where
  abbrev rows : List Row
  rows = table_at place

  abbrev p : InSlot
  p = (plainly n, v)

  abbrev E : Edit Value
  E = bringing how path w

  slot_is : new_slot rows p E ≡ Some (slot_in place)
  slot_is = is.slot_is how w refl

  of_type : OfType rows (slot_in place) w
  of_type = (new.0, new.1)

  module _ (c : Value) (made : change rows t.is_key p E ≡ Ok c) where
    judged_by : IsJudgedBy h rows 96 p how path (slot_in place) w c
    judged_by = coming_is_judged h rows t.is_key schema tests.keys 96 p sound how path (slot_in place) w c texts slot_is of_type made

    c_typed : Typed rows (plainly n) c
    c_typed = edits_keep_typed rows t.is_key schema tests.keys p E c (path_texts how path w texts) (brings_part rows how p path w (slot_in place) slot_is new) typed made

    -- the place tells of a HAMT where the part has data
    told_full : (full : Bool) → Exhausts (verb_in place) (end_in place) full → has_hole rows (slot_in place) w ≡ false → breaks_delimiter rows (slot_in place) w ≡ false → exhausts h rows (slot_in place) w ≡ false
        → full ≡ exhausts_at h rows p E
    told_full full told a b e = let d = unrefused_have_data h rows schema (slot_in place) w new a b e in is.exhausted_is full told how w d.0 refl d.1

    depth_is : Fits rows 96 p.0 c ↔ FitsIt (λ n. Fits rows n (slot_in place) w) (room_in place)
    depth_is = let x = judged_by.depth (room_in place) (is.room_is how refl) in (λ f. fits_it rows (slot_in place) w (room_in place) (x.0 f), λ f. x.1 (fits_back rows (slot_in place) w (room_in place) f))

    refused : IsRefusedInOrder bare h rows t n c
    refused = refused_in_order bare h rows t tests n c c_typed

    as_result : (r : No) → judged bare h rows t n c ≡ Some r → judged_result bare h rows t n (change rows t.is_key p E) ≡ Err r
    as_result r e = ap (judged_result bare h rows t n) made ∙ ap (unless_judged c) e

    abbrev Out : Option No → Type 0
    Out o = Outcome (has_hole rows p.0 c) (breaks_delimiter rows p.0 c) (Fits rows 96 p.0 c) (exhausts h rows p.0 c) (exhausts h rows (slot_in place) w) o

    by_outcome : (o : Option No) → Out o → ChangeJudged h rows t n v place w E o
    by_outcome (Some N.Line) x = absurd x
    by_outcome (Some N.Path) x = absurd x
    by_outcome (Some N.Json) x = absurd x
    by_outcome (Some N.Mismatch) x = absurd x
    by_outcome (Some N.Delimiter) x = as_result N.Delimiter (refused.delimiter x.0 x.1)
    by_outcome (Some N.Hole) x = as_result N.Hole (refused.hole x)
    by_outcome (Some N.Depth) x = as_result N.Depth (refused.depth x.0 x.1 x.2)
    by_outcome (Some N.Exhausted) x = as_result N.Exhausted (refused.exhausted x.0 x.1 x.2 x.3)
    by_outcome (Some N.Size) x = absurd x
    by_outcome (Some N.Reserved) x = absurd x
    by_outcome (Some N.Block) x = absurd x
    by_outcome (Some N.Store) x = absurd x
    by_outcome (Some N.Clash) x = absurd x
    by_outcome (Some N.Memory) x = absurd x
    by_outcome (Some N.Batch) x = absurd x
    by_outcome None x = (c, made, record { hole = x.0; delimiter = x.1; fits = x.2; exhausted = x.3 })

  module _ (o : Option No) (r : IsPartRefusal place w o) where
    abbrev told_by : Bool → Option No
    told_by key = first_told key (hole_in place) r.judged r.around (room_in place) r.full

    allowed : (c : Value) → change rows t.is_key p E ≡ Ok c → ChangeJudged h rows t n v place w E (told_by true)
    allowed c made =
        by_outcome c made (told_by true)
        (decided (has_hole rows (slot_in place) w) (breaks_delimiter rows (slot_in place) w) (has_hole rows p.0 c) (breaks_delimiter rows p.0 c) (hole_at rows p E) r.around (λ n. Fits rows n (slot_in place) w) (Fits rows 96 p.0 c)
        (exhausts h rows p.0 c) (exhausts h rows (slot_in place) w) (exhausts_at h rows p E) r.full (room_in place)
        (judged_by c made).hole (judged_by c made).delimiter (λ free. r.tells h rows was p how path c t.is_key is tests.keys texts of_type free refl made) (depth_is c made) (judged_by c made).exhausted (told_full c made r.full r.exhausts)
        r.judged (judges rows (slot_in place) w (unwrap_or (room_in place) 96) r.judged r.by) (hole_in place) (sym (is.hole_comes how w refl)) r.around refl r.full refl)

    by_fits : (key : Bool) → fits_in place ≡ key → ChangeJudged h rows t n v place w E (told_by key)
    by_fits true e = let c = (by_key rows t.is_key p how path w (slot_in place) slot_is).fits (sym (is.fits_is t.is_key tests.keys) ∙ e) in allowed c.0 c.1
    by_fits false e = ap (judged_result bare h rows t n) ((by_key rows t.is_key p how path w (slot_in place) slot_is).wrong (sym (is.fits_is t.is_key tests.keys) ∙ e))

    pub change_judged : ChangeJudged h rows t n v place w E o
    change_judged = subst (ChangeJudged h rows t n v place w E) (sym r.is) (by_fits (fits_in place) refl)
