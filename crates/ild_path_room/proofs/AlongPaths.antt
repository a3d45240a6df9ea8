-- The room that is left along a path: one step of it, and the last.
use Rattle.std.proofs.Common.{◌≡◌, ℕ, List, [], ◌∷◌, Bool, Option, Some, None, refl, ap, sym, subst, ◌∙◌}
use Rattle.std.specs.Prelude.{◌↔◌, option_and_then}
use Rattle.std.specs.Option.{option_map_or}
use Rattle.std.proofs.lemmas.Option.{same_Some, none-some}
use Rattle.ild_schema.specs.declared.number.Slot.{Slot}
use Rattle.ild_schema.specs.declared.row.Row.{Row}
use Rattle.ild_schema.specs.Prelude.{anything}
use Rattle.ild_schema.specs.Value.{Value}
use Rattle.ild_typed.specs.At.{InSlot, seen, last_holder, changed_in}
use Rattle.ild_typed.specs.Fits.{Fits}
use Rattle.ild_typed.specs.Holder.{Holder, holder_of, value_of, of_any, data_in}
use Rattle.ild_typed.specs.OfType.{OfType, TestsKeys}
use Rattle.ild_typed.specs.Schema.{IsSchema}
use Rattle.ild_typed.specs.Segment.{part, set_part}
use Rattle.ild_path_edits.specs.Along.{AtPart, Tests, room_below}
use Rattle.ild_path_edits.specs.Table.{MayStand, slot_to_set, slot_to_insert, insert_part, refusal_to_delete, delete_part}
use Rattle.ild_path_edits.proofs.Holders.{set_part-there, set_part-seen}
use Rattle.ild_path_edits.proofs.Judging.{judged_by_tests}
use Rattle.ild_path_edits.proofs.Kept.{IsKept}
use Rattle.ild_path_edits.proofs.KeepTyped.{of_type_is_kept}
use Rattle.ild_path_edits.proofs.Layering.{IsLayered}
use Rattle.ild_path_edits.proofs.Paths.{set_typed, inserted_typed, deleted_typed}
use Rattle.ild_path_edits.proofs.Seen.{insert_part-seen, delete_part-seen}
use Rattle.ild_path_room.specs.Room.{Coming, by_set, by_insert, slot_for, brought, room_left, KeyFits}
use Rattle.ild_path_room.specs.RoomLaws.{BroughtFits, DeletedFits}
use Rattle.ild_path_room.proofs.Roomy.{Left, IsRoomy, roomy, roomy_fits}
use Rattle.ild_path_room.proofs.Edited.{set_in, inserted_in, deleted_in, part_left, key_there, key_set, key_inserted, inserted_left}

pub same_left : {X : Type 0} (o : Option X) (n : ℕ) → option_map_or (λ q. n) o n ≡ n
same_left None n = refl
same_left (Some q) n = refl

module _ (rows : List Row) (is_key : ℕ → List ℕ → Bool) (schema : IsSchema rows) (keys : TestsKeys rows is_key) where
  kept : IsKept rows is_key (λ slot v. OfType rows slot v)
  kept = of_type_is_kept rows is_key schema keys

  inside_is : (slot : Slot) (w : Value) → OfType rows slot w → slot ≡ anything → of_any (data_in w) ≡ w
  inside_is slot w t e = kept.inside w (subst (λ r. OfType rows r w) e t)

  -- ---- the last holder

  abbrev FitsLeft : ℕ → InSlot → List ℕ → Slot → Value → Type 0
  FitsLeft room p s slot w = KeyFits rows (room_below rows room p s) (seen rows p) s × Fits rows (room_below rows room p s) slot w

  module _ (room : ℕ) (p : InSlot) (s : List ℕ) (slot : Slot) (w : Value) (fits : Fits rows room p.0 p.1) (stands : MayStand is_key (seen rows p) s) (new : OfType rows slot w) where
    set_left : slot_to_set (seen rows p) s ≡ Some slot → IsRoomy rows room p.0 (set_part (seen rows p) s w) → Fits rows (room_below rows room p s) slot w
    set_left free h = part_left rows room p.0 (set_part (seen rows p) s w) s (slot, w) h (set_part-there (seen rows p) s slot w free (λ e. inside_is slot w new e)) new

    set_at : slot_to_set (seen rows p) s ≡ Some slot → Fits rows room p.0 (value_of (set_part (seen rows p) s w)) ↔ FitsLeft room p s slot w
    set_at free =
        let c = value_of (set_part (seen rows p) s w) in
        let typed : OfType rows p.0 c = kept.set p s slot w (room, fits) free stands new in
        let so = set_part-seen rows p.0 p.1 s w in (
          λ j. let h = subst (λ k. IsRoomy rows room p.0 k) so (roomy rows room p.0 c j) in (key_set rows room p.0 (seen rows p) s w h, set_left free h),
          λ t. roomy_fits rows room p.0 c typed (subst (λ k. IsRoomy rows room p.0 k) (sym so) (set_in rows room p.0 (seen rows p) s slot w (roomy rows room p.0 p.1 fits) free t.0 t.1)),
        )

    inserted_at : slot_to_insert (seen rows p) s ≡ Some slot → Fits rows room p.0 (value_of (insert_part (seen rows p) s w)) ↔ FitsLeft room p s slot w
    inserted_at free =
        let c = value_of (insert_part (seen rows p) s w) in
        let typed : OfType rows p.0 c = kept.inserted p s slot w (room, fits) free stands new in
        let so = insert_part-seen rows p.0 p.1 s w in (
          λ j.
              let h = subst (λ k. IsRoomy rows room p.0 k) so (roomy rows room p.0 c j) in
              (key_inserted rows room p.0 (seen rows p) s w h, inserted_left rows room p.0 (seen rows p) s slot w (λ e. inside_is slot w new (sym e)) new h free (λ e g. set_left e g)),
          λ t. roomy_fits rows room p.0 c typed (subst (λ k. IsRoomy rows room p.0 k) (sym so) (inserted_in rows room p.0 (seen rows p) s slot w (roomy rows room p.0 p.1 fits) free t.0 t.1)),
        )

    brought_at : (how : Coming) → slot_for how (seen rows p) s ≡ Some slot → Fits rows room p.0 (value_of (brought how w (seen rows p) s)) ↔ FitsLeft room p s slot w
    brought_at by_set free = set_at free
    brought_at by_insert free = inserted_at free

  -- ---- a step

  next_fits : (room : ℕ) (p q : InSlot) (s : List ℕ) → OfType rows p.0 p.1 → Fits rows room p.0 p.1 → part (seen rows p) s ≡ Some q → Fits rows (room_below rows room p s) q.0 q.1
  next_fits room p q s is fits e = part_left rows room p.0 (seen rows p) s q (roomy rows room p.0 p.1 fits) e (kept.parts p q s is e)

  whole_fits : (room : ℕ) (p q : InSlot) (s : List ℕ) (c : Value) → OfType rows p.0 p.1 → Fits rows room p.0 p.1 → part (seen rows p) s ≡ Some q → OfType rows q.0 c → Fits rows (room_below rows room p s) q.0 c
      → Fits rows room p.0 (value_of (set_part (seen rows p) s c))
  whole_fits room p q s c is fits e new left =
      let free = kept.slots p q s is e in
      let h = roomy rows room p.0 p.1 fits in
      roomy_fits rows room p.0 _ (kept.set p s q.0 c is free (kept.there p q s is e) new)
      (subst (λ k. IsRoomy rows room p.0 k) (sym (set_part-seen rows p.0 p.1 s c)) (set_in rows room p.0 (seen rows p) s q.0 c h free (key_there rows room p.0 (seen rows p) s q h e) left))

  abbrev NoTest : ℕ → Slot → Holder → Type 0
  NoTest i slot h = Unit {0}

  fits_is_layered : IsLayered rows (λ slot v. OfType rows slot v) ℕ (room_below rows) (λ i slot v. Fits rows i slot v) NoTest
  fits_is_layered = record {
    own = λ i p is h. tt;
    parts = λ i p q s is h e. next_fits i p q s is h e;
    steady = λ i p q s c is e new. refl;
    whole = λ i p q s c is h e new l k. whole_fits i p q s c is h e new k;
  }

  -- ---- along a path

  abbrev TestsOf : (Holder → List ℕ → Holder) → ℕ → InSlot → List ℕ → List (List ℕ) → Type 0
  TestsOf f room p s ss = Tests rows ℕ (room_below rows) (λ i slot v. Fits rows i slot v) NoTest f room p s ss

  module _ (how : Coming) (l : Holder × List ℕ) (slot : Slot) (w : Value) (free : slot_for how l.0 l.1 ≡ Some slot) (stands : MayStand is_key l.0 l.1) (new : OfType rows slot w) where
    abbrev LeftAt : ℕ → Type 0
    LeftAt room = KeyFits rows room l.0 l.1 × Fits rows room slot w

    last_left : (room : ℕ) (p : InSlot) (s : List ℕ) → Fits rows room p.0 p.1 → (seen rows p, s) ≡ l → Fits rows room p.0 (value_of (brought how w (seen rows p) s)) ↔ LeftAt (room_left rows room p (s ∷ []))
    last_left room p s fits e =
        let x = brought_at room p s slot w fits (subst (λ (k : Holder × List ℕ). MayStand is_key k.0 k.1) (sym e) stands) new how (subst (λ (k : Holder × List ℕ). slot_for how k.0 k.1 ≡ Some slot) (sym e) free) in
        subst (λ n. Fits rows room p.0 (value_of (brought how w (seen rows p) s)) ↔ LeftAt n) (sym (same_left (part (seen rows p) s) (room_below rows room p s)))
        (subst (λ (k : Holder × List ℕ). Fits rows room p.0 (value_of (brought how w (seen rows p) s)) ↔ (KeyFits rows (room_below rows room p s) k.0 k.1 × Fits rows (room_below rows room p s) slot w)) e x)

    next_left : (room : ℕ) (p : InSlot) (s t : List ℕ) (ss : List (List ℕ)) (o : Option InSlot) → part (seen rows p) s ≡ o → Fits rows room p.0 p.1 → option_and_then (λ q. last_holder rows q t ss) o ≡ Some l
        → ((q : InSlot) → Fits rows (room_below rows room p s) q.0 q.1 → last_holder rows q t ss ≡ Some l
        → TestsOf (brought how w) (room_below rows room p s) q t ss ↔ LeftAt (room_left rows (room_below rows room p s) q (t ∷ ss)))
        → AtPart o (λ q. Unit {0} × TestsOf (brought how w) (room_below rows room p s) q t ss)
        ↔ LeftAt (option_map_or (λ q. room_left rows (room_below rows room p s) q (t ∷ ss)) o (room_below rows room p s))
    next_left room p s t ss None e fits h rest = absurd (none-some l h)
    next_left room p s t ss (Some q) e fits h rest =
        let x = rest q (next_fits room p q s (room, fits) fits e) h in
        (λ k. x.0 k.1, λ k. (tt, x.1 k))

    along : (s : List ℕ) (ss : List (List ℕ)) (room : ℕ) (p : InSlot) → Fits rows room p.0 p.1 → last_holder rows p s ss ≡ Some l → TestsOf (brought how w) room p s ss ↔ LeftAt (room_left rows room p (s ∷ ss))
    along s [] room p fits h = last_left room p s fits (same_Some (seen rows p, s) l h)
    along s (t ∷ ss) room p fits h = next_left room p s t ss (part (seen rows p) s) refl fits h (λ q g k. along t ss (room_below rows room p s) q g k)

    brought_typed : (how : Coming) → slot_for how l.0 l.1 ≡ Some slot → (q : InSlot) → OfType rows q.0 q.1 → seen rows q ≡ l.0 → OfType rows q.0 (value_of (brought how w l.0 l.1))
    brought_typed by_set free q is e = set_typed rows is_key (λ slot v. OfType rows slot v) kept l slot w free stands new q is e
    brought_typed by_insert free q is e = inserted_typed rows is_key (λ slot v. OfType rows slot v) kept l slot w free stands new q is e

    brought_along : (room : ℕ) (p : InSlot) (s : List ℕ) (ss : List (List ℕ)) → Fits rows room p.0 p.1 → last_holder rows p s ss ≡ Some l
        → Fits rows room p.0 (changed_in rows (brought how w) p s ss) ↔ LeftAt (room_left rows room p (s ∷ ss))
    brought_along room p s ss fits h =
        let a = judged_by_tests rows is_key (λ slot v. OfType rows slot v) kept ℕ (room_below rows) (λ i slot v. Fits rows i slot v) NoTest fits_is_layered (brought how w) l (brought_typed how free) room p s ss (room, fits) fits h in
        let b = along s ss room p fits h in
        (λ j. b.0 (a.0 j), λ k. a.1 (b.1 k))

  -- ---- what is deleted

  deleted_at : (room : ℕ) (p : InSlot) (s : List ℕ) → Fits rows room p.0 p.1 → refusal_to_delete (seen rows p) s ≡ None → Fits rows room p.0 (value_of (delete_part (seen rows p) s))
  deleted_at room p s fits free =
      roomy_fits rows room p.0 _ (kept.deleted p s (room, fits) free)
      (subst (λ k. IsRoomy rows room p.0 k) (sym (delete_part-seen rows p.0 p.1 s)) (deleted_in rows room p.0 (seen rows p) s (roomy rows room p.0 p.1 fits)))

  module _ (l : Holder × List ℕ) (free : refusal_to_delete l.0 l.1 ≡ None) where
    deleted_next : (room : ℕ) (p : InSlot) (s t : List ℕ) (ss : List (List ℕ)) (o : Option InSlot) → part (seen rows p) s ≡ o → Fits rows room p.0 p.1 → option_and_then (λ q. last_holder rows q t ss) o ≡ Some l
        → ((q : InSlot) → Fits rows (room_below rows room p s) q.0 q.1 → last_holder rows q t ss ≡ Some l → TestsOf delete_part (room_below rows room p s) q t ss)
        → AtPart o (λ q. Unit {0} × TestsOf delete_part (room_below rows room p s) q t ss)
    deleted_next room p s t ss None e fits h rest = absurd (none-some l h)
    deleted_next room p s t ss (Some q) e fits h rest = (tt, rest q (next_fits room p q s (room, fits) fits e) h)

    deleted_tests : (s : List ℕ) (ss : List (List ℕ)) (room : ℕ) (p : InSlot) → Fits rows room p.0 p.1 → last_holder rows p s ss ≡ Some l → TestsOf delete_part room p s ss
    deleted_tests s [] room p fits h = deleted_at room p s fits (subst (λ (k : Holder × List ℕ). refusal_to_delete k.0 k.1 ≡ None) (sym (same_Some (seen rows p, s) l h)) free)
    deleted_tests s (t ∷ ss) room p fits h = deleted_next room p s t ss (part (seen rows p) s) refl fits h (λ q g k. deleted_tests t ss (room_below rows room p s) q g k)

    deleted_along : (room : ℕ) (p : InSlot) (s : List ℕ) (ss : List (List ℕ)) → Fits rows room p.0 p.1 → last_holder rows p s ss ≡ Some l → Fits rows room p.0 (changed_in rows delete_part p s ss)
    deleted_along room p s ss fits h =
        let typed = deleted_typed rows is_key (λ slot v. OfType rows slot v) kept l free in
        let a = judged_by_tests rows is_key (λ slot v. OfType rows slot v) kept ℕ (room_below rows) (λ i slot v. Fits rows i slot v) NoTest fits_is_layered delete_part l typed room p s ss (room, fits) fits h in
        a.1 (deleted_tests s ss room p fits h)

pub brought_fits : BroughtFits
brought_fits rows is_key schema keys how room p s ss l slot w fits last free stands new = brought_along rows is_key schema keys how l slot w free stands new room p s ss fits last

pub deleted_fits : DeletedFits
deleted_fits rows is_key schema keys room p s ss l fits last free = deleted_along rows is_key schema keys l free room p s ss fits last
