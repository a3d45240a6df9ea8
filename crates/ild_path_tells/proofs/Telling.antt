-- What the place at the end of a path tells of an edit there.
use Rattle.std.proofs.Common.{◌≡◌, ℕ, List, [], ◌∷◌, Bool, Option, Some, None, refl, ◌∙◌, subst}
use Rattle.ild_path_edits.specs.Edit.{ins_at, new_slot, set_at}
use Rattle.ild_path_judged.specs.Place.{IsRoomAt, bringing}
use Rattle.ild_path_place.specs.Holes.{HoleIs}
use Rattle.ild_path_place.specs.Places.{SlotIs, fits_at}
use Rattle.ild_path_place.specs.Rooms.{RoomIs}
use Rattle.ild_path_place.specs.Tells.{hole_in, room_in, slot_in}
use Rattle.ild_path_room.specs.Room.{Coming, by_insert, by_set}
use Rattle.ild_path_tells.proofs.Exhausting.{exhausted_is}
use Rattle.ild_path_tells.proofs.Lasting.{hole_comes, hole_goes}
use Rattle.ild_path_tells.proofs.Refusals.{allowed_at}
use Rattle.ild_path_place.proofs.Staying.{place_stays, root_stays}
use Rattle.ild_path_tells.specs.Facts.{key_at, refusal_at, verb_of}
use Rattle.ild_path_tells.specs.Tells.{PlacesTell, PlacesTellOn}
use Rattle.ild_schema.specs.declared.number.Slot.{Slot}
use Rattle.ild_schema.specs.declared.row.Row.{Row}
use Rattle.ild_schema.specs.Value.{Value}
use Rattle.ild_typed.specs.At.{InSlot}

module _ (rows : List Row) (p : InSlot) where
  -- whatever comes, it goes to one slot
  set_any : (path : List (List ℕ)) (w : Value) → new_slot rows p (set_at path w) ≡ new_slot rows p (set_at path (tt {0}))
  set_any [] w = refl
  set_any (s ∷ ss) w = refl

  ins_any : (path : List (List ℕ)) (w : Value) → new_slot rows p (ins_at path w) ≡ new_slot rows p (ins_at path (tt {0}))
  ins_any [] w = refl
  ins_any (s ∷ ss) w = refl

  slot_there : (how : Coming) (path : List (List ℕ)) (w : Value) (slot : Slot) → SlotIs rows p path (verb_of how) slot → new_slot rows p (bringing how path w) ≡ Some slot
  slot_there by_set path w slot is = set_any path w ∙ is
  slot_there by_insert path w slot is = ins_any path w ∙ is

  key_same : (is_key : ℕ → List ℕ → Bool) (path : List (List ℕ)) → fits_at is_key rows p path ≡ key_at is_key rows p path
  key_same is_key [] = refl
  key_same is_key (s ∷ ss) = refl

  room_same : (path : List (List ℕ)) (o : Option ℕ) → RoomIs rows p path o → IsRoomAt rows 96 p path o
  room_same [] o is = is
  room_same (s ∷ ss) o is = is

pub places_tell : PlacesTell
places_tell = λ h rows was p path verb place x root.
    let free = allowed_at rows p path verb (slot_in place) x.allowed x.may_go x.slot_is in
    let slot = λ (how : Coming) (w : Value) (e : verb ≡ verb_of how). slot_there rows p how path w (slot_in place) (subst (λ v. SlotIs rows p path v (slot_in place)) e x.slot_is) in
    record {
      is = x;
      rooted = root;
      allowed = free;
      slot_is = slot;
      fits_is = λ is_key tests. x.key is_key tests ∙ key_same rows p is_key path;
      hole_comes = λ how w e. hole_comes rows how p path w (slot_in place) (hole_in place) (slot how w e) (subst (λ v. HoleIs rows p path v (hole_in place)) e x.hole_is);
      hole_goes = λ e. hole_goes rows p path (hole_in place) (subst (λ v. refusal_at rows p path v ≡ None) e free) (subst (λ v. HoleIs rows p path v (hole_in place)) e x.hole_is);
      exhausted_is = λ b is how w d e new. exhausted_is h rows was p path verb place x how w d e (slot how w e) new b is;
      room_is = λ how e. room_same rows p path (room_in place) x.room_is;
    }

pub places_tell_on : PlacesTellOn
places_tell_on = λ h rows was now p path verb place keeps x. record {
  is = place_stays h rows was now keeps p path verb place x.is;
  rooted = root_stays h rows was now keeps p place x.rooted;
  allowed = x.allowed;
  slot_is = x.slot_is;
  fits_is = x.fits_is;
  hole_comes = x.hole_comes;
  hole_goes = x.hole_goes;
  exhausted_is = x.exhausted_is;
  room_is = x.room_is;
}
