-- What the place at the end of a path tells of an edit there.
use Rattle.std.specs.Prelude.{◌≡◌, ℕ, List, Bool, Some, None}
use Rattle.ild_data.specs.Data.{Data}
use Rattle.ild_edges.specs.Store.{Keeps}
use Rattle.ild_path_edits.specs.Edit.{del_at, new_slot}
use Rattle.ild_path_judged.specs.Place.{IsRoomAt, bringing, exhausts_at, hole_at}
use Rattle.ild_path_place.specs.Exhausting.{Exhausts}
use Rattle.ild_path_place.specs.Parts.{end_in, verb_in}
use Rattle.ild_path_place.specs.Places.{IsKept, IsPlace, path_fault}
use Rattle.ild_path_place.specs.Rooted.{IsRootedAt}
use Rattle.ild_path_place.specs.Tells.{fits_in, hole_in, room_in, slot_in}
use Rattle.ild_path_place.specs.declared.place.Place.{Place}
use Rattle.ild_path_place.specs.declared.verb.Verb.{Verb}
use Rattle.ild_path_place.specs.declared.verb.Verb.TheVariants as V
use Rattle.ild_path_room.specs.Room.{Coming}
use Rattle.ild_path_tells.specs.Facts.{key_at, refusal_at, verb_of}
use Rattle.ild_schema.specs.Value.{Value}
use Rattle.ild_schema.specs.declared.row.Row.{Row}
use Rattle.ild_script.specs.declared.reply.No.TheVariants as N
use Rattle.ild_typed.specs.At.{InSlot}
use Rattle.ild_typed.specs.Hamt.{whole}
use Rattle.ild_typed.specs.OfType.{TestsKeys}
use Rattle.ild_typed.specs.Represented.{represented}

-- The place at the end of a path in the value p, of which a store holds these blocks: what is asked of an edit there, it tells.
pub record IsPlaceIn (h : List ℕ → List ℕ) (rows : List Row) (was : List (List ℕ)) (p : InSlot) (path : List (List ℕ)) (verb : Verb) (place : Place) : Type 0 where
  pub is : IsPlace h rows was p path verb place
  pub rooted : IsRootedAt h rows was p place
  pub allowed : refusal_at rows p path verb ≡ None
  pub slot_is : (how : Coming) (w : Value) → verb ≡ verb_of how → new_slot rows p (bringing how path w) ≡ Some (slot_in place)
  pub fits_is : (is_key : ℕ → List ℕ → Bool) → TestsKeys rows is_key → fits_in place ≡ key_at is_key rows p path
  pub hole_comes : (how : Coming) (w : Value) → verb ≡ verb_of how → hole_in place ≡ hole_at rows p (bringing how path w)
  pub hole_goes : verb ≡ V.Del → hole_in place ≡ hole_at rows p (del_at path)
  pub exhausted_is : (b : Bool) → Exhausts (verb_in place) (end_in place) b → (how : Coming) (w : Value) (d : Data) → verb ≡ verb_of how
      → represented (whole h) rows (slot_in place) w ≡ Some d → b ≡ exhausts_at h rows p (bringing how path w)
  pub room_is : (how : Coming) → verb ≡ verb_of how → IsRoomAt rows 96 p path (room_in place)

-- ---- the laws

abbrev pub PlacesTell : Type 0
PlacesTell =
    (h : List ℕ → List ℕ) (rows : List Row) (was : List (List ℕ)) (p : InSlot) (path : List (List ℕ)) (verb : Verb) (place : Place)
    → IsPlace h rows was p path verb place → IsRootedAt h rows was p place → IsPlaceIn h rows was p path verb place

-- so it is where more is held
abbrev pub PlacesTellOn : Type 0
PlacesTellOn =
    (h : List ℕ → List ℕ) (rows : List Row) (was now : List (List ℕ)) (p : InSlot) (path : List (List ℕ)) (verb : Verb) (place : Place) → Keeps was now
    → IsPlaceIn h rows was p path verb place → IsPlaceIn h rows now p path verb place

-- where there is none, the fault is the refusal of an edit there
pub record FaultsRefuse (rows : List Row) (p : InSlot) (path : List (List ℕ)) (verb : Verb) : Type 0 where
  pub nowhere : (k : ℕ) → path_fault rows p path verb ≡ Some k → refusal_at rows p path verb ≡ Some N.Path
  pub kept : IsKept rows p path verb → refusal_at rows p path verb ≡ Some N.Mismatch

abbrev pub FaultsAreRefusals : Type 0
FaultsAreRefusals = (rows : List Row) (p : InSlot) (path : List (List ℕ)) (verb : Verb) → FaultsRefuse rows p path verb
