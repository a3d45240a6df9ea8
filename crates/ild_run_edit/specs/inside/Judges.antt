-- The part that an edit brings, judged at its place: the first of mismatch, hole, delimiter, depth and exhausted.
use Rattle.std.specs.List.{AllByRecursion}
use Rattle.std.specs.Prelude.{IsUtf8, ◌≡◌, ℕ, List, Bool, true, false, ◌||◌, is_none, unwrap_or, Option, Some, None, Ok, Err, if◌then◌else◌}
use Rattle.ild_build.specs.IsJudged.{IsJudged}
use Rattle.ild_build.specs.declared.judgement.Judged.{Judged}
use Rattle.ild_build.specs.declared.judgement.Judged.TheVariants as J
use Rattle.ild_schema.specs.declared.number.TypeNo.{TypeNo}
use Rattle.ild_schema.specs.declared.row.Row.{Row}
use Rattle.ild_schema.specs.Slots.{plainly}
use Rattle.ild_schema.specs.Value.{Value}
use Rattle.ild_script.specs.declared.reply.No.{No}
use Rattle.ild_script.specs.declared.reply.No.TheVariants as N
use Rattle.ild_typed.specs.At.{InSlot}
use Rattle.ild_typed.specs.Fits.{Fits}
use Rattle.ild_typed.specs.Judged.{has_hole, breaks_delimiter, exhausts}
use Rattle.ild_typed.specs.OfType.{OfType, TestsKeys}
use Rattle.ild_typed.specs.Stands.{bare}
use Rattle.ild_path_edits.specs.Edit.{Edit, change}
use Rattle.ild_path_edits.specs.Judged.{Tests, judged_result}
use Rattle.ild_path_judged.specs.Place.{bringing}
use Rattle.ild_path_around.specs.Telling.{verb_of}
use Rattle.ild_path_around.specs.Telling.{IsPlaceIn}
use Rattle.ild_path_place.specs.Exhausting.{Exhausts}
use Rattle.ild_path_place.specs.Parts.{end_in, verb_in}
use Rattle.ild_path_place.specs.Tells.{fits_in, hole_in, room_in, slot_in, table_at}
use Rattle.ild_path_place.specs.declared.place.Place.{Place}
use Rattle.ild_path_room.specs.Room.{Coming}

abbrev pub has_hole_by : Option Judged → Bool
has_hole_by (Some J.Hole) = true
has_hole_by o = false

abbrev pub breaks_by : Option Judged → Bool
breaks_by (Some J.Delimiter) = true
breaks_by o = false

abbrev pub is_deep_by : Option Judged → Bool
is_deep_by (Some J.Depth) = true
is_deep_by o = false

-- The first refusal, by what a place tells, how the part is judged, and whether a text around it breaks.
abbrev pub first_told : Bool → Bool → Option Judged → Bool → Option ℕ → Bool → Option No
first_told key hole judged around room full =
    if key then
    (if hole || has_hole_by judged then Some N.Hole
    else if breaks_by judged || around then Some N.Delimiter
    else if is_none room || is_deep_by judged then Some N.Depth
    else if full then Some N.Exhausted
    else None)
    else Some N.Mismatch

-- whether a text around the part breaks with it, where the part by itself is free of that
abbrev pub TellsAround : Place → Value → Bool → Type 0
TellsAround place w b =
    (h : List ℕ → List ℕ) (rows : List Row) (was : List (List ℕ)) (p : InSlot) (how : Coming) (path : List (List ℕ)) (c : Value) (is_key : ℕ → List ℕ → Bool)
    → IsPlaceIn h rows was p path (verb_of how) place → TestsKeys rows is_key
    → AllByRecursion IsUtf8 path → OfType rows (slot_in place) w → breaks_delimiter rows (slot_in place) w ≡ false
    → table_at place ≡ rows → change rows is_key p (bringing how path w) ≡ Ok c → b ≡ breaks_delimiter rows p.0 c

-- what the place of a part tells of it
pub record IsPartRefusal (place : Place) (w : Value) (o : Option No) : Type 0 where
  pub judged : Option Judged
  pub by : IsJudged (table_at place) (unwrap_or (room_in place) 96) (slot_in place) w judged
  pub around : Bool
  pub tells : TellsAround place w around
  pub full : Bool
  pub exhausts : Exhausts (verb_in place) (end_in place) full
  pub is : o ≡ first_told (fits_in place) (hole_in place) judged around (room_in place) full

-- ---- what follows of the part, over any store

pub record IsFreePart (place : Place) (w : Value) : Type 0 where
  pub hole : has_hole (table_at place) (slot_in place) w ≡ false
  pub delimiter : breaks_delimiter (table_at place) (slot_in place) w ≡ false
  pub room : ℕ
  pub room_is : room_in place ≡ Some room
  pub fits : Fits (table_at place) room (slot_in place) w

-- ---- and of the changed value, where the place is one in a value that can be held

-- it may be built
pub record IsFreeChange (h : List ℕ → List ℕ) (rows : List Row) (place : Place) (w : Value) (p : InSlot) (c : Value) : Type 0 where
  pub hole : has_hole rows p.0 c ≡ false
  pub delimiter : breaks_delimiter rows p.0 c ≡ false
  pub fits : Fits rows 96 p.0 c
  pub exhausted : exhausts h rows p.0 c ≡ exhausts h rows (slot_in place) w

abbrev pub ChangeJudged : (List ℕ → List ℕ) → List Row → Tests → TypeNo → Value → Place → Value → Edit Value → Option No → Type 0
ChangeJudged h rows t n v place w e (Some refusal) = judged_result bare h rows t n (change rows t.is_key (plainly n, v) e) ≡ Err refusal
ChangeJudged h rows t n v place w e None = (c : Value) × (change rows t.is_key (plainly n, v) e ≡ Ok c) × IsFreeChange h rows place w (plainly n, v) c
