-- The last part of a path and its last segment, and what an edit makes of them.
use Rattle.std.proofs.Common.{◌≡◌, ℕ, List, [], ◌∷◌, ◌++◌, Bool, false, Option, Some, None, refl, ap, sym, ◌∙◌, subst}
use Rattle.std.specs.Prelude.{option_and_then}
use Rattle.std.specs.Option.{option_map_or}
use Rattle.std.proofs.lemmas.Option.{none-some, same_Some}
use Rattle.ild_path_edits.specs.Edit.{del_at, ins_at, new_slot, path_of, set_at}
use Rattle.ild_path_edits.specs.Table.{refusal_to_delete, slot_to_insert, slot_to_set}
use Rattle.ild_path_judged.proofs.Along.{last_back, last_seen}
use Rattle.ild_path_judged.specs.Place.{bringing, hole_at, last_of, made_at}
use Rattle.ild_path_place.specs.Holes.{HoleIs, VerbHole}
use Rattle.ild_path_place.specs.declared.verb.Verb.TheVariants as V
use Rattle.ild_path_room.specs.Hole.{TellsHole}
use Rattle.ild_path_room.specs.declared.hole.PartMotion.TheVariants as E
use Rattle.ild_path_room.specs.Room.{Coming, brought, by_insert, by_set, slot_for}
use Rattle.ild_path_tells.specs.Facts.{refusal_at, verb_of}
use Rattle.ild_path_within.proofs.Splitting.{first_of_path}
use Rattle.ild_schema.specs.declared.def.TypeDef.{TypeDef}
use Rattle.ild_schema.specs.declared.number.Slot.{Slot}
use Rattle.ild_schema.specs.declared.row.Row.{Row}
use Rattle.ild_schema.specs.Slots.{form_of}
use Rattle.ild_schema.specs.Value.{Value}
use Rattle.ild_script.specs.declared.reply.No.TheVariants as N
use Rattle.ild_typed.proofs.Basics.{then_from}
use Rattle.ild_typed.specs.At.{InSlot, at, last_holder, seen}
use Rattle.ild_typed.specs.Holder.{Holder, value_of}
use Rattle.ild_typed.specs.Judged.{is_hole}
use Rattle.ild_typed.specs.Segment.{part}

-- ---- along a path

-- there is a segment
pub record Begins (path : List (List ℕ)) : Type 0 where
  pub first : List ℕ
  pub more : List (List ℕ)
  pub is : path ≡ first ∷ more

pub begins_with : (front rest : List (List ℕ)) → Begins rest → Begins (front ++ rest)
begins_with [] rest x = x
begins_with (t ∷ ts) rest x = record { first = t; more = ts ++ rest; is = refl }

module _ (rows : List Row) where
  pub last_step : (p : InSlot) (t : List ℕ) (us : List (List ℕ)) → Begins us → last_of rows p (t ∷ us) ≡ option_and_then (λ r. last_of rows r us) (part (seen rows p) t)
  last_step p t us x = subst (λ vs. last_of rows p (t ∷ vs) ≡ option_and_then (λ r. last_of rows r vs) (part (seen rows p) t)) (sym x.is) refl

  -- behind a front, it is that of the part there
  pub last_behind : (front rest : List (List ℕ)) → Begins rest → (p q : InSlot) → at rows p front ≡ Some q → last_of rows p (front ++ rest) ≡ last_of rows q rest
  last_behind [] rest b p q e = ap (λ r. last_of rows r rest) (same_Some p q e)
  last_behind (t ∷ ts) rest b p q e =
      let x = first_of_path rows p q t ts e in
      last_step p t (ts ++ rest) (begins_with ts rest b) ∙ ap (option_and_then (λ r. last_of rows r (ts ++ rest))) x.there ∙ last_behind ts rest b x.item q x.made

  -- ---- what an edit makes of it

  module _ (test : Option TypeDef → Value → Bool) (p : InSlot) (path : List (List ℕ)) where
    pub told_at : (how : Coming) (w : Value) (m : InSlot × List ℕ) → last_of rows p path ≡ Some m
        → option_map_or (λ (l : InSlot × List ℕ). test (form_of rows (l.0).0) (made_at rows (bringing how path w) l)) (last_of rows p (path_of (bringing how path w))) false
        ≡ test (form_of rows (m.0).0) (value_of (brought how w (seen rows m.0) m.1))
    told_at by_set w m e = ap (λ o. option_map_or (λ (l : InSlot × List ℕ). test (form_of rows (l.0).0) (made_at rows (set_at path w) l)) o false) e
    told_at by_insert w m e = ap (λ o. option_map_or (λ (l : InSlot × List ℕ). test (form_of rows (l.0).0) (made_at rows (ins_at path w) l)) o false) e

    pub untold_at : (how : Coming) (w : Value) → last_of rows p path ≡ None
        → option_map_or (λ (l : InSlot × List ℕ). test (form_of rows (l.0).0) (made_at rows (bringing how path w) l)) (last_of rows p (path_of (bringing how path w))) false ≡ false
    untold_at by_set w e = ap (λ o. option_map_or (λ (l : InSlot × List ℕ). test (form_of rows (l.0).0) (made_at rows (set_at path w) l)) o false) e
    untold_at by_insert w e = ap (λ o. option_map_or (λ (l : InSlot × List ℕ). test (form_of rows (l.0).0) (made_at rows (ins_at path w) l)) o false) e

  -- the slot of what comes there
  pub slot_at_last : (how : Coming) (p : InSlot) (path : List (List ℕ)) (w : Value) (m : InSlot × List ℕ) → last_of rows p path ≡ Some m → new_slot rows p (bringing how path w) ≡ slot_for how (seen rows m.0) m.1
  slot_at_last how p [] w m e = absurd (none-some m e)
  slot_at_last by_set p (s ∷ ss) w m e = ap (option_and_then (λ (l : Holder × List ℕ). slot_to_set l.0 l.1)) (last_back rows p s ss m e)
  slot_at_last by_insert p (s ∷ ss) w m e = ap (option_and_then (λ (l : Holder × List ℕ). slot_to_insert l.0 l.1)) (last_back rows p s ss m e)

  -- ---- holes

  -- there is a last holder where there is a slot
  holder_for : (how : Coming) (p : InSlot) (s : List ℕ) (ss : List (List ℕ)) (w : Value) (slot : Slot) → new_slot rows p (bringing how (s ∷ ss) w) ≡ Some slot → (l : Holder × List ℕ) × (last_holder rows p s ss ≡ Some l)
  holder_for by_set p s ss w slot e = let x = then_from (λ (l : Holder × List ℕ). slot_to_set l.0 l.1) (last_holder rows p s ss) slot e in (x.item, x.there)
  holder_for by_insert p s ss w slot e = let x = then_from (λ (l : Holder × List ℕ). slot_to_insert l.0 l.1) (last_holder rows p s ss) slot e in (x.item, x.there)

  hole_by : (how : Coming) (q : InSlot) (s : List ℕ) (b : Bool) → VerbHole rows q s (verb_of how) b → TellsHole rows q s E.Comes b
  hole_by by_set q s b is = is
  hole_by by_insert q s b is = is

  pub hole_comes : (how : Coming) (p : InSlot) (path : List (List ℕ)) (w : Value) (slot : Slot) (b : Bool) → new_slot rows p (bringing how path w) ≡ Some slot → HoleIs rows p path (verb_of how) b
      → b ≡ hole_at rows p (bringing how path w)
  hole_comes how p [] w slot b there is = is ∙ sym (untold_at is_hole p [] how w refl)
  hole_comes how p (s ∷ ss) w slot b there is =
      let l = holder_for how p s ss w slot there in
      let m = last_seen rows p s ss l.0 l.1 in
      hole_by how (m.0).0 (m.0).1 b (is m.0 m.1) how w ∙ sym (told_at is_hole p (s ∷ ss) how w m.0 m.1)

  hole_left : (p : InSlot) (s : List ℕ) (ss : List (List ℕ)) (b : Bool) → HoleIs rows p (s ∷ ss) V.Del b → (l : Holder × List ℕ) → last_holder rows p s ss ≡ Some l → b ≡ hole_at rows p (del_at (s ∷ ss))
  hole_left p s ss b is l e =
      let m = last_seen rows p s ss l e in
      is m.0 m.1 ∙ sym (ap (λ o. option_map_or (λ (l : InSlot × List ℕ). is_hole (form_of rows (l.0).0) (made_at rows (del_at (s ∷ ss)) l)) o false) m.1)

  pub hole_goes : (p : InSlot) (path : List (List ℕ)) (b : Bool) → refusal_at rows p path V.Del ≡ None → HoleIs rows p path V.Del b → b ≡ hole_at rows p (del_at path)
  hole_goes p [] b free is = is
  hole_goes p (s ∷ ss) b free is = by (last_holder rows p s ss) refl free where
    by : (o : Option (Holder × List ℕ)) → last_holder rows p s ss ≡ o → option_map_or (λ (l : Holder × List ℕ). refusal_to_delete l.0 l.1) o (Some N.Path) ≡ None → b ≡ hole_at rows p (del_at (s ∷ ss))
    by None e wrong = absurd (none-some N.Path (sym wrong))
    by (Some l) e ok = hole_left p s ss b is l e
