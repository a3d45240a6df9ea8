-- Where the part that an edit brings stands in the changed value: it is the value itself, or it stands in the last holder of the path,
-- to which the same path leads, but for its last segment.
use Rattle.std.proofs.Common.{◌≡◌, ◌⊎◌, inl, inr, ℕ, zero, suc, List, [], ◌∷◌, length, slice_get, insert, Bool, true, Option, Some, None, refl, ap, sym, subst, ◌∙◌}
use Rattle.std.specs.Prelude.{IsUtf8, Result, Ok, option_map, option_and_then}
use Rattle.std.specs.List.{AllByRecursion}
use Rattle.std.specs.Option.{option_map_or}
use Rattle.std.proofs.lemmas.Option.{same_Some, none-some}
use Rattle.ild_data.specs.Data.{Data}
use Rattle.ild_schema.specs.declared.number.Slot.{Slot}
use Rattle.ild_schema.specs.declared.row.Row.{Row}
use Rattle.ild_schema.specs.Prelude.{anything}
use Rattle.ild_schema.specs.Value.{Value}
use Rattle.ild_script.specs.declared.reply.No.{No}
use Rattle.ild_typed.specs.At.{InSlot, seen, at, last_holder, changed_in}
use Rattle.ild_typed.specs.Holder.{Holder, fields, member, entries, elements, any_entries, any_elements, nothing, value_of, of_any, data_in}
use Rattle.ild_typed.specs.OfType.{OfType, TestsKeys}
use Rattle.ild_typed.specs.Schema.{IsSchema}
use Rattle.ild_typed.specs.Segment.{part, set_part, at_index}
use Rattle.ild_typed_fronts.proofs.Holding.{to_declared, unless_some}
use Rattle.ild_path_edits.specs.Edit.{set_in, ins_in, new_slot, change}
use Rattle.ild_path_edits.specs.Table.{MayStand, slot_to_set, slot_to_insert, new_index, key_fits, insert_part}
use Rattle.ild_path_edits.proofs.HeldTyped.{slot_given}
use Rattle.ild_path_edits.proofs.Holders.{set_part-seen, set_part-there}
use Rattle.ild_path_edits.proofs.Kept.{IsKept}
use Rattle.ild_path_edits.proofs.Paths.{inside_of, typed_changed, set_typed, inserted_typed, may_stand, placed_typed, last_text}
use Rattle.ild_path_edits.proofs.Seen.{insert_part-seen}
use Rattle.ild_path_judged.specs.Place.{bringing, last_in}
use Rattle.ild_path_judged.proofs.Along.{last_seen, last_back}
use Rattle.ild_path_judged.proofs.Last.{HeldBy, held_as, kept}
use Rattle.ild_path_room.specs.Room.{Coming, by_set, by_insert, slot_for, brought}
use Rattle.ild_path_brought.specs.Laws.{IsBrought}

-- ---- in a holder

-- a part stands in a holder: at a segment, as an element, or among the data inside an Any
pub data Stood (k : Holder) (slot : Slot) (w : Value) : Type 0 where
  at_segment : (s : List ℕ) → part k s ≡ Some (slot, w) → Stood k slot w
  as_element : (xs : List Value) (i : ℕ) → k ≡ elements slot xs → slice_get xs i ≡ Some w → Stood k slot w
  as_data : (ds : List Data) (i : ℕ) (d : Data) → k ≡ any_elements ds → slice_get ds i ≡ Some d → ◌≡◌ {A = InSlot} (anything, of_any d) (slot, w) → Stood k slot w

-- an item that is inserted is there
inserted_is : {X : Type 0} (xs : List X) (i : ℕ) (x : X) → (k : ℕ) × (slice_get (insert xs i x) k ≡ Some x)
inserted_is [] zero x = (0, refl)
inserted_is [] (suc i) x = (0, refl)
inserted_is (y ∷ ys) zero x = (0, refl)
inserted_is (y ∷ ys) (suc i) x = let r = inserted_is ys i x in (suc r.0, r.1)

element_stood : (elem slot : Slot) (vs : List Value) (w : Value) (o : Option ℕ) → option_map (λ i. elem) o ≡ Some slot → Stood (elements elem (at_index (λ i xs. insert xs i w) o vs)) elem w
element_stood elem slot vs w None e = absurd (none-some slot e)
element_stood elem slot vs w (Some i) e = let x = inserted_is vs i w in as_element (insert vs i w) x.0 refl x.1

data_stood : (slot : Slot) (ds : List Data) (w : Value) (o : Option ℕ) → option_map (λ i. anything) o ≡ Some slot → ◌≡◌ {A = InSlot} (anything, of_any (data_in w)) (slot, w)
    → Stood (any_elements (at_index (λ i xs. insert xs i (data_in w)) o ds)) slot w
data_stood slot ds w None e same = absurd (none-some slot e)
data_stood slot ds w (Some i) e same = let x = inserted_is ds i (data_in w) in as_data (insert ds i (data_in w)) x.0 (data_in w) refl x.1 same

module _ (rows : List Row) where
  by_segment : (k : Holder) (s : List ℕ) (slot : Slot) (w : Value) → (slot ≡ anything → of_any (data_in w) ≡ w) → slot_to_set k s ≡ Some slot → Stood (set_part k s w) slot w
  by_segment k s slot w inside e = at_segment s (set_part-there k s slot w e inside)

  by_insertion : (k : Holder) (s : List ℕ) (slot : Slot) (w : Value) → (slot ≡ anything → of_any (data_in w) ≡ w) → slot_to_insert k s ≡ Some slot → Stood (insert_part k s w) slot w
  by_insertion (fields fs os) s slot w inside e = by_segment (fields fs os) s slot w inside (to_declared (λ x. x) rows s fs os slot e)
  by_insertion (member ms n v) s slot w inside e = absurd (none-some slot e)
  by_insertion (entries key elem paired ps) s slot w inside e = by_segment (entries key elem paired ps) s slot w inside (ap Some (unless_some (λ x. x) rows _ elem slot e))
  by_insertion (elements elem vs) s slot w inside e =
      let o = new_index (length vs) s in
      subst (λ r. Stood (elements elem (at_index (λ i xs. insert xs i w) o vs)) r w) (slot_given elem o slot e) (element_stood elem slot vs w o e)
  by_insertion (any_entries ms) s slot w inside e = by_segment (any_entries ms) s slot w inside (ap Some (unless_some (λ x. x) rows _ anything slot e))
  by_insertion (any_elements ds) s slot w inside e =
      let o = new_index (length ds) s in
      let same : anything ≡ slot = slot_given anything o slot e in
      data_stood slot ds w o e (λ i. (same i, inside (sym same) i))
  by_insertion (nothing v) s slot w inside e = absurd (none-some slot e)

  brought_stood : (how : Coming) (k : Holder) (s : List ℕ) (slot : Slot) (w : Value) → (slot ≡ anything → of_any (data_in w) ≡ w) → slot_for how k s ≡ Some slot → Stood (brought how w k s) slot w
  brought_stood by_set k s slot w inside e = by_segment k s slot w inside e
  brought_stood by_insert k s slot w inside e = by_insertion k s slot w inside e

-- ---- along the path

-- all but the last of the segments
abbrev but_last : List ℕ → List (List ℕ) → List (List ℕ)
but_last s [] = []
but_last s (t ∷ ss) = s ∷ but_last t ss

module _ (rows : List Row) (is_key : ℕ → List ℕ → Bool) (P : Slot → Value → Type 0) (kept_so : IsKept rows is_key P) (f : Holder → List ℕ → Holder) (m : InSlot × List ℕ)
    (new : (q : InSlot) → P q.0 q.1 → seen rows q ≡ seen rows m.0 → P q.0 (value_of (f (seen rows m.0) m.1))) where
  -- the last holder has what the whole has, and what is made of it stands where the path led to it
  abbrev Leads : InSlot → List ℕ → List (List ℕ) → Value → Type 0
  Leads p s ss c = P (m.0).0 (m.0).1 × (at rows (p.0, c) (but_last s ss) ≡ Some ((m.0).0, value_of (f (seen rows m.0) m.1)))

  made_there : (ss : List (List ℕ)) (p : InSlot) (s : List ℕ) → P p.0 p.1 → last_in rows p s ss ≡ Some m → Leads p s ss (changed_in rows f p s ss)
  made_there [] p s is e =
      let here : (p, s) ≡ m = same_Some (p, s) m e in
      (subst (λ (n : InSlot × List ℕ). P (n.0).0 (n.0).1) here is, ap (λ (n : InSlot × List ℕ). Some ((n.0).0, value_of (f (seen rows n.0) n.1))) here)
  made_there (t ∷ ss) p s is e = by (part (seen rows p) s) refl e (λ q it g. made_there ss q t it g) where
    by : (o : Option InSlot) → part (seen rows p) s ≡ o → option_and_then (λ q. last_in rows q t ss) o ≡ Some m → ((q : InSlot) → P q.0 q.1 → last_in rows q t ss ≡ Some m → Leads q t ss (changed_in rows f q t ss))
        → Leads p s (t ∷ ss) (option_map_or (λ q. value_of (set_part (seen rows p) s (changed_in rows f q t ss))) o p.1)
    by None there g rest = absurd (none-some m g)
    by (Some q) there g rest =
        let c = changed_in rows f q t ss in
        let it = kept_so.parts p q s is there in
        let c_is = typed_changed rows is_key P kept_so f (seen rows m.0, m.1) new q t ss it (last_back rows q t ss m g) in
        let a : part (seen rows (p.0, value_of (set_part (seen rows p) s c))) s ≡ Some (q.0, c) =
        ap (λ h. part h s) (set_part-seen rows p.0 p.1 s c) ∙ set_part-there (seen rows p) s q.0 c (kept_so.slots p q s is there) (λ k. inside_of rows is_key P kept_so q.0 c c_is k) in
        let below = rest q it g in
        (below.0, ap (λ o. option_and_then (λ q. at rows q (but_last t ss)) o) a ∙ below.1)

module _ (rows : List Row) (is_key : ℕ → List ℕ → Bool) (schema : IsSchema rows) (keys : TestsKeys rows is_key) where
  -- a path leads to a holder in which the part stands
  pub record Beneath (p : InSlot) (c : Value) (slot : Slot) (w : Value) : Type 0 where
    pub path : List (List ℕ)
    pub place : Slot
    pub holder : Holder
    pub leads : at rows (p.0, c) path ≡ Some (place, value_of holder)
    pub again : seen rows (place, value_of holder) ≡ holder
    pub held : HeldBy rows is_key schema keys place holder
    pub stood : Stood holder slot w

  abbrev pub StandsIn : InSlot → Value → Slot → Value → Type 0
  StandsIn p c slot w = (◌≡◌ {A = InSlot} (p.0, c) (slot, w)) ⊎ Beneath p c slot w

  ok_same : (v w : Value) → ◌≡◌ {A = Result Value No} (Ok v) (Ok w) → v ≡ w
  ok_same v w e = cc

  again_of : (how : Coming) (q : InSlot) (s : List ℕ) (w : Value) → seen rows (q.0, value_of (brought how w (seen rows q) s)) ≡ brought how w (seen rows q) s
  again_of by_set q s w = set_part-seen rows q.0 q.1 s w
  again_of by_insert q s w = insert_part-seen rows q.0 q.1 s w

  typed_by : (how : Coming) (k : Holder) (s : List ℕ) (slot : Slot) (w : Value) → slot_for how k s ≡ Some slot → MayStand is_key k s → OfType rows slot w
      → (q : InSlot) → OfType rows q.0 q.1 → seen rows q ≡ k → OfType rows q.0 (value_of (brought how w k s))
  typed_by by_set k s slot w e stands new q is same = set_typed rows is_key (λ slot v. OfType rows slot v) (kept rows is_key schema keys) (k, s) slot w e stands new q is same
  typed_by by_insert k s slot w e stands new q is same = inserted_typed rows is_key (λ slot v. OfType rows slot v) (kept rows is_key schema keys) (k, s) slot w e stands new q is same

  at_last : (how : Coming) (p : InSlot) (s : List ℕ) (ss : List (List ℕ)) (slot : Slot) (w : Value) (m : InSlot × List ℕ) → OfType rows p.0 p.1 → last_in rows p s ss ≡ Some m → slot_for how (seen rows m.0) m.1 ≡ Some slot
      → MayStand is_key (seen rows m.0) m.1 → OfType rows slot w → Beneath p (changed_in rows (brought how w) p s ss) slot w
  at_last how p s ss slot w m is last there stands new =
      let k = kept rows is_key schema keys in
      let made = λ (q : InSlot) (it : OfType rows q.0 q.1) (same : seen rows q ≡ seen rows m.0). typed_by how (seen rows m.0) m.1 slot w there stands new q it same in
      let x = made_there rows is_key (λ slot v. OfType rows slot v) k (brought how w) m made ss p s is last in
      record {
        path = but_last s ss;
        place = (m.0).0;
        holder = brought how w (seen rows m.0) m.1;
        leads = x.1;
        again = again_of how m.0 m.1 w;
        held = held_as rows is_key schema keys (m.0).0 (brought how w (seen rows m.0) m.1) (again_of how m.0 m.1 w) (made m.0 x.0 refl);
        stood = brought_stood rows how (seen rows m.0) m.1 slot w (λ g. inside_of rows is_key (λ slot v. OfType rows slot v) k slot w new g) there;
      }

  beneath : (how : Coming) (p : InSlot) (s : List ℕ) (ss : List (List ℕ)) (slot : Slot) (w : Value) (l : Holder × List ℕ) → OfType rows p.0 p.1 → last_holder rows p s ss ≡ Some l → slot_for how l.0 l.1 ≡ Some slot
      → MayStand is_key l.0 l.1 → OfType rows slot w → StandsIn p (changed_in rows (brought how w) p s ss) slot w
  beneath how p s ss slot w l is last there stands new =
      let m = last_seen rows p s ss l last in
      inr
      (at_last how p s ss slot w m.0 is m.1 (subst (λ (k : Holder × List ℕ). slot_for how k.0 k.1 ≡ Some slot) (sym m.2) there)
      (subst (λ (k : Holder × List ℕ). MayStand is_key k.0 k.1) (sym m.2) stands) new)

  same_slot : {X : Type 0} (g : X → Option Slot) (o : Option X) (l : X) (u slot : Slot) → o ≡ Some l → g l ≡ Some u → option_and_then g o ≡ Some slot → u ≡ slot
  same_slot g o l u slot e f there = same_Some u slot (sym (ap (option_and_then g) e ∙ f) ∙ there)

  may : (p : InSlot) (s : List ℕ) (ss : List (List ℕ)) (l : Holder × List ℕ) → AllByRecursion IsUtf8 (s ∷ ss) → last_holder rows p s ss ≡ Some l → key_fits is_key l.0 l.1 ≡ true → MayStand is_key l.0 l.1
  may p s ss l texts last fits = may_stand is_key l.0 l.1 (last_text rows is_key (λ slot v. OfType rows slot v) (kept rows is_key schema keys) p s ss l texts last) fits

  stands : (how : Coming) (path : List (List ℕ)) (p : InSlot) (slot : Slot) (w c : Value) → OfType rows p.0 p.1 → AllByRecursion IsUtf8 path → new_slot rows p (bringing how path w) ≡ Some slot → OfType rows slot w
      → change rows is_key p (bringing how path w) ≡ Ok c → StandsIn p c slot w
  stands by_set [] p slot w c is texts goes new made = inl (λ i. (same_Some p.0 slot goes i, sym (ok_same w c made) i))
  stands by_set (s ∷ ss) p slot w c is texts goes new made = by (last_holder rows p s ss) refl made where
    by : (o : Option (Holder × List ℕ)) → last_holder rows p s ss ≡ o → set_in is_key (changed_in rows (λ k t. set_part k t w) p s ss) o ≡ Ok c → StandsIn p c slot w
    by None e m = absurd cc
    by (Some l) e m =
        placed_typed (λ d. StandsIn p d slot w) (key_fits is_key l.0 l.1) (changed_in rows (λ k t. set_part k t w) p s ss) (slot_to_set l.0 l.1) c m
        (λ u at fits.
        beneath by_set p s ss slot w l is e (at ∙ ap Some (same_slot (λ (l : Holder × List ℕ). slot_to_set l.0 l.1) (last_holder rows p s ss) l u slot e at goes)) (may p s ss l texts e fits) new)
  stands by_insert [] p slot w c is texts goes new made = absurd (none-some slot goes)
  stands by_insert (s ∷ ss) p slot w c is texts goes new made = by (last_holder rows p s ss) refl made where
    by : (o : Option (Holder × List ℕ)) → last_holder rows p s ss ≡ o → ins_in is_key (changed_in rows (λ k t. insert_part k t w) p s ss) o ≡ Ok c → StandsIn p c slot w
    by None e m = absurd cc
    by (Some l) e m =
        placed_typed (λ d. StandsIn p d slot w) (key_fits is_key l.0 l.1) (changed_in rows (λ k t. insert_part k t w) p s ss) (slot_to_insert l.0 l.1) c m
        (λ u at fits.
        beneath by_insert p s ss slot w l is e (at ∙ ap Some (same_slot (λ (l : Holder × List ℕ). slot_to_insert l.0 l.1) (last_holder rows p s ss) l u slot e at goes)) (may p s ss l texts e fits) new)

-- the part stands in the changed value
pub stands_in : (rows : List Row) (is_key : ℕ → List ℕ → Bool) (p : InSlot) (how : Coming) (path : List (List ℕ)) (slot : Slot) (w c : Value) (b : IsBrought rows is_key p how path slot w c)
    → StandsIn rows is_key b.schema b.keys p c slot w
stands_in rows is_key p how path slot w c b = stands rows is_key b.schema b.keys how path p slot w c b.typed b.texts b.goes b.part b.made
