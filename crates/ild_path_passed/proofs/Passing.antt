-- Along the path of an edit: the places of what it makes.
use Rattle.std.proofs.Common.{◌≡◌, ◌⊎◌, inl, inr, ℕ, List, [], ◌∷◌, Bool, true, false, Option, Some, None, refl, ap, sym, subst, ◌∙◌}
use Rattle.std.specs.Prelude.{IsUtf8, Contains, Result, Ok, option_and_then}
use Rattle.std.specs.List.{AllByRecursion}
use Rattle.std.specs.Option.{option_map_or}
use Rattle.std.proofs.lemmas.Option.{same_Some, none-some}
use Rattle.ild_data.proofs.AllOf.{all_split}
use Rattle.ild_data.specs.Data.{Data}
use Rattle.ild_data.specs.Spell.{id_of}
use Rattle.ild_schema.proofs.Legibly.{legible}
use Rattle.ild_schema.specs.declared.number.Slot.{Slot}
use Rattle.ild_schema.specs.declared.row.Row.{Row}
use Rattle.ild_schema.specs.Slots.{form_of}
use Rattle.ild_schema.specs.Value.{Value}
use Rattle.ild_script.specs.declared.reply.No.{No}
use Rattle.ild_typed.specs.At.{InSlot, seen, last_holder, changed_in}
use Rattle.ild_typed.specs.Blocks.{nodes}
use Rattle.ild_typed.specs.Hamt.{whole}
use Rattle.ild_typed.specs.Holder.{Holder, value_of}
use Rattle.ild_typed.specs.OfType.{OfType, TestsKeys}
use Rattle.ild_typed.specs.Represented.{represented}
use Rattle.ild_typed.specs.Schema.{IsSchema}
use Rattle.ild_typed.specs.Segment.{part, set_part}
use Rattle.ild_typed.proofs.Rooms.{all_more}
use Rattle.ild_typed_places.specs.Places.{Place, Places, each_place, places_in}
use Rattle.ild_typed_places.proofs.Listing.{all_one}
use Rattle.ild_typed_places.proofs.Values.{alike}
use Rattle.ild_value_meaning.proofs.Told.{told}
use Rattle.ild_path_changes.specs.LiftLaws.{of_values}
use Rattle.ild_path_changes.proofs.HaveTrees.{has_trees}
use Rattle.ild_path_changes.proofs.Represented.{represents}
use Rattle.ild_path_edits.specs.Edit.{Edit, set_at, ins_at, del_at, HasTextPath, path_of, new_slot, placed, set_in, ins_in, unless_kept, del_in, change}
use Rattle.ild_path_edits.specs.EditLaws.{Brings}
use Rattle.ild_path_edits.specs.Table.{slot_to_set, slot_to_insert, key_fits, MayStand, insert_part, delete_part, refusal_to_delete}
use Rattle.ild_path_edits.proofs.Holders.{set_part-seen, set_part-there}
use Rattle.ild_path_edits.proofs.KeepTyped.{of_type_is_kept}
use Rattle.ild_path_edits.proofs.Paths.{inside_of, typed_changed, set_typed, inserted_typed, deleted_typed, last_text, may_stand}
use Rattle.ild_path_nodes.specs.NodeLaws.{nodes_brought}
use Rattle.ild_path_way.specs.Way.{nodes_for, nodes_met}
use Rattle.ild_path_passed.specs.Laws.{EditsPass}
use Rattle.ild_path_passed.proofs.Joined.{by_blocks}
use Rattle.ild_path_passed.proofs.Holding.{N}
use Rattle.ild_path_passed.proofs.Stepping.{OnWay, part_step, set_step, insert_step, delete_step}

module _ (Q : Place → Type 0) (Given : List ℕ → Type 0) (gives : (b : List ℕ) (ps : Places) → Given b → Q (b, ps)) (h : List ℕ → List ℕ) (rows : List Row) (is_key : ℕ → List ℕ → Bool)
    (schema : IsSchema rows) (keys : TestsKeys rows is_key) where
  abbrev Of : Slot → Value → Type 0
  Of slot v = OfType rows slot v

  abbrev Has : Slot → Value → Type 0
  Has slot v = N Q Given gives h rows slot v

  abbrev Rep : Slot → Value → Data → Type 0
  Rep slot v t = represented (whole h) rows slot v ≡ Some t

  abbrev Way : Slot → Value → List ℕ → Type 0
  Way slot c s = OnWay Q Given gives h rows is_key schema keys slot c s

  -- the nodes on a path's way are given
  abbrev Met : InSlot → List (List ℕ) → Type 0
  Met p path = AllByRecursion Given (nodes_met h rows p path)

  part_data : (p q : InSlot) (s : List ℕ) (t : Data) → Of p.0 p.1 → part (seen rows p) s ≡ Some q → Rep p.0 p.1 t → (d : Data) × Rep q.0 q.1 d
  part_data p q s t is e made =
      let kept = of_type_is_kept rows is_key schema keys in
      let r = represents rows is_key (told rows schema).apart (told rows schema).any_there keys (legible rows schema.accepted).clear (whole h) (has_trees (whole h) rows (of_values h refl) schema.table.texts.spelled) kept in
      let d = r.parts p q s t is e made in (d.0, d.1)

  -- ---- along a path, where f keeps it at the last holder

  module _ (f : Holder → List ℕ → Holder) (l : Holder × List ℕ)
      (typed : (q : InSlot) → Of q.0 q.1 → seen rows q ≡ l.0 → Of q.0 (value_of (f l.0 l.1)))
      (keeps : (q : InSlot) (t : Data) → Of q.0 q.1 → Rep q.0 q.1 t → seen rows q ≡ l.0 → Has q.0 q.1 → Way q.0 (value_of (f (seen rows q) l.1)) l.1 → Has q.0 (value_of (f (seen rows q) l.1))) where
    change_step : (p : InSlot) (s x : List ℕ) (ss : List (List ℕ)) (t : Data) (o : Option InSlot) → part (seen rows p) s ≡ o → Of p.0 p.1 → Rep p.0 p.1 t → option_and_then (λ q. last_holder rows q x ss) o ≡ Some l → Has p.0 p.1
        → Met (p.0, option_map_or (λ q. value_of (set_part (seen rows p) s (changed_in rows f q x ss))) o p.1) (s ∷ x ∷ ss)
        → ((q : InSlot) → part (seen rows p) s ≡ Some q → last_holder rows q x ss ≡ Some l → Met (q.0, changed_in rows f q x ss) (x ∷ ss) → Has q.0 (changed_in rows f q x ss))
        → Has p.0 (option_map_or (λ q. value_of (set_part (seen rows p) s (changed_in rows f q x ss))) o p.1)
    change_step p s x ss t None e is made last a given rest = absurd (none-some l last)
    change_step p s x ss t (Some q) e is made last a given rest =
        let kept = of_type_is_kept rows is_key schema keys in
        let c = changed_in rows f q x ss in
        let slot : slot_to_set (seen rows p) s ≡ Some q.0 = kept.slots p q s is e in
        let new : Of q.0 c = typed_changed rows is_key (λ slot v. OfType rows slot v) kept f l typed q x ss (kept.parts p q s is e) last in
        let there : part (seen rows (p.0, value_of (set_part (seen rows p) s c))) s ≡ Some (q.0, c) =
        ap (λ k. part k s) (set_part-seen rows p.0 p.1 s c)
        ∙ set_part-there (seen rows p) s q.0 c slot (λ g. inside_of rows is_key (λ slot v. OfType rows slot v) kept q.0 c new g) in
        let both = all_split Given (nodes_for h rows (form_of rows p.0) (value_of (set_part (seen rows p) s c)) s)
        (option_map_or (λ r. nodes_met h rows r (x ∷ ss)) (part (seen rows (p.0, value_of (set_part (seen rows p) s c))) s) []) given in
        let more : Met (q.0, c) (x ∷ ss) = subst (λ o. AllByRecursion Given (option_map_or (λ r. nodes_met h rows r (x ∷ ss)) o [])) there both.1 in
        set_step Q Given gives h rows is_key schema keys p s q.0 c t is made slot (kept.set p s q.0 c is slot (kept.there p q s is e) new) a (rest q e last more) both.0

    changes : (ss : List (List ℕ)) (p : InSlot) (s : List ℕ) (t : Data) → Of p.0 p.1 → Rep p.0 p.1 t → last_holder rows p s ss ≡ Some l → Has p.0 p.1 → Met (p.0, changed_in rows f p s ss) (s ∷ ss) → Has p.0 (changed_in rows f p s ss)
    changes [] p s t is made last a given =
        let e : (seen rows p, s) ≡ l = same_Some (seen rows p, s) l last in
        let c = value_of (f (seen rows p) s) in
        let here = (all_split Given (nodes_for h rows (form_of rows p.0) c s) (option_map_or (λ r. nodes_met h rows r []) (part (seen rows (p.0, c)) s) []) given).0 in
        subst (λ y. Way p.0 (value_of (f (seen rows p) y)) y → Has p.0 (value_of (f (seen rows p) y))) (λ i. (sym e i).1) (keeps p t is made (λ i. (e i).0) a) here
    changes (x ∷ xs) p s t is made last a given =
        change_step p s x xs t (part (seen rows p) s) refl is made last a given
        (λ q e k more. let d = part_data p q s t is e made in changes xs q x d.0 ((of_type_is_kept rows is_key schema keys).parts p q s is e) d.1 k (part_step Q Given gives h rows is_key schema keys p q s a e) more)

  -- ---- edits

  module _ (p : InSlot) (s : List ℕ) (ss : List (List ℕ)) (l : Holder × List ℕ) (t : Data) (is : Of p.0 p.1) (made : Rep p.0 p.1 t) (last : last_holder rows p s ss ≡ Some l) (a : Has p.0 p.1) where
    set_kept : (u : Slot) (w : Value) → slot_to_set l.0 l.1 ≡ Some u → MayStand is_key l.0 l.1 → Of u w → Has u w → Met (p.0, changed_in rows (λ k t. set_part k t w) p s ss) (s ∷ ss) → Has p.0 (changed_in rows (λ k t. set_part k t w) p s ss)
    set_kept u w slot stands new b given =
        let typed = set_typed rows is_key (λ slot v. OfType rows slot v) (of_type_is_kept rows is_key schema keys) l u w slot stands new in
        changes (λ k t. set_part k t w) l typed
        (λ q d qis qmade e c way.
        set_step Q Given gives h rows is_key schema keys q l.1 u w d qis qmade (ap (λ k. slot_to_set k l.1) e ∙ slot) (subst (λ k. Of q.0 (value_of (set_part k l.1 w))) (sym e) (typed q qis e)) c b way)
        ss p s t is made last a given

    insert_kept : (u : Slot) (w : Value) → slot_to_insert l.0 l.1 ≡ Some u → MayStand is_key l.0 l.1 → Of u w → Has u w → Met (p.0, changed_in rows (λ k t. insert_part k t w) p s ss) (s ∷ ss)
        → Has p.0 (changed_in rows (λ k t. insert_part k t w) p s ss)
    insert_kept u w slot stands new b given =
        let typed = inserted_typed rows is_key (λ slot v. OfType rows slot v) (of_type_is_kept rows is_key schema keys) l u w slot stands new in
        changes (λ k t. insert_part k t w) l typed
        (λ q d qis qmade e c way.
        insert_step Q Given gives h rows is_key schema keys q l.1 u w d qis qmade (ap (λ k. slot_to_insert k l.1) e ∙ slot) (subst (λ k. Of q.0 (value_of (insert_part k l.1 w))) (sym e) (typed q qis e)) c b way)
        ss p s t is made last a given

    delete_kept : refusal_to_delete l.0 l.1 ≡ None → Met (p.0, changed_in rows delete_part p s ss) (s ∷ ss) → Has p.0 (changed_in rows delete_part p s ss)
    delete_kept free given =
        let typed = deleted_typed rows is_key (λ slot v. OfType rows slot v) (of_type_is_kept rows is_key schema keys) l free in
        changes delete_part l typed
        (λ q d qis qmade e c way.
        delete_step Q Given gives h rows is_key schema keys q l.1 d qis qmade (ap (λ k. refusal_to_delete k l.1) e ∙ free) (subst (λ k. Of q.0 (value_of (delete_part k l.1))) (sym e) (typed q qis e)) c way)
        ss p s t is made last a given

    stands_there : AllByRecursion IsUtf8 (s ∷ ss) → key_fits is_key l.0 l.1 ≡ true → MayStand is_key l.0 l.1
    stands_there texts fits = may_stand is_key l.0 l.1 (last_text rows is_key (λ slot v. OfType rows slot v) (of_type_is_kept rows is_key schema keys) p s ss l texts last) fits

  ok_same : (v w : Value) → ◌≡◌ {A = Result Value No} (Ok v) (Ok w) → v ≡ w
  ok_same v w e = cc

  placed_has : (slot : Slot) (fits : Bool) (d : Value) (o : Option Slot) (c : Value) → placed fits d o ≡ Ok c → ((u : Slot) → o ≡ Some u → fits ≡ true → d ≡ c → Has slot d) → Has slot c
  placed_has slot fits d None c e rest = absurd cc
  placed_has slot true d (Some u) c e rest = let same = ok_same d c e in subst (Has slot) same (rest u refl refl same)
  placed_has slot false d (Some u) c e rest = absurd cc

  kept_has : (slot : Slot) (d : Value) (o : Option No) (c : Value) → unless_kept d o ≡ Ok c → (o ≡ None → d ≡ c → Has slot d) → Has slot c
  kept_has slot d None c e rest = let same = ok_same d c e in subst (Has slot) same (rest refl same)
  kept_has slot d (Some refusal) c e rest = absurd cc

  slot_by : {X : Type 0} (g : X → Option Slot) (o : Option X) (l : X) (u : Slot) → o ≡ Some l → g l ≡ Some u → option_and_then g o ≡ Some u
  slot_by g o l u e f = ap (option_and_then g) e ∙ f

  edit_has : (p : InSlot) (t : Data) (e : Edit Value) (c : Value) → HasTextPath e → Brings rows (OfType rows) p e → Of p.0 p.1 → Rep p.0 p.1 t → Has p.0 p.1 → Brings rows (N Q Given gives h rows) p e
      → change rows is_key p e ≡ Ok c → Met (p.0, c) (path_of e) → Has p.0 c
  edit_has p t (set_at [] w) c texts new is made a b e given = subst (Has p.0) (ok_same w c e) (b p.0 refl)
  edit_has p t (set_at (s ∷ ss) w) c texts new is made a b e given = by (last_holder rows p s ss) refl e where
    by : (o : Option (Holder × List ℕ)) → last_holder rows p s ss ≡ o → set_in is_key (changed_in rows (λ k t. set_part k t w) p s ss) o ≡ Ok c → Has p.0 c
    by None last m = absurd cc
    by (Some l) last m =
        placed_has p.0 (key_fits is_key l.0 l.1) (changed_in rows (λ k t. set_part k t w) p s ss) (slot_to_set l.0 l.1) c m
        (λ u slot fits same.
        let there = slot_by (λ (l : Holder × List ℕ). slot_to_set l.0 l.1) (last_holder rows p s ss) l u last slot in
        set_kept p s ss l t is made last a u w slot (stands_there p s ss l t is made last a texts fits) (new u there) (b u there) (subst (λ v. Met (p.0, v) (s ∷ ss)) (sym same) given))
  edit_has p t (ins_at [] w) c texts new is made a b e given = absurd cc
  edit_has p t (ins_at (s ∷ ss) w) c texts new is made a b e given = by (last_holder rows p s ss) refl e where
    by : (o : Option (Holder × List ℕ)) → last_holder rows p s ss ≡ o → ins_in is_key (changed_in rows (λ k t. insert_part k t w) p s ss) o ≡ Ok c → Has p.0 c
    by None last m = absurd cc
    by (Some l) last m =
        placed_has p.0 (key_fits is_key l.0 l.1) (changed_in rows (λ k t. insert_part k t w) p s ss) (slot_to_insert l.0 l.1) c m
        (λ u slot fits same.
        let there = slot_by (λ (l : Holder × List ℕ). slot_to_insert l.0 l.1) (last_holder rows p s ss) l u last slot in
        insert_kept p s ss l t is made last a u w slot (stands_there p s ss l t is made last a texts fits) (new u there) (b u there) (subst (λ v. Met (p.0, v) (s ∷ ss)) (sym same) given))
  edit_has p t (del_at []) c texts new is made a b e given = absurd cc
  edit_has p t (del_at (s ∷ ss)) c texts new is made a b e given = by (last_holder rows p s ss) refl e where
    by : (o : Option (Holder × List ℕ)) → last_holder rows p s ss ≡ o → del_in (changed_in rows delete_part p s ss) o ≡ Ok c → Has p.0 c
    by None last m = absurd cc
    by (Some l) last m =
        kept_has p.0 (changed_in rows delete_part p s ss) (refusal_to_delete l.0 l.1) c m
        (λ free same. delete_kept p s ss l t is made last a free (subst (λ v. Met (p.0, v) (s ∷ ss)) (sym same) given))

  -- the part that comes, where its nodes are given
  part_has : (slot : Slot) (w : Value) → AllByRecursion Given (nodes h rows slot w) → Has slot w
  part_has slot w all = by_blocks Q Given gives (places_in h rows slot w) ((alike Given h rows slot w).0 all)

  brings_given : (p : InSlot) (e : Edit Value) → AllByRecursion Given (nodes_brought h rows (new_slot rows p e) e) → Brings rows (N Q Given gives h rows) p e
  brings_given p (set_at path w) all = λ u slot. part_has u w (subst (λ o. AllByRecursion Given (option_map_or (λ s. nodes h rows s w) o [])) slot all)
  brings_given p (ins_at path w) all = λ u slot. part_has u w (subst (λ o. AllByRecursion Given (option_map_or (λ s. nodes h rows s w) o [])) slot all)
  brings_given p (del_at path) all = tt

  pub edit_passes : (p : InSlot) (t : Data) (e : Edit Value) (c : Value) → HasTextPath e → Brings rows (OfType rows) p e → Of p.0 p.1 → Rep p.0 p.1 t → Has p.0 p.1 → change rows is_key p e ≡ Ok c
      → Met (p.0, c) (path_of e) → AllByRecursion Given (nodes_brought h rows (new_slot rows p e) e) → Has p.0 c
  edit_passes p t e c texts new is made a changed met brought = edit_has p t e c texts new is made a (brings_given p e brought) changed met

pub edits_are_passed : EditsPass
edits_are_passed = λ h rows is_key schema keys given p t e c texts new is made changed met brought.
    let old = each_place (places_in h rows p.0 p.1) in
    let Q : Place → Type 0 = λ x. Contains given (id_of x.0) ⊎ Contains old x in
    edit_passes Q (λ b. Contains given (id_of b)) (λ b ps is. inl is) h rows is_key schema keys p t e c texts new is made (all_more (Contains old) Q (λ x here. inr here) old (all_one old)) changed met brought
