-- A path in one block stays one where what is at its end changes.
use Rattle.std.proofs.Common.{◌≡◌, ℕ, List, [], ◌∷◌, Bool, true, false, Option, Some, None, refl, ap, sym, subst, ◌∙◌}
use Rattle.std.specs.Prelude.{IsUtf8, not, ◌&&◌, Result, Ok, option_and_then}
use Rattle.std.specs.List.{AllByRecursion}
use Rattle.std.specs.Option.{option_map_or}
use Rattle.std.proofs.lemmas.Option.{none-some}
use Rattle.std.proofs.lemmas.Bool.{and_parts}
use Rattle.ild_schema.specs.declared.def.TypeDef.{TypeDef}
use Rattle.ild_schema.specs.declared.number.Slot.{Slot}
use Rattle.ild_schema.specs.declared.row.Row.{Row}
use Rattle.ild_schema.specs.Slots.{form_of}
use Rattle.ild_schema.specs.Value.{Value}
use Rattle.ild_script.specs.declared.reply.No.{No}
use Rattle.ild_typed.specs.At.{InSlot, seen, at, last_holder, changed_in}
use Rattle.ild_typed.specs.Holder.{Holder, value_of}
use Rattle.ild_typed.specs.OfType.{OfType, TestsKeys}
use Rattle.ild_typed.specs.Schema.{IsSchema}
use Rattle.ild_typed.specs.Segment.{part, set_part}
use Rattle.ild_path_edits.specs.Edit.{Edit, set_at, ins_at, del_at, HasTextPath, path_of, placed, set_in, ins_in, unless_kept, del_in, change}
use Rattle.ild_path_edits.specs.EditLaws.{Brings}
use Rattle.ild_path_edits.specs.Table.{slot_to_set, slot_to_insert, key_fits, MayStand, insert_part, delete_part, refusal_to_delete}
use Rattle.ild_path_edits.proofs.Holders.{set_part-seen, set_part-there}
use Rattle.ild_path_edits.proofs.KeepTyped.{of_type_is_kept}
use Rattle.ild_path_edits.proofs.Paths.{typed_changed, inside_of, set_typed, inserted_typed, deleted_typed, last_text, last_there, may_stand}
use Rattle.ild_path_within.specs.Within.{with_part}
use Rattle.ild_path_within.proofs.Splitting.{changed_with}
use Rattle.ild_typed_fronts.specs.Front.{in_one_block, is_root, stands_as_root}
use Rattle.ild_typed_fronts.proofs.Pathing.{not_true, holder_back, set_root, insert_root, delete_root}
use Rattle.ild_path_way.specs.WayLaws.{BlocksStay, EditsStay}

-- it makes no HAMT of what is none
abbrev KeepsPlain : (Holder → List ℕ → Holder) → Type 0
KeepsPlain f = (d : Option TypeDef) (k : Holder) (s : List ℕ) → stands_as_root d (value_of k) ≡ false → stands_as_root d (value_of (f k s)) ≡ false

module _ (rows : List Row) (is_key : ℕ → List ℕ → Bool) (schema : IsSchema rows) (keys : TestsKeys rows is_key) where
  abbrev Of : Slot → Value → Type 0
  Of slot v = OfType rows slot v

  plain_first : (p : InSlot) (s : List ℕ) (ss : List (List ℕ)) → in_one_block rows p (s ∷ ss) ≡ true → is_root rows p ≡ false
  plain_first p s ss e = not_true (is_root rows p) (and_parts (not (is_root rows p)) _ e).0

  rest_inside : (p q : InSlot) (s : List ℕ) (ss : List (List ℕ)) → in_one_block rows p (s ∷ ss) ≡ true → part (seen rows p) s ≡ Some q → in_one_block rows q ss ≡ true
  rest_inside p q s ss e there = sym (ap (λ o. option_map_or (λ q. in_one_block rows q ss) o true) there) ∙ (and_parts (not (is_root rows p)) _ e).1

  still_plain : (f : Holder → List ℕ → Holder) → KeepsPlain f → (p : InSlot) (s : List ℕ) → is_root rows p ≡ false → is_root rows (p.0, value_of (f (seen rows p) s)) ≡ false
  still_plain f keeps p s plain = keeps (form_of rows p.0) (seen rows p) s (ap (stands_as_root (form_of rows p.0)) (holder_back rows p.0 p.1) ∙ plain)

  one_step : (c : Value) (p : InSlot) (s : List ℕ) (ss : List (List ℕ)) (o : Option InSlot) → is_root rows (p.0, c) ≡ false → part (seen rows (p.0, c)) s ≡ o → option_map_or (λ q. in_one_block rows q ss) o true ≡ true
      → in_one_block rows (p.0, c) (s ∷ ss) ≡ true
  one_step c p s ss o plain there rest = (λ i. not (plain i) && option_map_or (λ q. in_one_block rows q ss) (there i) true) ∙ rest

  last_step : (o : Option InSlot) → option_map_or (λ q. in_one_block rows q []) o true ≡ true
  last_step None = refl
  last_step (Some q) = refl

  -- ---- where f is done to the last holder

  module _ (f : Holder → List ℕ → Holder) (plain : KeepsPlain f) (l : Holder × List ℕ) (typed : (q : InSlot) → Of q.0 q.1 → seen rows q ≡ l.0 → Of q.0 (value_of (f l.0 l.1))) where
    change_step : (p : InSlot) (s t : List ℕ) (ss : List (List ℕ)) (o : Option InSlot) → part (seen rows p) s ≡ o → Of p.0 p.1 → is_root rows p ≡ false → option_and_then (λ q. last_holder rows q t ss) o ≡ Some l
        → ((q : InSlot) → part (seen rows p) s ≡ Some q → last_holder rows q t ss ≡ Some l → in_one_block rows (q.0, changed_in rows f q t ss) (t ∷ ss) ≡ true)
        → in_one_block rows (p.0, option_map_or (λ q. value_of (set_part (seen rows p) s (changed_in rows f q t ss))) o p.1) (s ∷ t ∷ ss) ≡ true
    change_step p s t ss None e is flat last rest = absurd (none-some l last)
    change_step p s t ss (Some q) e is flat last rest =
        let kept = of_type_is_kept rows is_key schema keys in
        let c = changed_in rows f q t ss in
        let new : Of q.0 c = typed_changed rows is_key (λ slot v. OfType rows slot v) kept f l typed q t ss (kept.parts p q s is e) last in
        let there : part (seen rows (p.0, value_of (set_part (seen rows p) s c))) s ≡ Some (q.0, c) =
        ap (λ k. part k s) (set_part-seen rows p.0 p.1 s c)
        ∙ set_part-there (seen rows p) s q.0 c (kept.slots p q s is e) (λ g. inside_of rows is_key (λ slot v. OfType rows slot v) kept q.0 c new g) in
        one_step (value_of (set_part (seen rows p) s c)) p s (t ∷ ss) (Some (q.0, c)) (still_plain (λ k s. set_part k s c) (λ d k s g. set_root d k s c g) p s flat) there (rest q e last)

    changes : (ss : List (List ℕ)) (p : InSlot) (s : List ℕ) → Of p.0 p.1 → in_one_block rows p (s ∷ ss) ≡ true → last_holder rows p s ss ≡ Some l → in_one_block rows (p.0, changed_in rows f p s ss) (s ∷ ss) ≡ true
    changes [] p s is one last = one_step (value_of (f (seen rows p) s)) p s [] (part (seen rows (p.0, value_of (f (seen rows p) s))) s) (still_plain f plain p s (plain_first p s [] one)) refl (last_step _)
    changes (t ∷ ts) p s is one last =
        change_step p s t ts (part (seen rows p) s) refl is (plain_first p s (t ∷ ts) one) last
        (λ q e k. changes ts q t ((of_type_is_kept rows is_key schema keys).parts p q s is e) (rest_inside p q s (t ∷ ts) one e) k)

  -- ---- edits

  module _ (p : InSlot) (s : List ℕ) (ss : List (List ℕ)) (l : Holder × List ℕ) (is : Of p.0 p.1) (one : in_one_block rows p (s ∷ ss) ≡ true) (last : last_holder rows p s ss ≡ Some l) where
    set_stays : (u : Slot) (w : Value) → slot_to_set l.0 l.1 ≡ Some u → MayStand is_key l.0 l.1 → Of u w → in_one_block rows (p.0, changed_in rows (λ k t. set_part k t w) p s ss) (s ∷ ss) ≡ true
    set_stays u w slot stands new =
        changes (λ k t. set_part k t w) (λ d k t g. set_root d k t w g) l (set_typed rows is_key (λ slot v. OfType rows slot v) (of_type_is_kept rows is_key schema keys) l u w slot stands new) ss p s is one last

    insert_stays : (u : Slot) (w : Value) → slot_to_insert l.0 l.1 ≡ Some u → MayStand is_key l.0 l.1 → Of u w → in_one_block rows (p.0, changed_in rows (λ k t. insert_part k t w) p s ss) (s ∷ ss) ≡ true
    insert_stays u w slot stands new =
        changes (λ k t. insert_part k t w) (λ d k t g. insert_root d k t w g) l (inserted_typed rows is_key (λ slot v. OfType rows slot v) (of_type_is_kept rows is_key schema keys) l u w slot stands new) ss p s is one last

    delete_stays : refusal_to_delete l.0 l.1 ≡ None → in_one_block rows (p.0, changed_in rows delete_part p s ss) (s ∷ ss) ≡ true
    delete_stays free = changes delete_part delete_root l (deleted_typed rows is_key (λ slot v. OfType rows slot v) (of_type_is_kept rows is_key schema keys) l free) ss p s is one last

    stands_there : AllByRecursion IsUtf8 (s ∷ ss) → key_fits is_key l.0 l.1 ≡ true → MayStand is_key l.0 l.1
    stands_there texts fits = may_stand is_key l.0 l.1 (last_text rows is_key (λ slot v. OfType rows slot v) (of_type_is_kept rows is_key schema keys) p s ss l texts last) fits

  abbrev Stays : InSlot → List (List ℕ) → Value → Type 0
  Stays p path c = in_one_block rows (p.0, c) path ≡ true

  ok_same : (v w : Value) → ◌≡◌ {A = Result Value No} (Ok v) (Ok w) → v ≡ w
  ok_same v w e = cc

  placed_stays : (p : InSlot) (path : List (List ℕ)) (fits : Bool) (d : Value) (o : Option Slot) (c : Value) → placed fits d o ≡ Ok c → ((u : Slot) → o ≡ Some u → fits ≡ true → Stays p path d) → Stays p path c
  placed_stays p path fits d None c e rest = absurd cc
  placed_stays p path true d (Some u) c e rest = subst (Stays p path) (ok_same d c e) (rest u refl refl)
  placed_stays p path false d (Some u) c e rest = absurd cc

  kept_stays : (p : InSlot) (path : List (List ℕ)) (d : Value) (o : Option No) (c : Value) → unless_kept d o ≡ Ok c → (o ≡ None → Stays p path d) → Stays p path c
  kept_stays p path d None c e rest = subst (Stays p path) (ok_same d c e) (rest refl)
  kept_stays p path d (Some refusal) c e rest = absurd cc

  slot_by : {X : Type 0} (g : X → Option Slot) (o : Option X) (l : X) (u : Slot) → o ≡ Some l → g l ≡ Some u → option_and_then g o ≡ Some u
  slot_by g o l u e f = ap (option_and_then g) e ∙ f

  pub edit_stays : (p : InSlot) (e : Edit Value) (c : Value) → HasTextPath e → Brings rows (OfType rows) p e → Of p.0 p.1 → in_one_block rows p (path_of e) ≡ true → change rows is_key p e ≡ Ok c → Stays p (path_of e) c
  edit_stays p (set_at [] w) c texts new is one made = refl
  edit_stays p (set_at (s ∷ ss) w) c texts new is one made = by (last_holder rows p s ss) refl made where
    by : (o : Option (Holder × List ℕ)) → last_holder rows p s ss ≡ o → set_in is_key (changed_in rows (λ k t. set_part k t w) p s ss) o ≡ Ok c → Stays p (s ∷ ss) c
    by None e m = absurd cc
    by (Some l) e m =
        placed_stays p (s ∷ ss) (key_fits is_key l.0 l.1) (changed_in rows (λ k t. set_part k t w) p s ss) (slot_to_set l.0 l.1) c m
        (λ u slot fits.
        set_stays p s ss l is one e u w slot (stands_there p s ss l is one e texts fits) (new u (slot_by (λ (l : Holder × List ℕ). slot_to_set l.0 l.1) (last_holder rows p s ss) l u e slot)))
  edit_stays p (ins_at [] w) c texts new is one made = refl
  edit_stays p (ins_at (s ∷ ss) w) c texts new is one made = by (last_holder rows p s ss) refl made where
    by : (o : Option (Holder × List ℕ)) → last_holder rows p s ss ≡ o → ins_in is_key (changed_in rows (λ k t. insert_part k t w) p s ss) o ≡ Ok c → Stays p (s ∷ ss) c
    by None e m = absurd cc
    by (Some l) e m =
        placed_stays p (s ∷ ss) (key_fits is_key l.0 l.1) (changed_in rows (λ k t. insert_part k t w) p s ss) (slot_to_insert l.0 l.1) c m
        (λ u slot fits.
        insert_stays p s ss l is one e u w slot (stands_there p s ss l is one e texts fits) (new u (slot_by (λ (l : Holder × List ℕ). slot_to_insert l.0 l.1) (last_holder rows p s ss) l u e slot)))
  edit_stays p (del_at []) c texts new is one made = refl
  edit_stays p (del_at (s ∷ ss)) c texts new is one made = by (last_holder rows p s ss) refl made where
    by : (o : Option (Holder × List ℕ)) → last_holder rows p s ss ≡ o → del_in (changed_in rows delete_part p s ss) o ≡ Ok c → Stays p (s ∷ ss) c
    by None e m = absurd cc
    by (Some l) e m = kept_stays p (s ∷ ss) (changed_in rows delete_part p s ss) (refusal_to_delete l.0 l.1) c m (λ free. delete_stays p s ss l is one e free)

  pub part_stays : (path : List (List ℕ)) (p q : InSlot) (m : Value) → Of p.0 p.1 → in_one_block rows p path ≡ true → at rows p path ≡ Some q → Of q.0 m → Stays p path (with_part rows p path m)
  part_stays [] p q m is one there new = refl
  part_stays (s ∷ ss) p q m is one there new =
      let l = last_there rows is_key (λ slot v. OfType rows slot v) (of_type_is_kept rows is_key schema keys) s ss p q there is in
      subst (Stays p (s ∷ ss)) (changed_with rows ss p q s m there) (set_stays p s ss l.0 is one l.1 q.0 m l.3 l.4 new)

pub blocks_stay : BlocksStay
blocks_stay = λ rows is_key schema keys p q path m is one there new. part_stays rows is_key schema keys path p q m is one there new

pub edits_stay : EditsStay
edits_stay = λ rows is_key schema keys p e c texts new is one made. edit_stays rows is_key schema keys p e c texts new is one made
