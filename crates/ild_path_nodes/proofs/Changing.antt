-- The nodes of parts, and of what edits make, along paths in one block; and those of HAMTs.
use Rattle.std.proofs.Common.{◌≡◌, ℕ, List, [], ◌∷◌, ◌++◌, Bool, true, false, Option, Some, None, refl, ap, sym, subst, ◌∙◌}
use Rattle.std.specs.Prelude.{IsUtf8, Contains, Result, Ok, option_and_then}
use Rattle.std.specs.List.{AllByRecursion}
use Rattle.std.specs.Option.{option_map_or}
use Rattle.std.proofs.lemmas.List.Elements.{All-contains_itself, recursion_from_All}
use Rattle.std.proofs.lemmas.Option.{same_Some, none-some}
use Rattle.ild_data.proofs.AllOf.{all_split, all_append}
use Rattle.ild_data.specs.Among.{AreAmong}
use Rattle.ild_data.specs.Key.{put, without}
use Rattle.ild_schema.specs.declared.def.MapForm.TheVariants as MF
use Rattle.ild_schema.specs.declared.def.TypeDef.{TypeDef}
use Rattle.ild_schema.specs.declared.def.TypeDef.TheVariants as D
use Rattle.ild_schema.specs.declared.number.Slot.{Slot}
use Rattle.ild_schema.specs.declared.row.Row.{Row}
use Rattle.ild_schema.specs.Slots.{form_of}
use Rattle.ild_schema.specs.Value as V
use Rattle.ild_schema.specs.Value.{Value, Pairs, pairs_of, pairs_list}
use Rattle.ild_script.specs.declared.reply.No.{No}
use Rattle.ild_typed.specs.At.{InSlot, seen, at, last_holder, changed_in}
use Rattle.ild_typed.specs.Blocks.{nodes, hamt_nodes, nodes_of_pairs}
use Rattle.ild_typed.specs.Hamt.{whole}
use Rattle.ild_typed.specs.Holder.{Holder, holder_of, value_of}
use Rattle.ild_typed.specs.OfType.{OfType, TestsKeys}
use Rattle.ild_typed.specs.Represented.{represented_pairs}
use Rattle.ild_typed.specs.Schema.{IsSchema}
use Rattle.ild_typed.specs.Segment.{part, set_part}
use Rattle.ild_value_meaning.proofs.Told.{told}
use Rattle.ild_value_meaning.proofs.TypedByParts.{to_parts}
use Rattle.ild_path_edits.specs.Edit.{Edit, set_at, ins_at, del_at, HasTextPath, path_of, new_slot, placed, set_in, ins_in, unless_kept, del_in, change}
use Rattle.ild_path_edits.specs.EditLaws.{Brings}
use Rattle.ild_path_edits.specs.Table.{slot_to_set, slot_to_insert, key_fits, MayStand, insert_part, delete_part, refusal_to_delete}
use Rattle.ild_path_edits.proofs.HeldTyped.{IsHeld, held}
use Rattle.ild_path_edits.proofs.Holders.{set_part-seen}
use Rattle.ild_path_edits.proofs.KeepTyped.{of_type_is_kept}
use Rattle.ild_path_edits.proofs.Paths.{typed_changed, set_typed, inserted_typed, deleted_typed, last_text, last_there, may_stand}
use Rattle.ild_path_edits.proofs.Seen.{insert_part-seen, delete_part-seen}
use Rattle.ild_path_edits.proofs.Typing.{Each, each_put, each_without}
use Rattle.ild_path_within.specs.Within.{with_part}
use Rattle.ild_path_within.proofs.Splitting.{changed_with, first_of_path}
use Rattle.ild_typed_fronts.specs.Front.{stands_as_root, is_root, in_one_block}
use Rattle.ild_typed_fronts.proofs.Pathing.{holder_back, pairs_back, set_root, insert_root, delete_root, first_plain, rest_plain}
use Rattle.ild_path_nodes.specs.NodeLaws.{NodesOfParts, NodesOfWholes, NodesOfEdits, NodesOfHamts, IsHamt, nodes_in, nodes_brought, own_nodes}
use Rattle.ild_path_nodes.proofs.Having.{N, EntryHas, PartsHave, of_map, pairs_each, each_pairs, to_holder, from_holder, own_plain, part_has, set_has, insert_has, delete_has}

module _ (P : List ℕ → Type 0) (h : List ℕ → List ℕ) (rows : List Row) (is_key : ℕ → List ℕ → Bool) (schema : IsSchema rows) (keys : TestsKeys rows is_key) where
  abbrev Of : Slot → Value → Type 0
  Of slot v = OfType rows slot v

  abbrev Has : Slot → Value → Type 0
  Has slot v = N P h rows slot v

  has_parts : (p : InSlot) → Of p.0 p.1 → Has p.0 p.1 → PartsHave P h rows (seen rows p)
  has_parts p is a = (to_holder P h rows is_key p.0 p.1 (to_parts rows is_key keys p.1 p.0 is) a).1

  pub part_step : (p q : InSlot) (s : List ℕ) → Of p.0 p.1 → Has p.0 p.1 → part (seen rows p) s ≡ Some q → Has q.0 q.1
  part_step p q s is a e = part_has P h rows (seen rows p) s q (has_parts p is a) e

  pub at_has : (path : List (List ℕ)) (p q : InSlot) → Of p.0 p.1 → Has p.0 p.1 → at rows p path ≡ Some q → Has q.0 q.1
  at_has [] p q is a e = subst (λ (r : InSlot). Has r.0 r.1) (same_Some p q e) a
  at_has (s ∷ ss) p q is a e =
      let x = first_of_path rows p q s ss e in
      at_has ss x.item q ((of_type_is_kept rows is_key schema keys).parts p x.item s is x.there) (part_step p x.item s is a x.there) x.made

  -- a changed holder that is no HAMT
  whole_has : (slot : Slot) (k : Holder) → holder_of rows slot (value_of k) ≡ k → Of slot (value_of k) → stands_as_root (form_of rows slot) (value_of k) ≡ false → PartsHave P h rows k → Has slot (value_of k)
  whole_has slot k same is plain a =
      let ok = told rows schema in
      from_holder P h rows is_key ok.apart ok.any_there slot k
      (subst (λ k. IsHeldIn slot k) same (held rows is_key ok.apart ok.any_there (value_of k) slot (to_parts rows is_key keys (value_of k) slot is)))
      (own_plain P h rows slot k plain) a
    where
      IsHeldIn : Slot → Holder → Type 0
      IsHeldIn slot k = IsHeld rows is_key (told rows schema).apart (told rows schema).any_there slot k

  still_plain : (p : InSlot) → is_root rows p ≡ false → stands_as_root (form_of rows p.0) (value_of (seen rows p)) ≡ false
  still_plain p plain = ap (stands_as_root (form_of rows p.0)) (holder_back rows p.0 p.1) ∙ plain

  set_step : (p : InSlot) (s : List ℕ) (u : Slot) (w : Value) → Of p.0 p.1 → is_root rows p ≡ false → slot_to_set (seen rows p) s ≡ Some u → Of p.0 (value_of (set_part (seen rows p) s w)) → Has p.0 p.1 → Has u w
      → Has p.0 (value_of (set_part (seen rows p) s w))
  set_step p s u w is plain slot new a b =
      whole_has p.0 (set_part (seen rows p) s w) (set_part-seen rows p.0 p.1 s w) new (set_root (form_of rows p.0) (seen rows p) s w (still_plain p plain))
      (set_has P h rows (seen rows p) s u w (has_parts p is a) slot b)

  insert_step : (p : InSlot) (s : List ℕ) (u : Slot) (w : Value) → Of p.0 p.1 → is_root rows p ≡ false → slot_to_insert (seen rows p) s ≡ Some u → Of p.0 (value_of (insert_part (seen rows p) s w)) → Has p.0 p.1 → Has u w
      → Has p.0 (value_of (insert_part (seen rows p) s w))
  insert_step p s u w is plain slot new a b =
      whole_has p.0 (insert_part (seen rows p) s w) (insert_part-seen rows p.0 p.1 s w) new (insert_root (form_of rows p.0) (seen rows p) s w (still_plain p plain))
      (insert_has P h rows (seen rows p) s u w (has_parts p is a) slot b)

  delete_step : (p : InSlot) (s : List ℕ) → Of p.0 p.1 → is_root rows p ≡ false → Of p.0 (value_of (delete_part (seen rows p) s)) → Has p.0 p.1 → Has p.0 (value_of (delete_part (seen rows p) s))
  delete_step p s is plain new a =
      whole_has p.0 (delete_part (seen rows p) s) (delete_part-seen rows p.0 p.1 s) new (delete_root (form_of rows p.0) (seen rows p) s (still_plain p plain))
      (delete_has P h rows (seen rows p) s (has_parts p is a))

  -- ---- along a path in one block, where f keeps it at the last holder

  module _ (f : Holder → List ℕ → Holder) (l : Holder × List ℕ)
      (typed : (q : InSlot) → Of q.0 q.1 → seen rows q ≡ l.0 → Of q.0 (value_of (f l.0 l.1)))
      (keeps : (q : InSlot) → Of q.0 q.1 → is_root rows q ≡ false → seen rows q ≡ l.0 → Has q.0 q.1 → Has q.0 (value_of (f (seen rows q) l.1))) where
    change_step : (p : InSlot) (s t : List ℕ) (ss : List (List ℕ)) (o : Option InSlot) → part (seen rows p) s ≡ o → Of p.0 p.1 → is_root rows p ≡ false → option_and_then (λ q. last_holder rows q t ss) o ≡ Some l → Has p.0 p.1
        → ((q : InSlot) → part (seen rows p) s ≡ Some q → last_holder rows q t ss ≡ Some l → Has q.0 (changed_in rows f q t ss))
        → Has p.0 (option_map_or (λ q. value_of (set_part (seen rows p) s (changed_in rows f q t ss))) o p.1)
    change_step p s t ss None e is plain last a rest = absurd (none-some l last)
    change_step p s t ss (Some q) e is plain last a rest =
        let kept = of_type_is_kept rows is_key schema keys in
        let c = changed_in rows f q t ss in
        let new : Of q.0 c = typed_changed rows is_key (λ slot v. OfType rows slot v) kept f l typed q t ss (kept.parts p q s is e) last in
        let slot : slot_to_set (seen rows p) s ≡ Some q.0 = kept.slots p q s is e in
        set_step p s q.0 c is plain slot (kept.set p s q.0 c is slot (kept.there p q s is e) new) a (rest q e last)

    changes : (ss : List (List ℕ)) (p : InSlot) (s : List ℕ) → Of p.0 p.1 → in_one_block rows p (s ∷ ss) ≡ true → last_holder rows p s ss ≡ Some l → Has p.0 p.1 → Has p.0 (changed_in rows f p s ss)
    changes [] p s is one last a =
        let e : (seen rows p, s) ≡ l = same_Some (seen rows p, s) l last in
        subst (λ t. Has p.0 (value_of (f (seen rows p) t))) (λ i. (sym e i).1) (keeps p is (first_plain h rows is_key schema keys p s [] one) (λ i. (e i).0) a)
    changes (t ∷ ts) p s is one last a =
        change_step p s t ts (part (seen rows p) s) refl is (first_plain h rows is_key schema keys p s (t ∷ ts) one) last a
        (λ q e k. changes ts q t ((of_type_is_kept rows is_key schema keys).parts p q s is e) (rest_plain h rows is_key schema keys p q s (t ∷ ts) one e) k (part_step p q s is a e))

  -- ---- edits

  module _ (p : InSlot) (s : List ℕ) (ss : List (List ℕ)) (l : Holder × List ℕ) (is : Of p.0 p.1) (one : in_one_block rows p (s ∷ ss) ≡ true) (last : last_holder rows p s ss ≡ Some l) (a : Has p.0 p.1) where
    pub set_kept : (u : Slot) (w : Value) → slot_to_set l.0 l.1 ≡ Some u → MayStand is_key l.0 l.1 → Of u w → Has u w → Has p.0 (changed_in rows (λ k t. set_part k t w) p s ss)
    set_kept u w slot stands new b =
        let typed = set_typed rows is_key (λ slot v. OfType rows slot v) (of_type_is_kept rows is_key schema keys) l u w slot stands new in
        changes (λ k t. set_part k t w) l typed
        (λ q qis plain e c. set_step q l.1 u w qis plain (ap (λ k. slot_to_set k l.1) e ∙ slot) (subst (λ k. Of q.0 (value_of (set_part k l.1 w))) (sym e) (typed q qis e)) c b)
        ss p s is one last a

    insert_kept : (u : Slot) (w : Value) → slot_to_insert l.0 l.1 ≡ Some u → MayStand is_key l.0 l.1 → Of u w → Has u w → Has p.0 (changed_in rows (λ k t. insert_part k t w) p s ss)
    insert_kept u w slot stands new b =
        let typed = inserted_typed rows is_key (λ slot v. OfType rows slot v) (of_type_is_kept rows is_key schema keys) l u w slot stands new in
        changes (λ k t. insert_part k t w) l typed
        (λ q qis plain e c. insert_step q l.1 u w qis plain (ap (λ k. slot_to_insert k l.1) e ∙ slot) (subst (λ k. Of q.0 (value_of (insert_part k l.1 w))) (sym e) (typed q qis e)) c b)
        ss p s is one last a

    delete_kept : refusal_to_delete l.0 l.1 ≡ None → Has p.0 (changed_in rows delete_part p s ss)
    delete_kept free =
        let typed = deleted_typed rows is_key (λ slot v. OfType rows slot v) (of_type_is_kept rows is_key schema keys) l free in
        changes delete_part l typed
        (λ q qis plain e c. delete_step q l.1 qis plain (subst (λ k. Of q.0 (value_of (delete_part k l.1))) (sym e) (typed q qis e)) c)
        ss p s is one last a

    stands_there : AllByRecursion IsUtf8 (s ∷ ss) → key_fits is_key l.0 l.1 ≡ true → MayStand is_key l.0 l.1
    stands_there texts fits = may_stand is_key l.0 l.1 (last_text rows is_key (λ slot v. OfType rows slot v) (of_type_is_kept rows is_key schema keys) p s ss l texts last) fits

  ok_same : (v w : Value) → ◌≡◌ {A = Result Value No} (Ok v) (Ok w) → v ≡ w
  ok_same v w e = cc

  placed_has : (slot : Slot) (fits : Bool) (d : Value) (o : Option Slot) (c : Value) → placed fits d o ≡ Ok c → ((u : Slot) → o ≡ Some u → fits ≡ true → Has slot d) → Has slot c
  placed_has slot fits d None c e rest = absurd cc
  placed_has slot true d (Some u) c e rest = subst (Has slot) (ok_same d c e) (rest u refl refl)
  placed_has slot false d (Some u) c e rest = absurd cc

  kept_has : (slot : Slot) (d : Value) (o : Option No) (c : Value) → unless_kept d o ≡ Ok c → (o ≡ None → Has slot d) → Has slot c
  kept_has slot d None c e rest = subst (Has slot) (ok_same d c e) (rest refl)
  kept_has slot d (Some refusal) c e rest = absurd cc

  slot_by : {X : Type 0} (g : X → Option Slot) (o : Option X) (l : X) (u : Slot) → o ≡ Some l → g l ≡ Some u → option_and_then g o ≡ Some u
  slot_by g o l u e f = ap (option_and_then g) e ∙ f

  -- what an edit makes has it, where the value and the new part do
  pub edit_has : (p : InSlot) (e : Edit Value) (c : Value) → HasTextPath e → Brings rows (OfType rows) p e → Of p.0 p.1 → in_one_block rows p (path_of e) ≡ true → Has p.0 p.1 → Brings rows (N P h rows) p e
      → change rows is_key p e ≡ Ok c → Has p.0 c
  edit_has p (set_at [] w) c texts new is one a b made = subst (Has p.0) (ok_same w c made) (b p.0 refl)
  edit_has p (set_at (s ∷ ss) w) c texts new is one a b made = by (last_holder rows p s ss) refl made where
    by : (o : Option (Holder × List ℕ)) → last_holder rows p s ss ≡ o → set_in is_key (changed_in rows (λ k t. set_part k t w) p s ss) o ≡ Ok c → Has p.0 c
    by None e m = absurd cc
    by (Some l) e m =
        placed_has p.0 (key_fits is_key l.0 l.1) (changed_in rows (λ k t. set_part k t w) p s ss) (slot_to_set l.0 l.1) c m
        (λ u slot fits.
        let there = slot_by (λ (l : Holder × List ℕ). slot_to_set l.0 l.1) (last_holder rows p s ss) l u e slot in
        set_kept p s ss l is one e a u w slot (stands_there p s ss l is one e a texts fits) (new u there) (b u there))
  edit_has p (ins_at [] w) c texts new is one a b made = absurd cc
  edit_has p (ins_at (s ∷ ss) w) c texts new is one a b made = by (last_holder rows p s ss) refl made where
    by : (o : Option (Holder × List ℕ)) → last_holder rows p s ss ≡ o → ins_in is_key (changed_in rows (λ k t. insert_part k t w) p s ss) o ≡ Ok c → Has p.0 c
    by None e m = absurd cc
    by (Some l) e m =
        placed_has p.0 (key_fits is_key l.0 l.1) (changed_in rows (λ k t. insert_part k t w) p s ss) (slot_to_insert l.0 l.1) c m
        (λ u slot fits.
        let there = slot_by (λ (l : Holder × List ℕ). slot_to_insert l.0 l.1) (last_holder rows p s ss) l u e slot in
        insert_kept p s ss l is one e a u w slot (stands_there p s ss l is one e a texts fits) (new u there) (b u there))
  edit_has p (del_at []) c texts new is one a b made = absurd cc
  edit_has p (del_at (s ∷ ss)) c texts new is one a b made = by (last_holder rows p s ss) refl made where
    by : (o : Option (Holder × List ℕ)) → last_holder rows p s ss ≡ o → del_in (changed_in rows delete_part p s ss) o ≡ Ok c → Has p.0 c
    by None e m = absurd cc
    by (Some l) e m = kept_has p.0 (changed_in rows delete_part p s ss) (refusal_to_delete l.0 l.1) c m (λ free. delete_kept p s ss l is one e a free)

  pub whole_with : (path : List (List ℕ)) (p q : InSlot) (m : Value) → Of p.0 p.1 → in_one_block rows p path ≡ true → at rows p path ≡ Some q → Of q.0 m → Has p.0 p.1 → Has q.0 m → Has p.0 (with_part rows p path m)
  whole_with [] p q m is one there new a b = subst (λ (r : InSlot). Has r.0 m) (sym (same_Some p q there)) b
  whole_with (s ∷ ss) p q m is one there new a b =
      let l = last_there rows is_key (λ slot v. OfType rows slot v) (of_type_is_kept rows is_key schema keys) s ss p q there is in
      subst (Has p.0) (changed_with rows ss p q s m there) (set_kept p s ss l.0 is one l.1 a q.0 m l.3 l.4 new b)

-- ---- HAMTs

module _ (P : List ℕ → Type 0) (h : List ℕ → List ℕ) (rows : List Row) (s elem : Slot) (is : IsHamt rows s elem) where
  abbrev Hamt : Option TypeDef
  Hamt = Some (D.Map is.0 is.1 elem is.2 (MF.Hamt is.3))

  -- its own nodes and those of its values
  pub to_entries : (ps : Pairs) → AllByRecursion P (nodes h rows s (V.map ps)) → AllByRecursion P (hamt_nodes h (form_of rows s) (represented_pairs (whole h) rows elem ps)) × Each (EntryHas P h rows elem) (pairs_list ps)
  to_entries ps a =
      let x = all_split P (hamt_nodes h Hamt (represented_pairs (whole h) rows elem ps)) (nodes_of_pairs h rows elem ps) (subst (λ G. AllByRecursion P (of_map P h rows G ps)) is.4 a) in
      (subst (λ G. AllByRecursion P (hamt_nodes h G (represented_pairs (whole h) rows elem ps))) (sym is.4) x.0, pairs_each P h rows elem ps x.1)

  pub from_entries : (xs : List (List ℕ × Value)) → AllByRecursion P (hamt_nodes h (form_of rows s) (represented_pairs (whole h) rows elem (pairs_of xs))) → Each (EntryHas P h rows elem) xs
      → AllByRecursion P (nodes h rows s (V.map (pairs_of xs)))
  from_entries xs a b =
      subst (λ G. AllByRecursion P (of_map P h rows G (pairs_of xs))) (sym is.4)
      (all_append P (hamt_nodes h Hamt (represented_pairs (whole h) rows elem (pairs_of xs))) (nodes_of_pairs h rows elem (pairs_of xs))
      (subst (λ G. AllByRecursion P (hamt_nodes h G (represented_pairs (whole h) rows elem (pairs_of xs)))) is.4 a) (each_pairs P h rows elem xs b))

-- ---- the laws

pub all_itself : (xs : List (List ℕ)) → AllByRecursion (Contains xs) xs
all_itself xs = recursion_from_All (Contains xs) xs (All-contains_itself xs)

-- each of two lists is among both
both : (xs ys : List (List ℕ)) → AreAmong xs (xs ++ ys) × AreAmong ys (xs ++ ys)
both xs ys = all_split (Contains (xs ++ ys)) xs ys (all_itself (xs ++ ys))

pub nodes_of_parts : NodesOfParts
nodes_of_parts = λ h rows is_key schema keys p q path is there. at_has (Contains (nodes_in h rows p)) h rows is_key schema keys path p q is (all_itself (nodes_in h rows p)) there

pub nodes_of_wholes : NodesOfWholes
nodes_of_wholes = λ h rows is_key schema keys p q path m is one there new.
    let x = both (nodes_in h rows p) (nodes h rows q.0 m) in
    whole_with (Contains (nodes_in h rows p ++ nodes h rows q.0 m)) h rows is_key schema keys path p q m is one there new x.0 x.1

brings_own : (h : List ℕ → List ℕ) (rows : List Row) (p : InSlot) (e : Edit Value) (held : List (List ℕ)) → AreAmong (nodes_brought h rows (new_slot rows p e) e) held → Brings rows (N (Contains held) h rows) p e
brings_own h rows p (set_at path w) held a = λ u slot. subst (λ o. AreAmong (option_map_or (λ s. nodes h rows s w) o []) held) slot a
brings_own h rows p (ins_at path w) held a = λ u slot. subst (λ o. AreAmong (option_map_or (λ s. nodes h rows s w) o []) held) slot a
brings_own h rows p (del_at path) held a = tt

pub nodes_of_edits : NodesOfEdits
nodes_of_edits = λ h rows is_key schema keys p e c texts new is one made.
    let held = nodes_in h rows p ++ nodes_brought h rows (new_slot rows p e) e in
    let x = both (nodes_in h rows p) (nodes_brought h rows (new_slot rows p e) e) in
    edit_has (Contains held) h rows is_key schema keys p e c texts new is one x.0 (brings_own h rows p e held x.1) made

pub nodes_of_hamts : NodesOfHamts
nodes_of_hamts = λ h rows s elem ps k w is.
    let old = nodes h rows s (V.map ps) in
    let put_own = own_nodes h rows s elem (put k w (pairs_list ps)) in
    let all_put = put_own ++ (old ++ nodes h rows elem w) in
    let rest = both put_own (old ++ nodes h rows elem w) in
    let olds = all_split (Contains all_put) old (nodes h rows elem w) rest.1 in
    let gone_own = own_nodes h rows s elem (without k (pairs_list ps)) in
    let gone = both gone_own old in
    let mine : AreAmong old old = all_itself old in (
      from_entries (Contains all_put) h rows s elem is (put k w (pairs_list ps)) rest.0 (each_put (EntryHas (Contains all_put) h rows elem) k w (pairs_list ps) (to_entries (Contains all_put) h rows s elem is ps olds.0).1 olds.1),
      from_entries (Contains (gone_own ++ old)) h rows s elem is (without k (pairs_list ps)) gone.0 (each_without (EntryHas (Contains (gone_own ++ old)) h rows elem) k (pairs_list ps) (to_entries (Contains (gone_own ++ old)) h rows s elem is ps gone.1).1),
      subst (λ qs. AreAmong (hamt_nodes h (form_of rows s) (represented_pairs (whole h) rows elem qs)) old) (sym (pairs_back ps)) (to_entries (Contains old) h rows s elem is ps mine).0,
    )
