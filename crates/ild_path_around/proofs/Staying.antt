-- No HAMT comes to break a delimiter inside by an edit in one block that brings none that does.
use Rattle.std.proofs.Common.{◌≡◌, ℕ, List, [], ◌∷◌, Bool, true, false, Option, Some, None, refl, sym, ◌∙◌, ap, subst}
use Rattle.std.specs.List.{AllByRecursion}
use Rattle.std.specs.Prelude.{IsUtf8, Ok, option_and_then}
use Rattle.std.proofs.lemmas.Option.{same_Some}
use Rattle.ild_path_delimiter.proofs.Freeing.{deleted, insert_free, set_free}
use Rattle.ild_path_edits.proofs.KeepTyped.{of_type_is_kept, ok_same}
use Rattle.ild_path_edits.proofs.LayerTesting.{free_is_layered, judged_along}
use Rattle.ild_path_edits.proofs.Paths.{deleted_typed, inserted_typed, last_text, may_stand, set_typed}
use Rattle.ild_path_edits.specs.Along.{AtPart, IsFree, IsFreeAlong, LayerPasses}
use Rattle.ild_path_edits.specs.Edit.{Edit, HasTextPath, change, del_at, del_in, ins_at, ins_in, path_of, placed, set_at, set_in, unless_kept}
use Rattle.ild_path_edits.specs.EditLaws.{Brings}
use Rattle.ild_path_edits.specs.Table.{MayStand, delete_part, insert_part, key_fits, refusal_to_delete, slot_to_insert, slot_to_set}
use Rattle.ild_path_around.proofs.Alike.{alike, inside}
use Rattle.ild_path_around.specs.Alike.{breaks_inside}
use Rattle.ild_path_around.specs.Blocks.{BlocksBreakAlike}
use Rattle.ild_schema.specs.Slots.{form_of}
use Rattle.ild_schema.specs.Value as V
use Rattle.ild_schema.specs.Value.{Value}
use Rattle.ild_schema.specs.declared.def.MapForm.TheVariants as MF
use Rattle.ild_schema.specs.declared.def.TypeDef.{TypeDef}
use Rattle.ild_schema.specs.declared.def.TypeDef.TheVariants as D
use Rattle.ild_schema.specs.declared.number.Slot.{Slot}
use Rattle.ild_schema.specs.declared.row.Row.{Row}
use Rattle.ild_script.specs.declared.reply.No.{No}
use Rattle.ild_typed.specs.At.{InSlot, changed_in, last_holder, seen}
use Rattle.ild_typed.specs.Holder.{Holder, any_elements, any_entries, elements, entries, fields, member, nothing, value_of}
use Rattle.ild_typed.specs.Judged.{breaks_delimiter}
use Rattle.ild_typed.specs.OfType.{OfType, TestsKeys}
use Rattle.ild_typed.specs.Schema.{IsSchema}
use Rattle.ild_typed.specs.Segment.{part, set_part}
use Rattle.ild_typed_fronts.proofs.Pathing.{delete_root, first_plain, insert_root, plain_held, rest_plain, set_root}
use Rattle.ild_typed_fronts.specs.Front.{in_one_block, is_root, stands_as_root}

module _ (rows : List Row) where
  abbrev Inside : Option TypeDef → Value → Bool
  Inside = breaks_inside rows

  plain_free : (F : Option TypeDef) (v : Value) → stands_as_root F v ≡ false → breaks_inside rows F v ≡ false
  plain_free None v e = refl
  plain_free (Some (D.Map k k_at elem at (MF.Hamt p))) (V.map ps) e = let wrong : true ≡ false = e in absurd cc
  plain_free (Some (D.Map k k_at elem at (MF.Hamt p))) v e = refl
  plain_free (Some (D.Map k k_at elem at MF.Map)) v e = refl
  plain_free (Some (D.Map k k_at elem at MF.ListPairs)) v e = refl
  plain_free (Some (D.Map k k_at elem at (MF.StringPairs i j))) v e = refl
  plain_free (Some d) v e = refl

  passes_plain : (slot : Slot) (k : Holder) → stands_as_root (form_of rows slot) (value_of k) ≡ false → LayerPasses Inside rows slot k
  passes_plain slot (fields fs os) e = plain_free (form_of rows slot) (value_of (fields fs os)) e
  passes_plain slot (member ms n v) e = plain_free (form_of rows slot) (value_of (member ms n v)) e
  passes_plain slot (entries key elem paired ps) e = plain_free (form_of rows slot) (value_of (entries key elem paired ps)) e
  passes_plain slot (elements elem vs) e = plain_free (form_of rows slot) (value_of (elements elem vs)) e
  passes_plain slot (any_entries ms) e = tt
  passes_plain slot (any_elements ds) e = tt
  passes_plain slot (nothing v) e = tt

module _ (h : List ℕ → List ℕ) (rows : List Row) (is_key : ℕ → List ℕ → Bool) (schema : IsSchema rows) (keys : TestsKeys rows is_key) where
  abbrev Of : InSlot → Type 0
  Of p = OfType rows p.0 p.1

  abbrev Free : Slot → Value → Type 0
  Free slot v = IsFree (breaks_inside rows) rows slot v

  module _ (f : Holder → List ℕ → Holder) (l : Holder × List ℕ) (typed : (q : InSlot) → Of q → seen rows q ≡ l.0 → OfType rows q.0 (value_of (f l.0 l.1)))
      (keeps : (q : InSlot) → Of q → is_root rows q ≡ false → seen rows q ≡ l.0 → Free q.0 q.1 → Free q.0 (value_of (f l.0 l.1))) where
    first_free : (p : InSlot) (s t : List ℕ) (ts : List (List ℕ)) → is_root rows p ≡ false → (o : Option InSlot) → option_and_then (λ q. last_holder rows q t ts) o ≡ Some l
        → ((q : InSlot) → part (seen rows p) s ≡ Some q → last_holder rows q t ts ≡ Some l → IsFreeAlong (breaks_inside rows) rows f q t ts) → part (seen rows p) s ≡ o
        → AtPart o (λ q. LayerPasses (breaks_inside rows) rows p.0 (set_part (seen rows p) s (changed_in rows f q t ts)) × IsFreeAlong (breaks_inside rows) rows f q t ts)
    first_free p s t ts plain None last rest e = tt
    first_free p s t ts plain (Some q) last rest e = (
      passes_plain rows p.0 (set_part (seen rows p) s (changed_in rows f q t ts)) (set_root (form_of rows p.0) (seen rows p) s (changed_in rows f q t ts) (plain_held h rows is_key schema keys p plain)),
      rest q e last,
    )

    pub free_along : (ss : List (List ℕ)) (p : InSlot) (s : List ℕ) → Of p → in_one_block rows p (s ∷ ss) ≡ true → last_holder rows p s ss ≡ Some l → Free p.0 p.1 → IsFreeAlong (breaks_inside rows) rows f p s ss
    free_along [] p s is one last free =
        let e : (seen rows p, s) ≡ l = same_Some (seen rows p, s) l last in
        subst (λ (m : Holder × List ℕ). Free p.0 (value_of (f m.0 m.1))) (sym e) (keeps p is (first_plain h rows is_key schema keys p s [] one) (λ i. (e i).0) free)
    free_along (t ∷ ts) p s is one last free =
        first_free p s t ts (first_plain h rows is_key schema keys p s (t ∷ ts) one) (part (seen rows p) s) last
        (λ q e last. free_along ts q t ((of_type_is_kept rows is_key schema keys).parts p q s is e) (rest_plain h rows is_key schema keys p q s (t ∷ ts) one e) last
        ((free_is_layered rows is_key (breaks_inside rows) schema keys).parts tt p q s is free e)) refl

    pub free_changed : (p : InSlot) (s : List ℕ) (ss : List (List ℕ)) → Of p → in_one_block rows p (s ∷ ss) ≡ true → last_holder rows p s ss ≡ Some l → Free p.0 p.1 → Free p.0 (changed_in rows f p s ss)
    free_changed p s ss is one last free = (judged_along rows is_key (breaks_inside rows) schema keys f l typed p s ss is free last).1 (free_along ss p s is one last free)

  module _ (p : InSlot) (s : List ℕ) (ss : List (List ℕ)) (l : Holder × List ℕ) (is : Of p) (one : in_one_block rows p (s ∷ ss) ≡ true) (last : last_holder rows p s ss ≡ Some l) (free : Free p.0 p.1) where
    set_kept : (u : Slot) (w : Value) → slot_to_set l.0 l.1 ≡ Some u → MayStand is_key l.0 l.1 → OfType rows u w → Free u w → Free p.0 (changed_in rows (λ k t. set_part k t w) p s ss)
    set_kept u w slot stands new b =
        free_changed (λ k t. set_part k t w) l (set_typed rows is_key (λ slot v. OfType rows slot v) (of_type_is_kept rows is_key schema keys) l u w slot stands new)
        (λ q qis plain e c. subst (λ k. Free q.0 (value_of (set_part k l.1 w))) e
        (set_free (breaks_inside rows) rows is_key schema keys q l.1 u w qis c (ap (λ k. slot_to_set k l.1) e ∙ slot) (subst (λ k. MayStand is_key k l.1) (sym e) stands) new b
        (passes_plain rows q.0 (set_part (seen rows q) l.1 w) (set_root (form_of rows q.0) (seen rows q) l.1 w (plain_held h rows is_key schema keys q plain)))))
        p s ss is one last free

    insert_kept : (u : Slot) (w : Value) → slot_to_insert l.0 l.1 ≡ Some u → MayStand is_key l.0 l.1 → OfType rows u w → Free u w → Free p.0 (changed_in rows (λ k t. insert_part k t w) p s ss)
    insert_kept u w slot stands new b =
        free_changed (λ k t. insert_part k t w) l (inserted_typed rows is_key (λ slot v. OfType rows slot v) (of_type_is_kept rows is_key schema keys) l u w slot stands new)
        (λ q qis plain e c. subst (λ k. Free q.0 (value_of (insert_part k l.1 w))) e
        (insert_free (breaks_inside rows) rows is_key schema keys q l.1 u w qis c (ap (λ k. slot_to_insert k l.1) e ∙ slot) (subst (λ k. MayStand is_key k l.1) (sym e) stands) new b
        (passes_plain rows q.0 (insert_part (seen rows q) l.1 w) (insert_root (form_of rows q.0) (seen rows q) l.1 w (plain_held h rows is_key schema keys q plain)))))
        p s ss is one last free

    delete_kept : refusal_to_delete l.0 l.1 ≡ None → Free p.0 (changed_in rows delete_part p s ss)
    delete_kept may =
        free_changed delete_part l (deleted_typed rows is_key (λ slot v. OfType rows slot v) (of_type_is_kept rows is_key schema keys) l may)
        (λ q qis plain e c. subst (λ k. Free q.0 (value_of (delete_part k l.1))) e
        (deleted (breaks_inside rows) rows q.0 q.1 l.1 c (passes_plain rows q.0 (delete_part (seen rows q) l.1) (delete_root (form_of rows q.0) (seen rows q) l.1 (plain_held h rows is_key schema keys q plain)))))
        p s ss is one last free

    stands_there : AllByRecursion IsUtf8 (s ∷ ss) → key_fits is_key l.0 l.1 ≡ true → MayStand is_key l.0 l.1
    stands_there texts fits = may_stand is_key l.0 l.1 (last_text rows is_key (λ slot v. OfType rows slot v) (of_type_is_kept rows is_key schema keys) p s ss l texts last) fits

  placed_free : (slot : Slot) (fits : Bool) (d : Value) (o : Option Slot) (c : Value) → placed fits d o ≡ Ok c → ((u : Slot) → o ≡ Some u → fits ≡ true → Free slot d) → Free slot c
  placed_free slot fits d None c e rest = absurd cc
  placed_free slot true d (Some u) c e rest = subst (Free slot) (ok_same d c e) (rest u refl refl)
  placed_free slot false d (Some u) c e rest = absurd cc

  kept_free : (slot : Slot) (d : Value) (o : Option No) (c : Value) → unless_kept d o ≡ Ok c → (o ≡ None → Free slot d) → Free slot c
  kept_free slot d None c e rest = subst (Free slot) (ok_same d c e) (rest refl)
  kept_free slot d (Some refusal) c e rest = absurd cc

  slot_by : {X : Type 0} (g : X → Option Slot) (o : Option X) (l : X) (u : Slot) → o ≡ Some l → g l ≡ Some u → option_and_then g o ≡ Some u
  slot_by g o l u e f = ap (option_and_then g) e ∙ f

  stays : (p : InSlot) (s : List ℕ) (ss : List (List ℕ)) (e : Edit Value) (c : Value) → path_of e ≡ s ∷ ss → HasTextPath e → Brings rows (OfType rows) p e → Brings rows (λ slot w. breaks_delimiter rows slot w ≡ false) p e
      → Of p → Free p.0 p.1 → in_one_block rows p (s ∷ ss) ≡ true → change rows is_key p e ≡ Ok c → Free p.0 c
  stays p s ss (set_at [] w) c path texts new sound is free one made = absurd cc
  stays p s ss (set_at (t ∷ ts) w) c path texts new sound is free one made = by (last_holder rows p t ts) refl made where
    one_so : in_one_block rows p (t ∷ ts) ≡ true
    one_so = subst (λ path. in_one_block rows p path ≡ true) (sym path) one

    by : (o : Option (Holder × List ℕ)) → last_holder rows p t ts ≡ o → set_in is_key (changed_in rows (λ k t. set_part k t w) p t ts) o ≡ Ok c → Free p.0 c
    by None e m = absurd cc
    by (Some l) e m =
        placed_free p.0 (key_fits is_key l.0 l.1) (changed_in rows (λ k t. set_part k t w) p t ts) (slot_to_set l.0 l.1) c m
        (λ u slot fits.
        let there = slot_by (λ (l : Holder × List ℕ). slot_to_set l.0 l.1) (last_holder rows p t ts) l u e slot in
        set_kept p t ts l is one_so e free u w slot (stands_there p t ts l is one_so e free texts fits) (new u there) (inside rows w u (sound u there)))
  stays p s ss (ins_at [] w) c path texts new sound is free one made = absurd cc
  stays p s ss (ins_at (t ∷ ts) w) c path texts new sound is free one made = by (last_holder rows p t ts) refl made where
    one_so : in_one_block rows p (t ∷ ts) ≡ true
    one_so = subst (λ path. in_one_block rows p path ≡ true) (sym path) one

    by : (o : Option (Holder × List ℕ)) → last_holder rows p t ts ≡ o → ins_in is_key (changed_in rows (λ k t. insert_part k t w) p t ts) o ≡ Ok c → Free p.0 c
    by None e m = absurd cc
    by (Some l) e m =
        placed_free p.0 (key_fits is_key l.0 l.1) (changed_in rows (λ k t. insert_part k t w) p t ts) (slot_to_insert l.0 l.1) c m
        (λ u slot fits.
        let there = slot_by (λ (l : Holder × List ℕ). slot_to_insert l.0 l.1) (last_holder rows p t ts) l u e slot in
        insert_kept p t ts l is one_so e free u w slot (stands_there p t ts l is one_so e free texts fits) (new u there) (inside rows w u (sound u there)))
  stays p s ss (del_at []) c path texts new sound is free one made = absurd cc
  stays p s ss (del_at (t ∷ ts)) c path texts new sound is free one made = by (last_holder rows p t ts) refl made where
    one_so : in_one_block rows p (t ∷ ts) ≡ true
    one_so = subst (λ path. in_one_block rows p path ≡ true) (sym path) one

    by : (o : Option (Holder × List ℕ)) → last_holder rows p t ts ≡ o → del_in (changed_in rows delete_part p t ts) o ≡ Ok c → Free p.0 c
    by None e m = absurd cc
    by (Some l) e m = kept_free p.0 (changed_in rows delete_part p t ts) (refusal_to_delete l.0 l.1) c m (λ may. delete_kept p t ts l is one_so e free may)

pub blocks_break_alike : BlocksBreakAlike
blocks_break_alike h rows is_key schema keys p s ss e c path texts new sound is free one made =
    alike h rows c p.0 (stays h rows is_key schema keys p s ss e c path texts new sound is (inside rows p.1 p.0 free) one made)
