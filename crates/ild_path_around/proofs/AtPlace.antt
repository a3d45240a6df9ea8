-- At a place: what an edit there breaks, by how the path ends.
use Rattle.std.proofs.Common.{◌≡◌, ℕ, List, [], ◌∷◌, ◌++◌, append-nil, Bool, true, false, Option, Some, None, refl, sym, ◌∙◌, ap, subst}
use Rattle.std.specs.Borrow.{Bor}
use Rattle.std.specs.List.{AllByRecursion}
use Rattle.std.specs.Prelude.{IfOk, IsUtf8, Result, Ok, Err}
use Rattle.std.specs.declared.alloc.AllocError.{AllocError}
use Rattle.std.proofs.lemmas.Option.{none-some, same_Some}
use Rattle.ild_build.specs.TextRep.{text_rep}
use Rattle.ild_path_edits.proofs.KeepTyped.{ok_same}
use Rattle.ild_data.specs.Data.{Data, text}
use Rattle.ild_path_around.proofs.Behind.{EndsAtKey, IsMovable, at_hop, at_key, at_key_slot, coming_moves, going_moves, inner, key_free, slot_behind, through_hops}
use Rattle.ild_path_around.proofs.Slots.{slots_of_fronts}
use Rattle.ild_path_around.specs.Around.{TellsInBlock, text_edit_of}
use Rattle.ild_path_around.specs.Blocks.{BringsTextPart, IsTextPart}
use Rattle.ild_path_around.specs.Keys.{BringsSound}
use Rattle.ild_path_delimiter.specs.Laws.{OnlyTextsBreak}
use Rattle.ild_path_delimiter.specs.Tells.{TellsOfTextEdit}
use Rattle.ild_path_delimiter.specs.TextEdits.{TextIs, edit_of}
use Rattle.ild_path_delimiter.specs.declared.delimiter.TextEdit.{TextEdit}
use Rattle.ild_path_delimiter.specs.declared.delimiter.TextEdit.TheVariants as E
use Rattle.ild_path_edits.specs.Along.{IsFree}
use Rattle.ild_path_edits.specs.Edit.{Edit, HasTextPath, change, del_at, ins_at, new_slot, set_at}
use Rattle.ild_hamt.specs.declared.trail.Trail.{Trail}
use Rattle.ild_path_entry.specs.declared.entry.Entry.{Entry}
use Rattle.ild_path_hops.specs.Hops.{AreHops}
use Rattle.ild_path_hops.specs.declared.hop.Hop.{Hop}
use Rattle.ild_path_inward.proofs.Inwarding.{can_go_on}
use Rattle.ild_path_inward.specs.Inwards.{CanGoOn, through}
use Rattle.ild_path_judged.specs.Place.{bringing}
use Rattle.ild_path_place.specs.Parts.{end_in}
use Rattle.ild_path_place.specs.Places.{EndsAt, IsPlace}
use Rattle.ild_path_place.specs.Rooted.{IsRootedAt}
use Rattle.ild_path_place.specs.Tells.{root_at, slot_in}
use Rattle.ild_path_place.specs.declared.place.End.TheVariants as D
use Rattle.ild_path_place.specs.declared.place.Place.{Place}
use Rattle.ild_path_place.specs.declared.verb.Verb.{Verb}
use Rattle.ild_path_place.specs.declared.verb.Verb.TheVariants as V
use Rattle.ild_path_room.specs.Room.{Coming, by_insert, by_set}
use Rattle.ild_path_tells.specs.Facts.{verb_of}
use Rattle.ild_path_textless.specs.Textless.{TextlessBreakNothing}
use Rattle.ild_schema.specs.Clear.{IsSafe}
use Rattle.ild_schema.specs.Value.{Value}
use Rattle.ild_schema.specs.declared.number.Slot.{Slot}
use Rattle.ild_schema.specs.declared.row.Row.{Row}
use Rattle.ild_script.specs.declared.reply.No.{No}
use Rattle.ild_script.specs.declared.reply.No.TheVariants as N
use Rattle.ild_typed.proofs.Entries.{only_text_data}
use Rattle.ild_typed.specs.At.{InSlot}
use Rattle.ild_typed.specs.Hamt.{alone}
use Rattle.ild_typed.specs.Judged.{breaks, breaks_delimiter}
use Rattle.ild_typed.specs.OfType.{OfType, TestsKeys}
use Rattle.ild_typed.specs.Represented.{represented}
use Rattle.ild_typed.specs.Strings.{text_in}
use Rattle.ild_typed_fronts.specs.Front.{front, front_in, in_one_block}
use Rattle.ild_view.specs.Parts.{IsPartView}
use Rattle.ild_view.specs.View.{IsView, table_of}
use Rattle.ild_view.specs.declared.view.View.{View}
use Rattle.ild_typed.proofs.Basics.{then_from}

-- ---- at the view of a block

abbrev Told : View → List (List ℕ) → TextEdit → Result Bool AllocError → List Row → Slot → Type 0
Told view path edit result rows slot =
    (is_key : ℕ → List ℕ → Bool) (f c w : Value) → TestsKeys rows is_key → IsView view f → IsFree (breaks rows) rows slot f → TextIs rows (slot, f) path edit w → change rows is_key (slot, f) (edit_of edit w path) ≡ Ok c
    → IfOk result (λ b. b ≡ breaks_delimiter rows slot c)

pub told_at : (rows : List Row) (q : InSlot) (view : View) (path : List (List ℕ)) (edit : TextEdit) (result : Result Bool AllocError) → IsPartView rows q view → TellsOfTextEdit view path edit result → (is_key : ℕ → List ℕ → Bool) (w m : Value) → TestsKeys rows is_key
    → IsFree (breaks rows) rows q.0 q.1 → TextIs rows q path edit w → change rows is_key q (edit_of edit w path) ≡ Ok m → IfOk result (λ b. b ≡ breaks_delimiter rows q.0 m)
told_at rows q view path edit result is told is_key w m keys free it made =
    let own : Told view path edit result (table_of view) q.0 = subst (Told view path edit result (table_of view)) is.slot told in
    subst (λ (r : List Row). Told view path edit result r q.0) is.table own is_key q.1 m w keys is.view free it made

-- ---- texts

-- what a text comes as
abbrev pub coming_text : Coming → Bor (List ℕ) → TextEdit
coming_text by_set t = E.Set t
coming_text by_insert t = E.Insert t

coming_edit : (how : Coming) (t : Bor (List ℕ)) (w : Value) (path : List (List ℕ)) → edit_of (coming_text how t) w path ≡ bringing how path w
coming_edit by_set t w path = refl
coming_edit by_insert t w path = refl

pub record HasText (how : Coming) (o : Option (Bor (List ℕ))) (edit : TextEdit) : Type 0 where
  pub text : Bor (List ℕ)
  pub there : o ≡ Some text
  pub is : edit ≡ coming_text how text

pub has_text : (how : Coming) (o : Option (Bor (List ℕ))) (edit : TextEdit) → text_edit_of (verb_of how) o ≡ Some edit → HasText how o edit
has_text by_set None edit e = absurd (none-some edit e)
has_text by_set (Some t) edit e = record { text = t; there = refl; is = sym (same_Some (E.Set t) edit e) }
has_text by_insert None edit e = absurd (none-some edit e)
has_text by_insert (Some t) edit e = record { text = t; there = refl; is = sym (same_Some (E.Insert t) edit e) }

pub has_none : (how : Coming) (o : Option (Bor (List ℕ))) → text_edit_of (verb_of how) o ≡ None → o ≡ None
has_none by_set None e = refl
has_none by_set (Some t) e = absurd (none-some (E.Set t) (sym e))
has_none by_insert None e = refl
has_none by_insert (Some t) e = absurd (none-some (E.Insert t) (sym e))

text_part : (rows : List Row) (slot : Slot) (w : Value) (t : List ℕ) → IsSafe rows slot → OfType rows slot w → Some t ≡ text_rep rows slot w → (x : IsTextPart rows slot w) × (x.text_is ≡ t)
text_part rows slot w t safe fits e =
    let x = then_from text_in (represented alone rows slot w) t (sym e) in
    (record { safe = safe; fits = fits; text_is = t; shown = x.there ∙ ap Some (only_text_data x.item t x.made) }, refl)

brings_text : (rows : List Row) (q : InSlot) (path : List (List ℕ)) (how : Coming) (w : Value) → ((u : Slot) → new_slot rows q (bringing how path w) ≡ Some u → IsTextPart rows u w) → BringsTextPart rows q (bringing how path w)
brings_text rows q path by_set w all = all
brings_text rows q path by_insert w all = all

text_is : (rows : List Row) (q : InSlot) (path : List (List ℕ)) (how : Coming) (t : Bor (List ℕ)) (w : Value)
    → ((u : Slot) → new_slot rows q (bringing how path w) ≡ Some u → OfType rows u w × (represented alone rows u w ≡ Some (text t.now))) → TextIs rows q path (coming_text how t) w
text_is rows q path by_set t w all = all
text_is rows q path by_insert t w all = all

text_path : (how : Coming) (path : List (List ℕ)) (w : Value) → AllByRecursion IsUtf8 path → HasTextPath (bringing how path w)
text_path by_set path w all = all
text_path by_insert path w all = all

brings_sound : (rows : List Row) (slot : Slot) (path : List (List ℕ)) (how : Coming) (w : Value) → OfType rows slot w → breaks_delimiter rows slot w ≡ false → BringsSound rows slot (bringing how path w)
brings_sound rows slot path by_set w fits free = (fits, free)
brings_sound rows slot path by_insert w fits free = (fits, free)

texts_behind : (front rest : List (List ℕ)) → AllByRecursion IsUtf8 (front ++ rest) → AllByRecursion IsUtf8 rest
texts_behind [] rest all = all
texts_behind (s ∷ front) rest all = texts_behind front rest all.1

same_told : (r : Result Bool AllocError) (x y : Bool) → x ≡ y → IfOk r (λ b. b ≡ x) → IfOk r (λ b. b ≡ y)
same_told r x y e = subst (λ (z : Bool). IfOk r (λ b. b ≡ z)) e

-- ---- slots

set_slot : (rows : List Row) (p : InSlot) (path : List (List ℕ)) (w : Value) → new_slot rows p (set_at path w) ≡ new_slot rows p (set_at path (tt {0}))
set_slot rows p [] w = refl
set_slot rows p (s ∷ ss) w = refl

ins_slot : (rows : List Row) (p : InSlot) (path : List (List ℕ)) (w : Value) → new_slot rows p (ins_at path w) ≡ new_slot rows p (ins_at path (tt {0}))
ins_slot rows p [] w = refl
ins_slot rows p (s ∷ ss) w = refl

module _ (h : List ℕ → List ℕ) (rows : List Row) (was : List (List ℕ)) (p : InSlot) (path : List (List ℕ)) (place : Place) where
  comes_as : (how : Coming) → IsPlace h rows was p path (verb_of how) place → (w : Value) → new_slot rows p (bringing how path w) ≡ Some (slot_in place)
  comes_as by_set is w = set_slot rows p path w ∙ is.slot_is
  comes_as by_insert is w = ins_slot rows p path w ∙ is.slot_is

  -- ---- a part comes

  module _ (only : OnlyTextsBreak) (is_key : ℕ → List ℕ → Bool) (rooted : IsRootedAt h rows was p place) (keys : TestsKeys rows is_key) where
    abbrev Key : List (List ℕ) → Type 0
    Key xs = EndsAtKey only h rows was is_key rooted.goes.schema keys p xs

    typed : OfType rows p.0 p.1
    typed = (96, rooted.goes.held.fits)

    module _ (how : Coming) (is : IsPlace h rows was p path (verb_of how) place) (w c : Value) (fits : OfType rows (slot_in place) w) (free : breaks_delimiter rows (slot_in place) w ≡ false) (made : change rows is_key p (bringing how path w) ≡ Ok c) where
      came_at_key : Key path → breaks_delimiter rows p.0 c ≡ false
      came_at_key x =
          let e : slot_in place ≡ x.elem = sym (at_key_slot only h rows was is_key rooted.goes.schema keys how p path x w (slot_in place) (comes_as how is w)) in
          let sound : OfType rows x.elem w × (breaks_delimiter rows x.elem w ≡ false) = subst (λ (u : Slot). OfType rows u w × (breaks_delimiter rows u w ≡ false)) e (fits, free) in
          key_free only h rows was is_key rooted.goes.schema keys (λ xs. bringing how xs w) (coming_moves how w) p rooted.tree path typed rooted.goes.held.tree x (brings_sound rows x.elem (x.key ∷ []) how w sound.0 sound.1) c made

      came_whole : path ≡ [] → breaks_delimiter rows p.0 c ≡ false
      came_whole none = by how (subst (λ xs. new_slot rows p (bringing how xs w) ≡ Some (slot_in place)) none (comes_as how is w)) (subst (λ xs. change rows is_key p (bringing how xs w) ≡ Ok c) none made) where
        by : (how : Coming) → new_slot rows p (bringing how [] w) ≡ Some (slot_in place) → change rows is_key p (bringing how [] w) ≡ Ok c → breaks_delimiter rows p.0 c ≡ false
        by by_set slot done = subst (λ v. breaks_delimiter rows p.0 v ≡ false) (ok_same w c done) (subst (λ (u : Slot). breaks_delimiter rows u w ≡ false) (sym (same_Some p.0 (slot_in place) slot)) free)
        by by_insert slot done = absurd cc

    -- ---- how the path ends

    module _ (verb : Verb) (is : IsPlace h rows was p path verb place) where
      abbrev Hops : List Hop
      Hops = place.hops.items

      by_hops : {R : Type 0} (gs : List Hop) (q : InSlot) (less : ℕ) → AreHops h rows was 96 p gs q less → path ≡ through gs → (Key path → R) → (path ≡ [] → R) → R
      by_hops [] q less are e key top = top e
      by_hops (g ∷ gs) q less are e key top = key (subst Key (sym e) (at_hop only h rows was is_key rooted.goes.schema keys g gs 96 less p q are))

      -- with the whole, which stands behind a key where there are hops
      ends_whole : {R : Type 0} → end_in place ≡ D.Whole → (Key path → R) → (path ≡ [] → R) → R
      ends_whole e = let none = subst (EndsAt h rows was is.less is.inner is.rest) e is.ends in by_hops Hops is.inner is.less is.hops_are (is.split ∙ ap (λ xs. through Hops ++ xs) none ∙ append-nil (through Hops))

      ends_at_key : (xs : List (List ℕ)) (trail : Trail) (entry : Option Entry) → end_in place ≡ D.AtKey xs trail entry → Key path
      ends_at_key xs trail entry e =
          let x = subst (EndsAt h rows was is.less is.inner is.rest) e is.ends in
          at_key only h rows was is_key rooted.goes.schema keys Hops 96 is.less p is.inner is.hops_are xs (x.0).slot (x.0).elem (x.0).ps (x.0).entered trail.key (x.0).utf8 path (is.split ∙ ap (λ xs. through Hops ++ xs) x.1)

      -- in the innermost block
      record InBlock (xs : List (List ℕ)) : Type 0 where
        first : List ℕ
        rest : List (List ℕ)
        path_is : xs ≡ first ∷ rest
        one : in_one_block rows is.inner (first ∷ rest) ≡ true
        split : path ≡ through Hops ++ (first ∷ rest)

      in_block : (xs : List (List ℕ)) → EndsAt h rows was is.less is.inner is.rest (D.InBlock xs) → InBlock xs
      in_block xs (same, one, (s, ss, e)) = record { first = s; rest = ss; path_is = same ∙ e; one = ap (in_one_block rows is.inner) (sym e) ∙ one; split = is.split ∙ ap (λ ys. through Hops ++ ys) e }

      ends_inside : (xs : List (List ℕ)) → end_in place ≡ D.InBlock xs → InBlock xs
      ends_inside xs e = in_block xs (subst (EndsAt h rows was is.less is.inner is.rest) e is.ends)

      on : (d : Data) × CanGoOn h rows was is.less is.inner d (root_at place) place.hops.items
      on = can_go_on h rows was place.hops.items 96 p is.inner is.less rooted.tree (root_at place) rooted.goes is.hops_are

      inner_typed : OfType rows is.inner.0 is.inner.1
      inner_typed = (is.less, on.1.held.fits)

      block_told : (e : List (List ℕ) → Edit Value) → IsMovable e → (xs : List (List ℕ)) (x : InBlock xs) (edit : TextEdit) (w c : Value) → edit_of edit w (x.first ∷ x.rest) ≡ e (x.first ∷ x.rest) → HasTextPath (e (x.first ∷ x.rest))
          → BringsTextPart rows is.inner (e (x.first ∷ x.rest)) → TextIs rows (front_in h rows is.inner) (x.first ∷ x.rest) edit w → change rows is_key p (e path) ≡ Ok c → (result : Result Bool AllocError) → TellsInBlock place xs edit result
          → IfOk result (λ b. b ≡ breaks_delimiter rows p.0 c)
      block_told e m xs x edit w c same texts brings it made result told =
          let done = ap (change rows is_key p) (ap e (sym x.split)) ∙ made in
          let y = inner only h rows was is_key rooted.goes.schema keys e m place.hops.items 96 is.less p is.inner is.hops_are rooted.tree typed rooted.goes.held.tree x.first x.rest x.one texts brings c done in
          let own : TellsInBlock place (x.first ∷ x.rest) edit result = subst (λ ys. TellsInBlock place ys edit result) x.path_is told in
          let at_front = ap (change rows is_key (front_in h rows is.inner)) same ∙ y.edit.made in
          same_told result (breaks_delimiter rows is.inner.0 (front h rows is.inner.0 y.made)) (breaks_delimiter rows p.0 c) (y.edit.alike ∙ y.alike)
          (own h rows was is.less is.inner on.0 w (front h rows is.inner.0 y.made) is_key on.1 keys y.edit.sound it at_front)

    -- ---- what is told

    module _ (how : Coming) (is : IsPlace h rows was p path (verb_of how) place) (w c : Value) (safe : IsSafe rows (slot_in place)) (utf8 : AllByRecursion IsUtf8 path) (fits : OfType rows (slot_in place) w)
        (free : breaks_delimiter rows (slot_in place) w ≡ false) (made : change rows is_key p (bringing how path w) ≡ Ok c) where
      pub came_whole_told : end_in place ≡ D.Whole → breaks_delimiter rows p.0 c ≡ false
      came_whole_told e = ends_whole (verb_of how) is e (came_at_key how is w c fits free made) (came_whole how is w c fits free made)

      pub came_key_told : (xs : List (List ℕ)) (trail : Trail) (entry : Option Entry) → end_in place ≡ D.AtKey xs trail entry → breaks_delimiter rows p.0 c ≡ false
      came_key_told xs trail entry e = came_at_key how is w c fits free made (ends_at_key (verb_of how) is xs trail entry e)

      pub came_textless_told : TextlessBreakNothing → text_rep rows (slot_in place) w ≡ None → breaks_delimiter rows p.0 c ≡ false
      came_textless_told law none =
          law h rows is_key rooted.goes.schema keys 96 p (record { fits = rooted.goes.held.fits; tree = rooted.tree; represents = rooted.goes.held.tree }) how path (slot_in place) w c utf8 (comes_as how is w) fits free none made

      pub came_inside_told : (t : Bor (List ℕ)) → Some t.now ≡ text_rep rows (slot_in place) w → (xs : List (List ℕ)) → end_in place ≡ D.InBlock xs → (result : Result Bool AllocError) → TellsInBlock place xs (coming_text how t) result
          → IfOk result (λ b. b ≡ breaks_delimiter rows p.0 c)
      came_inside_told t shown xs e result told =
          let x = ends_inside (verb_of how) is xs e in
          let f : List (List ℕ) → Edit Value = λ ys. bringing how ys w in
          let m = coming_moves how w in
          let there = through_hops only h rows was is_key rooted.goes.schema keys place.hops.items 96 is.less p is.inner is.hops_are in
          let here = sym (slot_behind rows f m p is.inner (through place.hops.items) x.first x.rest there) ∙ ap (λ ys. new_slot rows p (f ys)) (sym x.split) ∙ comes_as how is w in
          let at_front = slots_of_fronts h rows is_key rooted.goes.schema keys is.inner (f (x.first ∷ x.rest)) x.first x.rest (inner_typed (verb_of how) is) x.one (m.path (x.first ∷ x.rest)) in
          let k = text_part rows (slot_in place) w t.now safe fits shown in
          let own : OfType rows (slot_in place) w × (represented alone rows (slot_in place) w ≡ Some (text t.now)) = ((k.0).fits, (k.0).shown ∙ ap (λ j. Some (text j)) k.1) in
          let texts = texts_behind (through place.hops.items) (x.first ∷ x.rest) (subst (AllByRecursion IsUtf8) x.split utf8) in
          block_told (verb_of how) is f m xs x (coming_text how t) w c (coming_edit how t w (x.first ∷ x.rest)) (text_path how (x.first ∷ x.rest) w texts)
          (brings_text rows is.inner (x.first ∷ x.rest) how w (λ u new. subst (λ (u : Slot). IsTextPart rows u w) (same_Some (slot_in place) u (sym here ∙ new)) k.0))
          (text_is rows (front_in h rows is.inner) (x.first ∷ x.rest) how t w
          (λ u new. subst (λ (u : Slot). OfType rows u w × (represented alone rows u w ≡ Some (text t.now))) (same_Some (slot_in place) u (sym here ∙ sym at_front ∙ new)) own))
          made result told

    -- what is there goes
    module _ (is : IsPlace h rows was p path V.Del place) (c : Value) (utf8 : AllByRecursion IsUtf8 path) (made : change rows is_key p (del_at path) ≡ Ok c) where
      gone_at_key : Key path → breaks_delimiter rows p.0 c ≡ false
      gone_at_key x = key_free only h rows was is_key rooted.goes.schema keys (λ xs. del_at xs) going_moves p rooted.tree path typed rooted.goes.held.tree x tt c made

      pub gone_whole_told : end_in place ≡ D.Whole → breaks_delimiter rows p.0 c ≡ false
      gone_whole_told e = ends_whole V.Del is e gone_at_key (λ none. let wrong : ◌≡◌ {A = Result Value No} (Err N.Mismatch) (Ok c) = ap (λ xs. change rows is_key p (del_at xs)) (sym none) ∙ made in absurd cc)

      pub gone_key_told : (xs : List (List ℕ)) (trail : Trail) (entry : Option Entry) → end_in place ≡ D.AtKey xs trail entry → breaks_delimiter rows p.0 c ≡ false
      gone_key_told xs trail entry e = gone_at_key (ends_at_key V.Del is xs trail entry e)

      pub gone_inside_told : (xs : List (List ℕ)) → end_in place ≡ D.InBlock xs → (result : Result Bool AllocError) → TellsInBlock place xs E.Delete result → IfOk result (λ b. b ≡ breaks_delimiter rows p.0 c)
      gone_inside_told xs e result told =
          let x = ends_inside V.Del is xs e in
          let texts = texts_behind (through place.hops.items) (x.first ∷ x.rest) (subst (AllByRecursion IsUtf8) x.split utf8) in
          block_told V.Del is (λ ys. del_at ys) going_moves xs x E.Delete p.1 c refl texts tt tt made result told
