-- Laws of paths, by induction on the segments: each step is one law of holders.
use Rattle.std.proofs.Common.{◌≡◌, ◌≢◌, ◌⊎◌, inl, inr, ℕ, List, [], ◌∷◌, Bool, true, false, Option, Some, None, refl, ap, sym, subst, ◌∙◌}
use Rattle.std.specs.List.{AllByRecursion}
use Rattle.std.specs.Prelude.{IsUtf8, option_and_then, Result, Ok}
use Rattle.std.specs.Option.{option_map_or}
use Rattle.std.proofs.lemmas.Option.{same_Some, none-some}
use Rattle.ild_schema.specs.declared.number.Slot.{Slot}
use Rattle.ild_schema.specs.declared.row.Row.{Row}
use Rattle.ild_schema.specs.Prelude.{anything}
use Rattle.ild_schema.specs.Value.{Value}
use Rattle.ild_script.specs.declared.reply.No.{No}
use Rattle.ild_typed.specs.Holder.{Holder, fields, member, entries, elements, any_entries, any_elements, nothing, value_of, of_any, data_in}
use Rattle.ild_typed.specs.Segment.{part, set_part}
use Rattle.ild_path_edits.specs.Table.{MayStand, slot_to_set, slot_to_insert, key_fits, insert_part, refusal_to_delete, delete_part}
use Rattle.ild_typed.specs.At.{InSlot, seen, at, last_holder, changed_in, Apart}
use Rattle.ild_path_edits.specs.Edit.{Edit, set_at, ins_at, del_at, HasTextPath, placed, set_in, ins_in, unless_kept, del_in, change}
use Rattle.ild_path_edits.specs.EditLaws.{Brings}
use Rattle.ild_path_edits.proofs.Kept.{IsKept}
use Rattle.ild_path_edits.proofs.Holders.{set_part-there, set_part-other, set_part-seen}

module _ (rows : List Row) (is_key : ℕ → List ℕ → Bool) (P : Slot → Value → Type 0) (kept : IsKept rows is_key P) where
  pub inside_of : (slot : Slot) (w : Value) → P slot w → slot ≡ anything → of_any (data_in w) ≡ w
  inside_of slot w is e = kept.inside w (subst (λ r. P r w) e is)

  -- the value is typed where the last holder is changed to one that is
  typed_step : (f : Holder → List ℕ → Holder) (p : InSlot) (s t : List ℕ) (ss : List (List ℕ)) (l : Holder × List ℕ) (o : Option InSlot) → part (seen rows p) s ≡ o → P p.0 p.1
      → option_and_then (λ q. last_holder rows q t ss) o ≡ Some l
      → ((q : InSlot) → P q.0 q.1 → last_holder rows q t ss ≡ Some l → P q.0 (changed_in rows f q t ss))
      → P p.0 (option_map_or (λ q. value_of (set_part (seen rows p) s (changed_in rows f q t ss))) o p.1)
  typed_step f p s t ss l None e is h rest = is
  typed_step f p s t ss l (Some q) e is h rest =
      kept.set p s q.0 (changed_in rows f q t ss) is (kept.slots p q s is e) (kept.there p q s is e) (rest q (kept.parts p q s is e) h)

  pub typed_changed : (f : Holder → List ℕ → Holder) (l : Holder × List ℕ) → ((q : InSlot) → P q.0 q.1 → seen rows q ≡ l.0 → P q.0 (value_of (f l.0 l.1)))
      → (p : InSlot) (s : List ℕ) (ss : List (List ℕ)) → P p.0 p.1 → last_holder rows p s ss ≡ Some l → P p.0 (changed_in rows f p s ss)
  typed_changed f l last p s [] is h =
      let e : (seen rows p, s) ≡ l = same_Some (seen rows p, s) l h in
      subst (λ (k : Holder × List ℕ). P p.0 (value_of (f k.0 k.1))) (sym e) (last p is (λ i. (e i).0))
  typed_changed f l last p s (t ∷ ss) is h = typed_step f p s t ss l (part (seen rows p) s) refl is h (λ q it g. typed_changed f l last q t ss it g)

  pub set_typed : (l : Holder × List ℕ) (slot : Slot) (w : Value) → slot_to_set l.0 l.1 ≡ Some slot → MayStand is_key l.0 l.1 → P slot w
      → (q : InSlot) → P q.0 q.1 → seen rows q ≡ l.0 → P q.0 (value_of (set_part l.0 l.1 w))
  set_typed l slot w there fits new q is e =
      subst (λ h. P q.0 (value_of (set_part h l.1 w))) e (kept.set q l.1 slot w is (ap (λ h. slot_to_set h l.1) e ∙ there) (subst (λ h. MayStand is_key h l.1) (sym e) fits) new)

  pub inserted_typed : (l : Holder × List ℕ) (slot : Slot) (w : Value) → slot_to_insert l.0 l.1 ≡ Some slot → MayStand is_key l.0 l.1 → P slot w
      → (q : InSlot) → P q.0 q.1 → seen rows q ≡ l.0 → P q.0 (value_of (insert_part l.0 l.1 w))
  inserted_typed l slot w there fits new q is e =
      subst (λ h. P q.0 (value_of (insert_part h l.1 w))) e (kept.inserted q l.1 slot w is (ap (λ h. slot_to_insert h l.1) e ∙ there) (subst (λ h. MayStand is_key h l.1) (sym e) fits) new)

  pub deleted_typed : (l : Holder × List ℕ) → refusal_to_delete l.0 l.1 ≡ None → (q : InSlot) → P q.0 q.1 → seen rows q ≡ l.0 → P q.0 (value_of (delete_part l.0 l.1))
  deleted_typed l free q is e = subst (λ h. P q.0 (value_of (delete_part h l.1))) e (kept.deleted q l.1 is (ap (λ h. refusal_to_delete h l.1) e ∙ free))

  -- what is set at a path is there
  there_step : (p : InSlot) (s t : List ℕ) (ss : List (List ℕ)) (l : Holder × List ℕ) (slot : Slot) (w : Value) (o : Option InSlot) → part (seen rows p) s ≡ o → P p.0 p.1
      → option_and_then (λ q. last_holder rows q t ss) o ≡ Some l
      → ((q : InSlot) → P q.0 q.1 → last_holder rows q t ss ≡ Some l → P q.0 (changed_in rows (λ h t. set_part h t w) q t ss))
      → ((q : InSlot) → P q.0 q.1 → last_holder rows q t ss ≡ Some l → at rows (q.0, changed_in rows (λ h t. set_part h t w) q t ss) (t ∷ ss) ≡ Some (slot, w))
      → at rows (p.0, option_map_or (λ q. value_of (set_part (seen rows p) s (changed_in rows (λ h t. set_part h t w) q t ss))) o p.1) (s ∷ t ∷ ss) ≡ Some (slot, w)
  there_step p s t ss l slot w None e is h typed rest = absurd (none-some l h)
  there_step p s t ss l slot w (Some q) e is h typed rest =
      let c = changed_in rows (λ h t. set_part h t w) q t ss in
      let it = kept.parts p q s is e in
      let new = typed q it h in
      let a : part (seen rows (p.0, value_of (set_part (seen rows p) s c))) s ≡ Some (q.0, c) =
      ap (λ h. part h s) (set_part-seen rows p.0 p.1 s c) ∙ set_part-there (seen rows p) s q.0 c (kept.slots p q s is e) (λ g. inside_of q.0 c new g) in
      ap (λ o. option_and_then (λ q. at rows q (t ∷ ss)) o) a ∙ rest q it h

  pub there : (s : List ℕ) (ss : List (List ℕ)) (p : InSlot) (l : Holder × List ℕ) (slot : Slot) (w : Value) → P p.0 p.1 → last_holder rows p s ss ≡ Some l
      → slot_to_set l.0 l.1 ≡ Some slot → MayStand is_key l.0 l.1 → P slot w
      → at rows (p.0, changed_in rows (λ h t. set_part h t w) p s ss) (s ∷ ss) ≡ Some (slot, w)
  there s [] p l slot w is h free fits new =
      let e : (seen rows p, s) ≡ l = same_Some (seen rows p, s) l h in
      let g : slot_to_set (seen rows p) s ≡ Some slot = ap (λ (k : Holder × List ℕ). slot_to_set k.0 k.1) e ∙ free in
      ap (λ o. option_and_then (λ q. at rows q []) o) (ap (λ h. part h s) (set_part-seen rows p.0 p.1 s w) ∙ set_part-there (seen rows p) s slot w g (λ k. inside_of slot w new k))
  there s (t ∷ ss) p l slot w is h free fits new =
      there_step p s t ss l slot w (part (seen rows p) s) refl is h
      (λ q it g. typed_changed (λ h t. set_part h t w) l (set_typed l slot w free fits new) q t ss it g)
      (λ q it g. there t ss q l slot w it g free fits new)

  -- where a path leads, its last holder has the part
  pub last_there : (s : List ℕ) (ss : List (List ℕ)) (p q : InSlot) → at rows p (s ∷ ss) ≡ Some q → P p.0 p.1
      → (l : Holder × List ℕ) × (last_holder rows p s ss ≡ Some l) × (part l.0 l.1 ≡ Some q) × (slot_to_set l.0 l.1 ≡ Some q.0) × MayStand is_key l.0 l.1
  last_there s [] p q h is = ((seen rows p, s), refl, found (part (seen rows p) s) refl h, kept.slots p q s is (found (part (seen rows p) s) refl h), kept.there p q s is (found (part (seen rows p) s) refl h))
    where
      found : (o : Option InSlot) → part (seen rows p) s ≡ o → option_and_then (λ q. at rows q []) o ≡ Some q → part (seen rows p) s ≡ Some q
      found None e g = absurd (none-some q g)
      found (Some r) e g = e ∙ g
  last_there s (t ∷ ss) p q h is = step (part (seen rows p) s) refl h (λ r it g. last_there t ss r q g it)
    where
      step : (o : Option InSlot) → part (seen rows p) s ≡ o → option_and_then (λ r. at rows r (t ∷ ss)) o ≡ Some q
          → ((r : InSlot) → P r.0 r.1 → at rows r (t ∷ ss) ≡ Some q → (l : Holder × List ℕ) × (last_holder rows r t ss ≡ Some l) × (part l.0 l.1 ≡ Some q) × (slot_to_set l.0 l.1 ≡ Some q.0) × MayStand is_key l.0 l.1)
          → (l : Holder × List ℕ) × (option_and_then (λ r. last_holder rows r t ss) o ≡ Some l) × (part l.0 l.1 ≡ Some q) × (slot_to_set l.0 l.1 ≡ Some q.0) × MayStand is_key l.0 l.1
      step None e g rest = absurd (none-some q g)
      step (Some r) e g rest = rest r (kept.parts p r s is e) g

  set_typed_at : (s : List ℕ) (ss : List (List ℕ)) (p q : InSlot) (w : Value) → P p.0 p.1 → at rows p (s ∷ ss) ≡ Some q → P q.0 w → P p.0 (changed_in rows (λ h t. set_part h t w) p s ss)
  set_typed_at s ss p q w is h new =
      let x = last_there s ss p q h is in
      typed_changed (λ h t. set_part h t w) x.0 (set_typed x.0 q.0 w x.3 x.4 new) p s ss is x.1

  -- a path that is apart leads where it led
  pub others_step : (s : List ℕ) (ss : List (List ℕ)) (p q : InSlot) (t : List ℕ) (ts : List (List ℕ)) (c : Value) (r : InSlot) → P p.0 p.1 → part (seen rows p) s ≡ Some r → P r.0 c
      → ((s ≢ t) ⊎ ((s ≡ t) × (at rows (r.0, c) ts ≡ at rows r ts)))
      → at rows (p.0, value_of (set_part (seen rows p) s c)) (t ∷ ts) ≡ at rows p (t ∷ ts)
  others_step s ss p q t ts c r is e new (inl apart) =
      ap (λ o. option_and_then (λ q. at rows q ts) o) (ap (λ h. part h t) (set_part-seen rows p.0 p.1 s c) ∙ set_part-other (seen rows p) s t r c e apart)
  others_step s ss p q t ts c r is e new (inr same) =
      let a : part (seen rows (p.0, value_of (set_part (seen rows p) s c))) s ≡ Some (r.0, c) =
      ap (λ h. part h s) (set_part-seen rows p.0 p.1 s c) ∙ set_part-there (seen rows p) s r.0 c (kept.slots p r s is e) (λ g. inside_of r.0 c new g) in
      let b : at rows (p.0, value_of (set_part (seen rows p) s c)) (s ∷ ts) ≡ at rows p (s ∷ ts) =
      ap (λ o. option_and_then (λ q. at rows q ts) o) a ∙ same.1 ∙ sym (ap (λ o. option_and_then (λ q. at rows q ts) o) e) in
      subst (λ u. at rows (p.0, value_of (set_part (seen rows p) s c)) (u ∷ ts) ≡ at rows p (u ∷ ts)) same.0 b

  found_here : (o : Option InSlot) (q : InSlot) → option_and_then (λ r. at rows r []) o ≡ Some q → o ≡ Some q
  found_here None q h = absurd (none-some q h)
  found_here (Some r) q h = h

  others_below : (s : List ℕ) (u : List ℕ) (us : List (List ℕ)) (p q : InSlot) (t : List ℕ) (ts : List (List ℕ)) (w : Value) (o : Option InSlot) → part (seen rows p) s ≡ o → P p.0 p.1
      → option_and_then (λ r. at rows r (u ∷ us)) o ≡ Some q → P q.0 w → Apart (s ∷ u ∷ us) (t ∷ ts)
      → ((r : InSlot) → P r.0 r.1 → at rows r (u ∷ us) ≡ Some q → Apart (u ∷ us) ts → at rows (r.0, changed_in rows (λ h t. set_part h t w) r u us) ts ≡ at rows r ts)
      → at rows (p.0, option_map_or (λ r. value_of (set_part (seen rows p) s (changed_in rows (λ h t. set_part h t w) r u us))) o p.1) (t ∷ ts) ≡ at rows p (t ∷ ts)
  others_below s u us p q t ts w None e is h new apart rest = absurd (none-some q h)
  others_below s u us p q t ts w (Some r) e is h new apart rest =
      let it = kept.parts p r s is e in
      let c = changed_in rows (λ h t. set_part h t w) r u us in
      others_step s (u ∷ us) p q t ts c r is e (set_typed_at u us r q w it h new) (below apart it)
    where
      below : Apart (s ∷ u ∷ us) (t ∷ ts) → P r.0 r.1 → (s ≢ t) ⊎ ((s ≡ t) × (at rows (r.0, changed_in rows (λ h t. set_part h t w) r u us) ts ≡ at rows r ts))
      below (inl a) it = inl a
      below (inr a) it = inr (a.0, rest r it h a.1)

  pub others : (s : List ℕ) (ss : List (List ℕ)) (p q : InSlot) (other : List (List ℕ)) (w : Value) → P p.0 p.1 → at rows p (s ∷ ss) ≡ Some q → P q.0 w → Apart (s ∷ ss) other
      → at rows (p.0, changed_in rows (λ h t. set_part h t w) p s ss) other ≡ at rows p other
  others s ss p q [] w is h new apart = absurd apart
  others s [] p q (t ∷ ts) w is h new (inl apart) = others_step s [] p q t ts w q is (found_here (part (seen rows p) s) q h) new (inl apart)
  others s [] p q (t ∷ ts) w is h new (inr same) = absurd same.1
  others s (u ∷ us) p q (t ∷ ts) w is h new apart =
      others_below s u us p q t ts w (part (seen rows p) s) refl is h new apart (λ r it g a. others u us r q ts w it g new a)

-- a text that fits as a key may stand
pub may_stand : (is_key : ℕ → List ℕ → Bool) (h : Holder) (s : List ℕ) → IsUtf8 s → key_fits is_key h s ≡ true → MayStand is_key h s
may_stand is_key (fields fs os) s text h = h
may_stand is_key (member ms n v) s text h = h
may_stand is_key (entries key slot paired ps) s text h = h
may_stand is_key (elements slot vs) s text h = h
may_stand is_key (any_entries ms) s text h = text
may_stand is_key (any_elements ds) s text h = h
may_stand is_key (nothing v) s text h = h

-- what an edit makes of a typed value is typed
ok_same : (v w : Value) → ◌≡◌ {A = Result Value No} (Ok v) (Ok w) → v ≡ w
ok_same v w h = cc

pub placed_typed : (P : Value → Type 0) (fits : Bool) (d : Value) (o : Option Slot) (c : Value) → placed fits d o ≡ Ok c → ((slot : Slot) → o ≡ Some slot → fits ≡ true → P d) → P c
placed_typed P fits d None c h rest = absurd cc
placed_typed P true d (Some slot) c h rest = subst P (ok_same d c h) (rest slot refl refl)
placed_typed P false d (Some slot) c h rest = absurd cc

pub kept_typed : (P : Value → Type 0) (d : Value) (o : Option No) (c : Value) → unless_kept d o ≡ Ok c → (o ≡ None → P d) → P c
kept_typed P d None c h rest = subst P (ok_same d c h) (rest refl)
kept_typed P d (Some refusal) c h rest = absurd cc

module _ (rows : List Row) (is_key : ℕ → List ℕ → Bool) (P : Slot → Value → Type 0) (kept : IsKept rows is_key P) where
  -- the last segment is a text
  text_below : (o : Option InSlot) (t : List ℕ) (ss : List (List ℕ)) (l : Holder × List ℕ) → ((q : InSlot) → last_holder rows q t ss ≡ Some l → IsUtf8 l.1)
      → option_and_then (λ q. last_holder rows q t ss) o ≡ Some l → IsUtf8 l.1
  text_below None t ss l rest h = absurd (none-some l h)
  text_below (Some q) t ss l rest h = rest q h

  pub last_text : (p : InSlot) (s : List ℕ) (ss : List (List ℕ)) (l : Holder × List ℕ) → AllByRecursion IsUtf8 (s ∷ ss) → last_holder rows p s ss ≡ Some l → IsUtf8 l.1
  last_text p s [] l texts e = subst IsUtf8 (λ i. (same_Some (seen rows p, s) l e i).1) texts.0
  last_text p s (t ∷ ss) l texts e = text_below (part (seen rows p) s) t ss l (λ q h. last_text q t ss l texts.1 h) e

  set_in_typed : (p : InSlot) (s : List ℕ) (ss : List (List ℕ)) (w : Value) (c : Value) (o : Option (Holder × List ℕ)) → last_holder rows p s ss ≡ o → AllByRecursion IsUtf8 (s ∷ ss)
      → ((slot : Slot) → option_and_then (λ (l : Holder × List ℕ). slot_to_set l.0 l.1) o ≡ Some slot → P slot w) → P p.0 p.1
      → set_in is_key (changed_in rows (λ h t. set_part h t w) p s ss) o ≡ Ok c → P p.0 c
  set_in_typed p s ss w c None e texts new is h = absurd cc
  set_in_typed p s ss w c (Some l) e texts new is h =
      placed_typed (P p.0) (key_fits is_key l.0 l.1) (changed_in rows (λ h t. set_part h t w) p s ss) (slot_to_set l.0 l.1) c h
      (λ slot free fits. typed_changed rows is_key P kept (λ h t. set_part h t w) l (set_typed rows is_key P kept l slot w free (may_stand is_key l.0 l.1 (last_text p s ss l texts e) fits) (new slot free)) p s ss is e)

  ins_in_typed : (p : InSlot) (s : List ℕ) (ss : List (List ℕ)) (w : Value) (c : Value) (o : Option (Holder × List ℕ)) → last_holder rows p s ss ≡ o → AllByRecursion IsUtf8 (s ∷ ss)
      → ((slot : Slot) → option_and_then (λ (l : Holder × List ℕ). slot_to_insert l.0 l.1) o ≡ Some slot → P slot w) → P p.0 p.1
      → ins_in is_key (changed_in rows (λ h t. insert_part h t w) p s ss) o ≡ Ok c → P p.0 c
  ins_in_typed p s ss w c None e texts new is h = absurd cc
  ins_in_typed p s ss w c (Some l) e texts new is h =
      placed_typed (P p.0) (key_fits is_key l.0 l.1) (changed_in rows (λ h t. insert_part h t w) p s ss) (slot_to_insert l.0 l.1) c h
      (λ slot free fits. typed_changed rows is_key P kept (λ h t. insert_part h t w) l (inserted_typed rows is_key P kept l slot w free (may_stand is_key l.0 l.1 (last_text p s ss l texts e) fits) (new slot free)) p s ss is e)

  del_in_typed : (p : InSlot) (s : List ℕ) (ss : List (List ℕ)) (c : Value) (o : Option (Holder × List ℕ)) → last_holder rows p s ss ≡ o → P p.0 p.1
      → del_in (changed_in rows delete_part p s ss) o ≡ Ok c → P p.0 c
  del_in_typed p s ss c None e is h = absurd cc
  del_in_typed p s ss c (Some l) e is h =
      kept_typed (P p.0) (changed_in rows delete_part p s ss) (refusal_to_delete l.0 l.1) c h
      (λ free. typed_changed rows is_key P kept delete_part l (deleted_typed rows is_key P kept l free) p s ss is e)

  pub change_typed : (p : InSlot) (e : Edit Value) (c : Value) → HasTextPath e → Brings rows P p e → P p.0 p.1 → change rows is_key p e ≡ Ok c → P p.0 c
  change_typed p (set_at [] w) c texts new is h = subst (P p.0) (ok_same w c h) (new p.0 refl)
  change_typed p (set_at (s ∷ ss) w) c texts new is h = set_in_typed p s ss w c (last_holder rows p s ss) refl texts new is h
  change_typed p (ins_at [] w) c texts new is h = absurd cc
  change_typed p (ins_at (s ∷ ss) w) c texts new is h = ins_in_typed p s ss w c (last_holder rows p s ss) refl texts new is h
  change_typed p (del_at []) c texts new is h = absurd cc
  change_typed p (del_at (s ∷ ss)) c texts new is h = del_in_typed p s ss c (last_holder rows p s ss) refl is h
