-- A path to a holder, and one segment more.
use Rattle.std.proofs.Common.{◌≡◌, ℕ, suc, ◌-◌, List, [], ◌∷◌, ◌++◌, length, Bool, true, false, is_some, Option, Some, None, Result, Ok, Err, option_map, refl, ap, sym, ◌∙◌, subst, arith}
use Rattle.std.specs.Prelude.{option_and_then}
use Rattle.std.specs.Option.{option_map_or}
use Rattle.std.proofs.lemmas.Option.{none-some, same_Some}
use Rattle.ild_path_edits.specs.Edit.{change, del_at, del_in, ins_at, new_slot, set_at, unless_kept}
use Rattle.ild_path_edits.specs.Stop.{Stop, fault_by, fault_in, may_delete, part_along, place_fault, stopped}
use Rattle.ild_path_edits.proofs.Stops.{stops_tell}
use Rattle.ild_path_edits.specs.Table.{delete_part, refusal_to_delete, slot_to_insert, slot_to_set}
use Rattle.ild_path_place.specs.Places.{IsKept, SlotIs, holder_of_path, path_fault}
use Rattle.ild_path_place.specs.inside.Slots.{SlotAnswer, part_slot}
use Rattle.ild_path_rules.specs.declared.delete.Refusal.TheVariants as R
use Rattle.ild_path_place.specs.declared.verb.Verb.{Verb}
use Rattle.ild_path_place.specs.declared.verb.Verb.TheVariants as V
use Rattle.ild_schema.specs.declared.number.Slot.{Slot}
use Rattle.ild_schema.specs.declared.row.Row.{Row}
use Rattle.ild_schema.specs.Value.{Value}
use Rattle.ild_script.specs.declared.reply.No.{No}
use Rattle.ild_script.specs.declared.reply.No.TheVariants as N
use Rattle.ild_typed.specs.At.{InSlot, at, changed_in, last_holder, seen}
use Rattle.ild_typed.specs.Holder.{Holder}
use Rattle.ild_typed.specs.Segment.{part}
use Rattle.ild_path_within.proofs.Splitting.{paths_split}

module _ (rows : List Row) where
  -- the holder of the last segment
  last_by : (s : List ℕ) (q p : InSlot) (t : List ℕ) (ts : List (List ℕ)) (o : Option InSlot) → part (seen rows p) t ≡ o → option_and_then (λ r. at rows r ts) o ≡ Some q
      → ((r : InSlot) → at rows r ts ≡ Some q → holder_of_path rows r (ts ++ s ∷ []) ≡ Some (seen rows q, s)) → last_holder rows p t (ts ++ s ∷ []) ≡ Some (seen rows q, s)
  last_by s q p t ts None is e rest = absurd (none-some q e)
  last_by s q p t [] (Some r) is e rest = ap (option_and_then (λ r. last_holder rows r s [])) is ∙ rest r e
  last_by s q p t (u ∷ us) (Some r) is e rest = ap (option_and_then (λ r. last_holder rows r u (us ++ s ∷ []))) is ∙ rest r e

  pub holder_last : (front : List (List ℕ)) (s : List ℕ) (p q : InSlot) → at rows p front ≡ Some q → holder_of_path rows p (front ++ s ∷ []) ≡ Some (seen rows q, s)
  holder_last [] s p q e = ap (λ (r : InSlot). Some (seen rows r, s)) (same_Some p q e)
  holder_last (t ∷ ts) s p q e = last_by s q p t ts (part (seen rows p) t) refl e (λ r own. holder_last ts s r q own)

  none_by : (s : List ℕ) (p : InSlot) (t : List ℕ) (ts : List (List ℕ)) (o : Option InSlot) → part (seen rows p) t ≡ o → option_and_then (λ r. at rows r ts) o ≡ None
      → ((r : InSlot) → at rows r ts ≡ None → holder_of_path rows r (ts ++ s ∷ []) ≡ None) → last_holder rows p t (ts ++ s ∷ []) ≡ None
  none_by s p t [] None is e rest = ap (option_and_then (λ r. last_holder rows r s [])) is
  none_by s p t (u ∷ us) None is e rest = ap (option_and_then (λ r. last_holder rows r u (us ++ s ∷ []))) is
  none_by s p t [] (Some r) is e rest = absurd (none-some r (sym e))
  none_by s p t (u ∷ us) (Some r) is e rest = ap (option_and_then (λ r. last_holder rows r u (us ++ s ∷ []))) is ∙ rest r e

  no_last : (front : List (List ℕ)) (s : List ℕ) (p : InSlot) → at rows p front ≡ None → holder_of_path rows p (front ++ s ∷ []) ≡ None
  no_last [] s p e = absurd (none-some p (sym e))
  no_last (t ∷ ts) s p e = none_by s p t ts (part (seen rows p) t) refl e (λ r own. no_last ts s r own)

  -- a path stops where its front does
  stops_by : (zs : List (List ℕ)) (p r : InSlot) (y : List ℕ) (ys : List (List ℕ)) (t : List ℕ) (ts : List (List ℕ)) (o : Option InSlot) → part (seen rows p) t ≡ o
      → option_map_or (λ q. stopped rows q ts) o (record { part = p; left = t ∷ ts }) ≡ record { part = r; left = y ∷ ys }
      → ((q : InSlot) → stopped rows q ts ≡ record { part = r; left = y ∷ ys } → stopped rows q (ts ++ zs) ≡ record { part = r; left = (y ∷ ys) ++ zs })
      → stopped rows p (t ∷ (ts ++ zs)) ≡ record { part = r; left = (y ∷ ys) ++ zs }
  stops_by zs p r y ys t ts None is e rest =
      ap (λ o. option_map_or (λ q. stopped rows q (ts ++ zs)) o (record { part = p; left = t ∷ (ts ++ zs) })) is ∙ ap (λ (x : Stop). record { part = x.part; left = x.left ++ zs }) e
  stops_by zs p r y ys t ts (Some q) is e rest = ap (λ o. option_map_or (λ q. stopped rows q (ts ++ zs)) o (record { part = p; left = t ∷ (ts ++ zs) })) is ∙ rest q e

  nil_not : (p r : InSlot) (y : List ℕ) (ys : List (List ℕ)) → ◌≡◌ {A = Stop} (record { part = p; left = [] }) (record { part = r; left = y ∷ ys }) → ⊥
  nil_not p r y ys e = let n : 0 ≡ suc (length ys) = ap (λ (x : Stop). length x.left) e in absurd (omega (arith, n))

  stops_more : (front zs : List (List ℕ)) (p r : InSlot) (y : List ℕ) (ys : List (List ℕ)) → stopped rows p front ≡ record { part = r; left = y ∷ ys } → stopped rows p (front ++ zs) ≡ record { part = r; left = (y ∷ ys) ++ zs }
  stops_more [] zs p r y ys e = absurd (nil_not p r y ys e)
  stops_more (t ∷ ts) zs p r y ys e = stops_by zs p r y ys t ts (part (seen rows p) t) refl e (λ q own. stops_more ts zs q r y ys own)

  -- ---- faults

  pub record Ends (front : List (List ℕ)) (s : List ℕ) : Type 0 where
    pub first : List ℕ
    pub more : List (List ℕ)
    pub is : front ++ s ∷ [] ≡ first ∷ more
    pub many : length more ≡ length front

  pub ends : (front : List (List ℕ)) (s : List ℕ) → Ends front s
  ends [] s = record { first = s; more = []; is = refl; many = refl }
  ends (t ∷ ts) s = record { first = t; more = ts ++ s ∷ []; is = refl; many = lengths ts } where
    lengths : (ts : List (List ℕ)) → length (ts ++ s ∷ []) ≡ suc (length ts)
    lengths [] = refl
    lengths (u ∷ us) = ap suc (lengths us)

  abbrev Allows : Type 0
  Allows = Holder → List ℕ → Bool

  abbrev fault_of : InSlot → Allows → List (List ℕ) → Option ℕ
  fault_of p allows [] = None
  fault_of p allows (x ∷ xs) = fault_in rows p allows x xs

  allowed_by : (stop last : ℕ) (allows : Allows) (o : Option (Holder × List ℕ)) (l : Holder × List ℕ) → o ≡ Some l → allows l.0 l.1 ≡ true → fault_by stop last allows o ≡ None
  allowed_by stop last allows None l e t = absurd (none-some l e)
  allowed_by stop last allows (Some k) l e t = let own : allows k.0 k.1 ≡ true = ap (λ (x : Holder × List ℕ). allows x.0 x.1) (same_Some k l e) ∙ t in rw own refl

  refused_by : (stop last : ℕ) (allows : Allows) (o : Option (Holder × List ℕ)) (l : Holder × List ℕ) → o ≡ Some l → allows l.0 l.1 ≡ false → fault_by stop last allows o ≡ Some last
  refused_by stop last allows None l e t = absurd (none-some l e)
  refused_by stop last allows (Some k) l e t = let own : allows k.0 k.1 ≡ false = ap (λ (x : Holder × List ℕ). allows x.0 x.1) (same_Some k l e) ∙ t in rw own refl

  module _ (front : List (List ℕ)) (s : List ℕ) (p : InSlot) (allows : Allows) where
    abbrev path : List (List ℕ)
    path = front ++ s ∷ []

    allowed : (q : InSlot) → at rows p front ≡ Some q → allows (seen rows q) s ≡ true → fault_of p allows path ≡ None
    allowed q e t = let x = ends front s in ap (fault_of p allows) x.is ∙ allowed_by _ _ allows _ (seen rows q, s) (sym (ap (holder_of_path rows p) x.is) ∙ holder_last front s p q e) t

    refused : (q : InSlot) → at rows p front ≡ Some q → allows (seen rows q) s ≡ false → fault_of p allows path ≡ Some (length front)
    refused q e t =
        let x = ends front s in
        ap (fault_of p allows) x.is ∙ refused_by _ _ allows _ (seen rows q, s) (sym (ap (holder_of_path rows p) x.is) ∙ holder_last front s p q e) t ∙ ap (λ (n : ℕ). Some n) x.many

    nowhere : (r : InSlot) (y : List ℕ) (ys : List (List ℕ)) → stopped rows p front ≡ record { part = r; left = y ∷ ys } → fault_of p allows path ≡ Some (length front - length (y ∷ ys))
    nowhere r y ys e =
        let x = ends front s in
        let none : at rows p front ≡ None = (stops_tell rows 0 p front).0 ∙ ap (λ (z : Stop). part_along z.part z.left) e in
        let last : last_holder rows p x.first x.more ≡ None = sym (ap (holder_of_path rows p) x.is) ∙ no_last front s p none in
        let stop : stopped rows p (x.first ∷ x.more) ≡ record { part = r; left = (y ∷ ys) ++ s ∷ [] } = sym (ap (stopped rows p) x.is) ∙ stops_more front (s ∷ []) p r y ys e in
        let many = x.many in
        let left = more_length (y ∷ ys) in
        let n : suc (length x.more) - length ((y ∷ ys) ++ s ∷ []) ≡ length front - length (y ∷ ys) = omega (arith, many, left) in
        ap (fault_of p allows) x.is ∙ ap (fault_by (suc (length x.more) - length (stopped rows p (x.first ∷ x.more)).left) (length x.more) allows) last
        ∙ ap (λ (z : Stop). Some (suc (length x.more) - length z.left)) stop ∙ ap (λ (i : ℕ). Some i) n
      where
        more_length : (ts : List (List ℕ)) → length (ts ++ s ∷ []) ≡ suc (length ts)
        more_length [] = refl
        more_length (u ∷ us) = ap suc (more_length us)

  -- ---- what is answered, by what is answered of the holder

  some_is : {A : Type 0} (o : Option A) (x : A) → o ≡ Some x → is_some o ≡ true
  some_is o x e = ap is_some e

  none_is : {A : Type 0} (o : Option A) → o ≡ None → is_some o ≡ false
  none_is o e = ap is_some e

  at_end : (q : InSlot) (s : List ℕ) → at rows q (s ∷ []) ≡ part (seen rows q) s
  at_end q s = by (part (seen rows q) s) where
    by : (o : Option InSlot) → option_and_then (λ r. at rows r []) o ≡ o
    by None = refl
    by (Some r) = refl

  set_of : (p : InSlot) (path : List (List ℕ)) (x : List ℕ) (xs : List (List ℕ)) → path ≡ x ∷ xs → place_fault rows p (set_at path (tt {0})) ≡ fault_of p (λ h t. is_some (slot_to_set h t)) path
  set_of p ys x xs e = subst (λ (z : List (List ℕ)). place_fault rows p (set_at z (tt {0})) ≡ fault_of p (λ h t. is_some (slot_to_set h t)) z) (sym e) refl

  ins_of : (p : InSlot) (path : List (List ℕ)) (x : List ℕ) (xs : List (List ℕ)) → path ≡ x ∷ xs → place_fault rows p (ins_at path (tt {0})) ≡ fault_of p (λ h t. is_some (slot_to_insert h t)) path
  ins_of p ys x xs e = subst (λ (z : List (List ℕ)). place_fault rows p (ins_at z (tt {0})) ≡ fault_of p (λ h t. is_some (slot_to_insert h t)) z) (sym e) refl

  del_of : (p : InSlot) (path : List (List ℕ)) (x : List ℕ) (xs : List (List ℕ)) → path ≡ x ∷ xs → place_fault {X = Unit {0}} rows p (del_at path) ≡ fault_of p (λ h t. may_delete (refusal_to_delete h t)) path
  del_of p ys x xs e = subst (λ (z : List (List ℕ)). place_fault {X = Unit {0}} rows p (del_at z) ≡ fault_of p (λ h t. may_delete (refusal_to_delete h t)) z) (sym e) refl

  del_is : (is_key : ℕ → List ℕ → Bool) (p q : InSlot) (front : List (List ℕ)) (s : List ℕ) → at rows p front ≡ Some q → (c : Value) × (change rows is_key p (del_at (front ++ s ∷ [])) ≡ unless_kept c (refusal_to_delete (seen rows q) s))
  del_is is_key p q front s e =
      let x = ends front s in
      let c = changed_in rows delete_part p x.first x.more in
      (c, ap (λ (z : List (List ℕ)). change rows is_key p (del_at z)) x.is ∙ ap (del_in c) (sym (ap (holder_of_path rows p) x.is) ∙ holder_last front s p q e))

  -- there is a place
  pub record IsAllowed (p : InSlot) (path : List (List ℕ)) (verb : Verb) (slot : Slot) : Type 0 where
    pub allowed : path_fault rows p path verb ≡ None
    pub may_go : IsKept rows p path verb → ⊥
    pub slot_is : SlotIs rows p path verb slot

  ok_not_err : (c : Value) (e : No) → ◌≡◌ {A = Result Value No} (Ok c) (Err e) → ⊥
  ok_not_err c e h = absurd cc

  module _ (front : List (List ℕ)) (s : List ℕ) (p q : InSlot) (e : at rows p front ≡ Some q) where
    abbrev whole : List (List ℕ)
    whole = front ++ s ∷ []

    whole_at : at rows p whole ≡ part (seen rows q) s
    whole_at = paths_split rows p front (s ∷ []) ∙ ap (option_and_then (λ r. at rows r (s ∷ []))) e ∙ at_end q s

    slot_there : (slot : Slot) → part_slot rows q s ≡ Some slot → option_map (λ (r : InSlot). r.0) (at rows p whole) ≡ Some slot
    slot_there slot own = ap (option_map (λ (r : InSlot). r.0)) whole_at ∙ own

    new_is : (slot_for : Holder → List ℕ → Option Slot) → option_and_then (λ (l : Holder × List ℕ). slot_for l.0 l.1) (holder_of_path rows p whole) ≡ slot_for (seen rows q) s
    new_is slot_for = ap (option_and_then (λ (l : Holder × List ℕ). slot_for l.0 l.1)) (holder_last front s p q e)

    set_slot : new_slot rows p (set_at whole (tt {0})) ≡ slot_to_set (seen rows q) s
    set_slot =
        let x = ends front s in
        ap (λ (z : List (List ℕ)). new_slot rows p (set_at z (tt {0}))) x.is ∙ sym (ap (λ (z : List (List ℕ)). option_and_then (λ (l : Holder × List ℕ). slot_to_set l.0 l.1) (holder_of_path rows p z)) x.is) ∙ new_is slot_to_set

    ins_slot : new_slot rows p (ins_at whole (tt {0})) ≡ slot_to_insert (seen rows q) s
    ins_slot =
        let x = ends front s in
        ap (λ (z : List (List ℕ)). new_slot rows p (ins_at z (tt {0}))) x.is ∙ sym (ap (λ (z : List (List ℕ)). option_and_then (λ (l : Holder × List ℕ). slot_to_insert l.0 l.1) (holder_of_path rows p z)) x.is) ∙ new_is slot_to_insert

    pub is_allowed : (verb : Verb) (slot : Slot) → SlotAnswer rows q s verb (Ok slot) → IsAllowed p whole verb slot
    is_allowed V.Set slot own =
        let x = ends front s in
        record { allowed = set_of p whole x.first x.more x.is ∙ allowed front s p (λ h t. is_some (slot_to_set h t)) q e (some_is _ slot own); may_go = λ kept. kept; slot_is = set_slot ∙ own }
    is_allowed V.Ins slot own =
        let x = ends front s in
        record { allowed = ins_of p whole x.first x.more x.is ∙ allowed front s p (λ h t. is_some (slot_to_insert h t)) q e (some_is _ slot own); may_go = λ kept. kept; slot_is = ins_slot ∙ own }
    is_allowed V.Del slot own =
        let x = ends front s in
        record {
          allowed = del_of p whole x.first x.more x.is ∙ allowed front s p (λ h t. may_delete (refusal_to_delete h t)) q e (ap may_delete own.0);
          may_go = λ kept. let c = del_is (λ n k. false) p q front s e in ok_not_err c.0 N.Mismatch (sym (c.1 ∙ ap (unless_kept c.0) own.0) ∙ kept (λ n k. false));
          slot_is = slot_there slot own.1;
        }

    pub is_nowhere : (verb : Verb) → SlotAnswer rows q s verb (Err R.Path) → path_fault rows p whole verb ≡ Some (length front)
    is_nowhere V.Set own = let x = ends front s in set_of p whole x.first x.more x.is ∙ refused front s p (λ h t. is_some (slot_to_set h t)) q e (none_is _ own)
    is_nowhere V.Ins own = let x = ends front s in ins_of p whole x.first x.more x.is ∙ refused front s p (λ h t. is_some (slot_to_insert h t)) q e (none_is _ own)
    is_nowhere V.Del own = let x = ends front s in del_of p whole x.first x.more x.is ∙ refused front s p (λ h t. may_delete (refusal_to_delete h t)) q e (ap may_delete own)

    pub is_kept : (verb : Verb) → SlotAnswer rows q s verb (Err R.Mismatch) → IsKept rows p whole verb
    is_kept V.Set own = own
    is_kept V.Ins own = own
    is_kept V.Del own = λ is_key. let c = del_is is_key p q front s e in c.1 ∙ ap (unless_kept c.0) own

  -- where the path stops before its last segment
  pub stops_before : (front : List (List ℕ)) (s : List ℕ) (p r : InSlot) (left : List (List ℕ)) (y : List ℕ) (ys : List (List ℕ)) → left ≡ y ∷ ys → stopped rows p front ≡ record { part = r; left = left }
      → (verb : Verb) → path_fault rows p (front ++ s ∷ []) verb ≡ Some (length front - length left)
  stops_before front s p r left y ys is e verb = by verb ∙ ap (λ (xs : List (List ℕ)). Some (length front - length xs)) (sym is) where
    own : stopped rows p front ≡ record { part = r; left = y ∷ ys }
    own = e ∙ ap (λ (xs : List (List ℕ)). record { part = r; left = xs }) is

    by : (verb : Verb) → path_fault rows p (front ++ s ∷ []) verb ≡ Some (length front - length (y ∷ ys))
    by V.Set = let x = ends front s in set_of p (front ++ s ∷ []) x.first x.more x.is ∙ nowhere front s p (λ h t. is_some (slot_to_set h t)) r y ys own
    by V.Ins = let x = ends front s in ins_of p (front ++ s ∷ []) x.first x.more x.is ∙ nowhere front s p (λ h t. is_some (slot_to_insert h t)) r y ys own
    by V.Del = let x = ends front s in del_of p (front ++ s ∷ []) x.first x.more x.is ∙ nowhere front s p (λ h t. may_delete (refusal_to_delete h t)) r y ys own
