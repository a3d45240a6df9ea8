-- Paths in two pieces, by induction on the first.
use Rattle.std.proofs.Common.{◌≡◌, ℕ, zero, suc, ◌+◌, ◌-◌, ◌≤◌, List, [], ◌∷◌, ◌++◌, length, length-append, slice_get, Bool, true, false, Option, Some, None, refl, ap, sym, subst, ◌∙◌, arith}
use Rattle.std.specs.Prelude.{Ok, is_some, ◌||◌, option_map, option_and_then}
use Rattle.std.specs.Option.{option_map_or}
use Rattle.std.proofs.lemmas.Option.{same_Some, none-some}
use Rattle.ild_data.specs.Key.{same_text, value_at}
use Rattle.ild_schema.specs.declared.def.Field.{Field}
use Rattle.ild_schema.specs.declared.def.Member.{Member}
use Rattle.ild_schema.specs.declared.number.Slot.{Slot}
use Rattle.ild_schema.specs.declared.row.Row.{Row}
use Rattle.ild_schema.specs.Prelude.{anything}
use Rattle.ild_schema.specs.Slots.{plainly}
use Rattle.ild_schema.specs.Value.{Value}
use Rattle.ild_script.specs.declared.reply.No.{No}
use Rattle.ild_typed.specs.At.{InSlot, seen, at, last_holder, changed_in, met}
use Rattle.ild_typed.specs.Holder.{Holder, fields, member, entries, elements, any_entries, any_elements, nothing, value_of}
use Rattle.ild_typed.specs.Segment.{part, set_part, field_at, held_as, member_named, index_of, next_member}
use Rattle.ild_typed.proofs.Basics.{From, then_from}
use Rattle.ild_path_edits.specs.Edit.{Edit, set_at, ins_at, del_at, path_of, placed, set_in, ins_in, unless_kept, del_in, change}
use Rattle.ild_path_edits.specs.Stop.{Stop, stopped, may_delete, fault_by, fault_in, place_fault}
use Rattle.ild_path_edits.specs.Table.{slot_to_set, slot_to_insert, declared_slot, key_fits, insert_part, delete_part, refusal_to_delete}
use Rattle.ild_path_within.specs.Within.{with_part, with_result, moved}
use Rattle.ild_path_within.specs.WithinLaws.{PathsSplit, EditsSplit, FaultsSplit, PartsAreSet, PartsOfParts, WaysSplit}

-- ---- where paths lead

leads_step : (rows : List Row) (ss behind : List (List ℕ)) (o : Option InSlot) → ((q : InSlot) → at rows q (ss ++ behind) ≡ option_and_then (λ r. at rows r behind) (at rows q ss))
    → option_and_then (λ q. at rows q (ss ++ behind)) o ≡ option_and_then (λ r. at rows r behind) (option_and_then (λ q. at rows q ss) o)
leads_step rows ss behind None rest = refl
leads_step rows ss behind (Some q) rest = rest q

leads : (rows : List Row) (front : List (List ℕ)) (p : InSlot) (behind : List (List ℕ)) → at rows p (front ++ behind) ≡ option_and_then (λ q. at rows q behind) (at rows p front)
leads rows [] p behind = refl
leads rows (s ∷ ss) p behind = leads_step rows ss behind (part (seen rows p) s) (λ q. leads rows ss q behind)

pub paths_split : PathsSplit
paths_split = λ rows p front behind. leads rows front p behind

-- the part at the first segment
pub first_of_path : (rows : List Row) (p q : InSlot) (s : List ℕ) (ss : List (List ℕ)) → at rows p (s ∷ ss) ≡ Some q → From (λ r. at rows r ss) (part (seen rows p) s) q
first_of_path rows p q s ss e = then_from (λ r. at rows r ss) (part (seen rows p) s) q e

met_split : (rows : List Row) (count : InSlot → List ℕ → ℕ) (front : List (List ℕ)) (p q : InSlot) (behind : List (List ℕ)) → at rows p front ≡ Some q
    → met rows count p (front ++ behind) ≡ met rows count p front + met rows count q behind
met_split rows count [] p q behind e = let h = ap (λ r. met rows count r behind) (same_Some p q e) in omega (arith, h)
met_split rows count (s ∷ ss) p q behind e =
    let x = first_of_path rows p q s ss e in
    let rest = met_split rows count ss x.item q behind x.made in
    let a : option_map_or (λ r. met rows count r (ss ++ behind)) (part (seen rows p) s) 0 ≡ met rows count x.item (ss ++ behind) = ap (λ o. option_map_or (λ r. met rows count r (ss ++ behind)) o 0) x.there in
    let b : option_map_or (λ r. met rows count r ss) (part (seen rows p) s) 0 ≡ met rows count x.item ss = ap (λ o. option_map_or (λ r. met rows count r ss) o 0) x.there in
    omega (arith, a, b, rest)

pub ways_split : WaysSplit
ways_split = λ rows count p q front behind e. met_split rows count front p q behind e

-- ---- what becomes of the whole

with_split : (rows : List Row) (front : List (List ℕ)) (p q : InSlot) (behind : List (List ℕ)) (m : Value) → at rows p front ≡ Some q
    → with_part rows p (front ++ behind) m ≡ with_part rows p front (with_part rows q behind m)
with_split rows [] p q behind m e = ap (λ r. with_part rows r behind m) (same_Some p q e)
with_split rows (s ∷ ss) p q behind m e =
    let x = first_of_path rows p q s ss e in
    let rest = with_split rows ss x.item q behind m x.made in
    ap (λ o. option_map_or (λ r. value_of (set_part (seen rows p) s (with_part rows r (ss ++ behind) m))) o p.1) x.there
    ∙ ap (λ c. value_of (set_part (seen rows p) s c)) rest
    ∙ sym (ap (λ o. option_map_or (λ r. value_of (set_part (seen rows p) s (with_part rows r ss (with_part rows q behind m)))) o p.1) x.there)

pub parts_of_parts : PartsOfParts
parts_of_parts = λ rows p q front behind m e. with_split rows front p q behind m e

-- a list that ends in another with a first element has one
record Begins (xs : List (List ℕ)) : Type 0 where
  first : List ℕ
  rest : List (List ℕ)
  is : xs ≡ first ∷ rest

begins : (ts : List (List ℕ)) (s : List ℕ) (ss : List (List ℕ)) → Begins (ts ++ (s ∷ ss))
begins [] s ss = record { first = s; rest = ss; is = refl }
begins (t ∷ ts) s ss = record { first = t; rest = ts ++ (s ∷ ss); is = refl }

abbrev changed_at : List Row → (Holder → List ℕ → Holder) → InSlot → List (List ℕ) → Value
changed_at rows f p [] = p.1
changed_at rows f p (s ∷ ss) = changed_in rows f p s ss

abbrev last_at : List Row → InSlot → List (List ℕ) → Option (Holder × List ℕ)
last_at rows p [] = None
last_at rows p (s ∷ ss) = last_holder rows p s ss

changed_from : (rows : List Row) (f : Holder → List ℕ → Holder) (p : InSlot) (t : List ℕ) (us : List (List ℕ)) → Begins us
    → changed_in rows f p t us ≡ option_map_or (λ r. value_of (set_part (seen rows p) t (changed_at rows f r us))) (part (seen rows p) t) p.1
changed_from rows f p t us b =
    subst (λ vs. changed_in rows f p t vs ≡ option_map_or (λ r. value_of (set_part (seen rows p) t (changed_at rows f r vs))) (part (seen rows p) t) p.1) (sym b.is) refl

last_from : (rows : List Row) (p : InSlot) (t : List ℕ) (us : List (List ℕ)) → Begins us → last_holder rows p t us ≡ option_and_then (λ r. last_at rows r us) (part (seen rows p) t)
last_from rows p t us b = subst (λ vs. last_holder rows p t vs ≡ option_and_then (λ r. last_at rows r vs) (part (seen rows p) t)) (sym b.is) refl

changed_split : (rows : List Row) (f : Holder → List ℕ → Holder) (front : List (List ℕ)) (p q : InSlot) (s : List ℕ) (ss : List (List ℕ)) → at rows p front ≡ Some q
    → changed_at rows f p (front ++ (s ∷ ss)) ≡ with_part rows p front (changed_in rows f q s ss)
changed_split rows f [] p q s ss e = ap (λ r. changed_in rows f r s ss) (same_Some p q e)
changed_split rows f (t ∷ ts) p q s ss e =
    let x = first_of_path rows p q t ts e in
    let rest = changed_split rows f ts x.item q s ss x.made in
    changed_from rows f p t (ts ++ (s ∷ ss)) (begins ts s ss)
    ∙ ap (λ o. option_map_or (λ r. value_of (set_part (seen rows p) t (changed_at rows f r (ts ++ (s ∷ ss))))) o p.1) x.there
    ∙ ap (λ c. value_of (set_part (seen rows p) t c)) rest
    ∙ sym (ap (λ o. option_map_or (λ r. value_of (set_part (seen rows p) t (with_part rows r ts (changed_in rows f q s ss)))) o p.1) x.there)

last_split : (rows : List Row) (front : List (List ℕ)) (p q : InSlot) (s : List ℕ) (ss : List (List ℕ)) → at rows p front ≡ Some q → last_at rows p (front ++ (s ∷ ss)) ≡ last_holder rows q s ss
last_split rows [] p q s ss e = ap (λ r. last_holder rows r s ss) (same_Some p q e)
last_split rows (t ∷ ts) p q s ss e =
    let x = first_of_path rows p q t ts e in
    last_from rows p t (ts ++ (s ∷ ss)) (begins ts s ss) ∙ ap (λ o. option_and_then (λ r. last_at rows r (ts ++ (s ∷ ss))) o) x.there ∙ last_split rows ts x.item q s ss x.made

-- ---- edits

module _ (rows : List Row) (is_key : ℕ → List ℕ → Bool) where
  placed_with : (p : InSlot) (front : List (List ℕ)) (fits : Bool) (c : Value) (o : Option Slot) → placed fits (with_part rows p front c) o ≡ with_result rows p front (placed fits c o)
  placed_with p front fits c None = refl
  placed_with p front true c (Some slot) = refl
  placed_with p front false c (Some slot) = refl

  set_with : (p : InSlot) (front : List (List ℕ)) (c : Value) (o : Option (Holder × List ℕ)) → set_in is_key (with_part rows p front c) o ≡ with_result rows p front (set_in is_key c o)
  set_with p front c None = refl
  set_with p front c (Some l) = placed_with p front (key_fits is_key l.0 l.1) c (slot_to_set l.0 l.1)

  ins_with : (p : InSlot) (front : List (List ℕ)) (c : Value) (o : Option (Holder × List ℕ)) → ins_in is_key (with_part rows p front c) o ≡ with_result rows p front (ins_in is_key c o)
  ins_with p front c None = refl
  ins_with p front c (Some l) = placed_with p front (key_fits is_key l.0 l.1) c (slot_to_insert l.0 l.1)

  kept_with : (p : InSlot) (front : List (List ℕ)) (c : Value) (o : Option No) → unless_kept (with_part rows p front c) o ≡ with_result rows p front (unless_kept c o)
  kept_with p front c None = refl
  kept_with p front c (Some refusal) = refl

  del_with : (p : InSlot) (front : List (List ℕ)) (c : Value) (o : Option (Holder × List ℕ)) → del_in (with_part rows p front c) o ≡ with_result rows p front (del_in c o)
  del_with p front c None = refl
  del_with p front c (Some l) = kept_with p front c (refusal_to_delete l.0 l.1)

  set_from : (p : InSlot) (w : Value) (us : List (List ℕ)) → Begins us → change rows is_key p (set_at us w) ≡ set_in is_key (changed_at rows (λ h t. set_part h t w) p us) (last_at rows p us)
  set_from p w us b = subst (λ vs. change rows is_key p (set_at vs w) ≡ set_in is_key (changed_at rows (λ h t. set_part h t w) p vs) (last_at rows p vs)) (sym b.is) refl

  ins_from : (p : InSlot) (w : Value) (us : List (List ℕ)) → Begins us → change rows is_key p (ins_at us w) ≡ ins_in is_key (changed_at rows (λ h t. insert_part h t w) p us) (last_at rows p us)
  ins_from p w us b = subst (λ vs. change rows is_key p (ins_at vs w) ≡ ins_in is_key (changed_at rows (λ h t. insert_part h t w) p vs) (last_at rows p vs)) (sym b.is) refl

  del_from : (p : InSlot) (us : List (List ℕ)) → Begins us → change rows is_key p (del_at us) ≡ del_in (changed_at rows delete_part p us) (last_at rows p us)
  del_from p us b = subst (λ vs. change rows is_key p (del_at vs) ≡ del_in (changed_at rows delete_part p vs) (last_at rows p vs)) (sym b.is) refl

  edits : (p q : InSlot) (e : Edit Value) (front : List (List ℕ)) (s : List ℕ) (ss : List (List ℕ)) → at rows p front ≡ Some q → path_of e ≡ s ∷ ss
      → change rows is_key p (moved (front ++ path_of e) e) ≡ with_result rows p front (change rows is_key q e)
  edits p q (set_at [] w) front s ss there h = absurd cc
  edits p q (set_at (a ∷ bs) w) front s ss there h =
      set_from p w (front ++ (a ∷ bs)) (begins front a bs)
      ∙ ap (set_in is_key (changed_at rows (λ h t. set_part h t w) p (front ++ (a ∷ bs)))) (last_split rows front p q a bs there)
      ∙ ap (λ c. set_in is_key c (last_holder rows q a bs)) (changed_split rows (λ h t. set_part h t w) front p q a bs there)
      ∙ set_with p front (changed_in rows (λ h t. set_part h t w) q a bs) (last_holder rows q a bs)
  edits p q (ins_at [] w) front s ss there h = absurd cc
  edits p q (ins_at (a ∷ bs) w) front s ss there h =
      ins_from p w (front ++ (a ∷ bs)) (begins front a bs)
      ∙ ap (ins_in is_key (changed_at rows (λ h t. insert_part h t w) p (front ++ (a ∷ bs)))) (last_split rows front p q a bs there)
      ∙ ap (λ c. ins_in is_key c (last_holder rows q a bs)) (changed_split rows (λ h t. insert_part h t w) front p q a bs there)
      ∙ ins_with p front (changed_in rows (λ h t. insert_part h t w) q a bs) (last_holder rows q a bs)
  edits p q (del_at []) front s ss there h = absurd cc
  edits p q (del_at (a ∷ bs)) front s ss there h =
      del_from p (front ++ (a ∷ bs)) (begins front a bs)
      ∙ ap (del_in (changed_at rows delete_part p (front ++ (a ∷ bs)))) (last_split rows front p q a bs there)
      ∙ ap (λ c. del_in c (last_holder rows q a bs)) (changed_split rows delete_part front p q a bs there)
      ∙ del_with p front (changed_in rows delete_part q a bs) (last_holder rows q a bs)

pub edits_split : EditsSplit
edits_split = λ rows is_key p q e front s ss there h. edits rows is_key p q e front s ss there h

-- ---- the segment at which an edit has no place

stops : (rows : List Row) (front : List (List ℕ)) (p q : InSlot) (us : List (List ℕ)) → at rows p front ≡ Some q → stopped rows p (front ++ us) ≡ stopped rows q us
stops rows [] p q us e = ap (λ r. stopped rows r us) (same_Some p q e)
stops rows (s ∷ ss) p q us e =
    let x = first_of_path rows p q s ss e in
    ap (λ o. option_map_or (λ r. stopped rows r (ss ++ us)) o (record { part = p; left = s ∷ (ss ++ us) })) x.there ∙ stops rows ss x.item q us x.made

left_step : (rows : List Row) (p : InSlot) (s : List ℕ) (ss : List (List ℕ)) (o : Option InSlot) → ((q : InSlot) → length (stopped rows q ss).left ≤ length ss)
    → length (option_map_or (λ q. stopped rows q ss) o (record { part = p; left = s ∷ ss })).left ≤ suc (length ss)
left_step rows p s ss None rest = omega arith
left_step rows p s ss (Some q) rest = let h = rest q in omega (arith, h)

left_short : (rows : List Row) (path : List (List ℕ)) (p : InSlot) → length (stopped rows p path).left ≤ length path
left_short rows [] p = omega arith
left_short rows (s ∷ ss) p = left_step rows p s ss (part (seen rows p) s) (λ q. left_short rows ss q)

fault_further : (n stop last : ℕ) (allows : Holder → List ℕ → Bool) (o : Option (Holder × List ℕ)) → fault_by (n + stop) (n + last) allows o ≡ option_map (λ k. n + k) (fault_by stop last allows o)
fault_further n stop last allows None = refl
fault_further n stop last allows (Some l) = by (allows l.0 l.1) refl where
  by : (b : Bool) → allows l.0 l.1 ≡ b → fault_by (n + stop) (n + last) allows (Some l) ≡ option_map (λ k. n + k) (fault_by stop last allows (Some l))
  by true e = rw e refl
  by false e = rw e refl

abbrev fault_at : List Row → InSlot → (Holder → List ℕ → Bool) → List (List ℕ) → Option ℕ
fault_at rows p allows [] = None
fault_at rows p allows (s ∷ ss) = fault_in rows p allows s ss

fault_from : (rows : List Row) (p : InSlot) (allows : Holder → List ℕ → Bool) (us : List (List ℕ)) → Begins us
    → fault_at rows p allows us ≡ fault_by (length us - length (stopped rows p us).left) (length us - 1) allows (last_at rows p us)
fault_from rows p allows us b = subst (λ vs. fault_at rows p allows vs ≡ fault_by (length vs - length (stopped rows p vs).left) (length vs - 1) allows (last_at rows p vs)) (sym b.is) (by b.first b.rest)
  where
    by : (s : List ℕ) (ss : List (List ℕ)) → fault_in rows p allows s ss ≡ fault_by (length (s ∷ ss) - length (stopped rows p (s ∷ ss)).left) (length (s ∷ ss) - 1) allows (last_holder rows p s ss)
    by s ss = let e : length ss ≡ length (s ∷ ss) - 1 = omega arith in ap (λ n. fault_by (length (s ∷ ss) - length (stopped rows p (s ∷ ss)).left) n allows (last_holder rows p s ss)) e

faults_at : (rows : List Row) (p q : InSlot) (allows : Holder → List ℕ → Bool) (front : List (List ℕ)) (s : List ℕ) (ss : List (List ℕ)) → at rows p front ≡ Some q
    → fault_at rows p allows (front ++ (s ∷ ss)) ≡ option_map (λ k. length front + k) (fault_in rows q allows s ss)
faults_at rows p q allows front s ss there =
    let us = front ++ (s ∷ ss) in
    let n = length-append front (s ∷ ss) in
    let st : stopped rows p us ≡ stopped rows q (s ∷ ss) = stops rows front p q (s ∷ ss) there in
    let le = left_short rows (s ∷ ss) q in
    let a : length us - length (stopped rows q (s ∷ ss)).left ≡ length front + (length (s ∷ ss) - length (stopped rows q (s ∷ ss)).left) = omega (arith, n, le) in
    let b : length us - 1 ≡ length front + length ss = omega (arith, n) in
    fault_from rows p allows us (begins front s ss)
    ∙ ap (λ (z : Stop). fault_by (length us - length z.left) (length us - 1) allows (last_at rows p us)) st
    ∙ (λ i. fault_by (a i) (b i) allows (last_split rows front p q s ss there i))
    ∙ fault_further (length front) (length (s ∷ ss) - length (stopped rows q (s ∷ ss)).left) (length ss) allows (last_holder rows q s ss)

place_set : {X : Type 0} (rows : List Row) (p : InSlot) (w : X) (us : List (List ℕ)) → Begins us → place_fault rows p (set_at us w) ≡ fault_at rows p (λ h t. is_some (slot_to_set h t)) us
place_set rows p w us b = subst (λ vs. place_fault rows p (set_at vs w) ≡ fault_at rows p (λ h t. is_some (slot_to_set h t)) vs) (sym b.is) refl

place_ins : {X : Type 0} (rows : List Row) (p : InSlot) (w : X) (us : List (List ℕ)) → Begins us → place_fault rows p (ins_at us w) ≡ fault_at rows p (λ h t. is_some (slot_to_insert h t)) us
place_ins rows p w us b = subst (λ vs. place_fault rows p (ins_at vs w) ≡ fault_at rows p (λ h t. is_some (slot_to_insert h t)) vs) (sym b.is) refl

place_del : (rows : List Row) (p : InSlot) (us : List (List ℕ)) → Begins us → place_fault {X = Value} rows p (del_at us) ≡ fault_at rows p (λ h t. may_delete (refusal_to_delete h t)) us
place_del rows p us b = subst (λ vs. place_fault {X = Value} rows p (del_at vs) ≡ fault_at rows p (λ h t. may_delete (refusal_to_delete h t)) vs) (sym b.is) refl

faults : (rows : List Row) (p q : InSlot) (e : Edit Value) (front : List (List ℕ)) (s : List ℕ) (ss : List (List ℕ)) → at rows p front ≡ Some q → path_of e ≡ s ∷ ss
    → place_fault rows p (moved (front ++ path_of e) e) ≡ option_map (λ k. length front + k) (place_fault rows q e)
faults rows p q (set_at [] w) front s ss there h = absurd cc
faults rows p q (set_at (a ∷ bs) w) front s ss there h = place_set rows p w (front ++ (a ∷ bs)) (begins front a bs) ∙ faults_at rows p q (λ h t. is_some (slot_to_set h t)) front a bs there
faults rows p q (ins_at [] w) front s ss there h = absurd cc
faults rows p q (ins_at (a ∷ bs) w) front s ss there h = place_ins rows p w (front ++ (a ∷ bs)) (begins front a bs) ∙ faults_at rows p q (λ h t. is_some (slot_to_insert h t)) front a bs there
faults rows p q (del_at []) front s ss there h = absurd cc
faults rows p q (del_at (a ∷ bs)) front s ss there h = place_del rows p (front ++ (a ∷ bs)) (begins front a bs) ∙ faults_at rows p q (λ h t. may_delete (refusal_to_delete h t)) front a bs there

pub faults_split : FaultsSplit
faults_split = λ rows p q e front s ss there h. faults rows p q e front s ss there h

-- ---- a part that is there can be set

field_settable : (s : List ℕ) (fs : List Field) (os : List (Option Value)) (q : InSlot) → field_at s fs os ≡ Some q → (slot : Slot) × (declared_slot s fs os ≡ Some slot)
field_settable s [] os q h = absurd (none-some q h)
field_settable s (f ∷ fs) [] q h = absurd (none-some q h)
field_settable s (f ∷ fs) (o ∷ os) q h = by (same_text s f.name) refl (λ g. field_settable s fs os q g) where
  by : (b : Bool) → same_text s f.name ≡ b → (field_at s fs os ≡ Some q → (slot : Slot) × (declared_slot s fs os ≡ Some slot)) → (slot : Slot) × (declared_slot s (f ∷ fs) (o ∷ os) ≡ Some slot)
  by true e rest = (f.slot, rw e refl)
  by false e rest = let x = rest (rw e at h) in (x.0, rw e x.1)

named_some : (s : List ℕ) (ms : List Member) (n : ℕ) (v : Value) (q : InSlot) → held_as s v (slice_get ms n) ≡ Some q → (p : ℕ × Member) × (member_named s ms ≡ Some p)
named_some s [] n v q h = absurd (none-some q h)
named_some s (m ∷ ms) n v q h = by (same_text s m.name) refl n h (λ k g. named_some s ms k v q g) where
  by : (b : Bool) → same_text s m.name ≡ b → (k : ℕ) → held_as s v (slice_get (m ∷ ms) k) ≡ Some q → ((j : ℕ) → held_as s v (slice_get ms j) ≡ Some q → (p : ℕ × Member) × (member_named s ms ≡ Some p))
      → (p : ℕ × Member) × (member_named s (m ∷ ms) ≡ Some p)
  by true e k g rest = ((0, m), rw e refl)
  by false e zero g rest = absurd (none-some q (rw e at g))
  by false e (suc k) g rest = let x = rest k g in (next_member x.0, rw e (ap (option_map next_member) x.1))

mapped_some : {X Y : Type 0} (f : X → Y) (g : X → Slot) (o : Option X) (y : Y) → option_map f o ≡ Some y → (slot : Slot) × (option_map g o ≡ Some slot)
mapped_some f g None y h = absurd (none-some y h)
mapped_some f g (Some x) y h = (g x, refl)

settable : (h : Holder) (s : List ℕ) (q : InSlot) → part h s ≡ Some q → (slot : Slot) × (slot_to_set h s ≡ Some slot)
settable (fields fs os) s q h = field_settable s fs os q h
settable (member ms n v) s q h = let x = named_some s ms n v q h in (plainly ((x.0).1).ty, ap (option_map (λ (p : ℕ × Member). plainly (p.1).ty)) x.1)
settable (entries key slot paired ps) s q h = (slot, refl)
settable (elements slot vs) s q h = mapped_some (λ v. (slot, v)) (λ v. slot) (option_and_then (λ i. slice_get vs i) (index_of s)) q h
settable (any_entries ms) s q h = (anything, refl)
settable (any_elements ds) s q h = mapped_some _ (λ d. anything) (option_and_then (λ i. slice_get ds i) (index_of s)) q h
settable (nothing v) s q h = absurd (none-some q h)

there_some : {V Y : Type 0} (f : V → Y) (o : Option V) (y : Y) → option_map f o ≡ Some y → is_some o ≡ true
there_some f None y h = absurd (none-some y h)
there_some f (Some v) y h = refl

fitting : (is_key : ℕ → List ℕ → Bool) (h : Holder) (s : List ℕ) (q : InSlot) → part h s ≡ Some q → key_fits is_key h s ≡ true
fitting is_key (fields fs os) s q h = refl
fitting is_key (member ms n v) s q h = refl
fitting is_key (entries key slot paired ps) s q h = ap (λ b. b || is_key key s) (there_some (λ v. (slot, v)) (value_at s ps) q h)
fitting is_key (elements slot vs) s q h = refl
fitting is_key (any_entries ms) s q h = refl
fitting is_key (any_elements ds) s q h = refl
fitting is_key (nothing v) s q h = refl

-- the last holder of a path has the part to which the path leads
pub record HasLast (rows : List Row) (p q : InSlot) (s : List ℕ) (ss : List (List ℕ)) : Type 0 where
  pub last : Holder × List ℕ
  pub is : last_holder rows p s ss ≡ Some last
  pub holds : part last.0 last.1 ≡ Some q

pub has_last : (rows : List Row) (ss : List (List ℕ)) (p q : InSlot) (s : List ℕ) → at rows p (s ∷ ss) ≡ Some q → HasLast rows p q s ss
has_last rows [] p q s e =
    let x = first_of_path rows p q s [] e in
    record { last = (seen rows p, s); is = refl; holds = x.there ∙ x.made }
has_last rows (t ∷ ts) p q s e =
    let x = first_of_path rows p q s (t ∷ ts) e in
    let l = has_last rows ts x.item q t x.made in
    record { last = l.last; is = ap (λ o. option_and_then (λ r. last_holder rows r t ts) o) x.there ∙ l.is; holds = l.holds }

pub changed_with : (rows : List Row) (ss : List (List ℕ)) (p q : InSlot) (s : List ℕ) (m : Value) → at rows p (s ∷ ss) ≡ Some q → changed_in rows (λ h t. set_part h t m) p s ss ≡ with_part rows p (s ∷ ss) m
changed_with rows [] p q s m e =
    let x = first_of_path rows p q s [] e in
    sym (ap (λ o. option_map_or (λ r. value_of (set_part (seen rows p) s m)) o p.1) x.there)
changed_with rows (t ∷ ts) p q s m e =
    let x = first_of_path rows p q s (t ∷ ts) e in
    ap (λ o. option_map_or (λ r. value_of (set_part (seen rows p) s (changed_in rows (λ h t. set_part h t m) r t ts))) o p.1) x.there
    ∙ ap (λ c. value_of (set_part (seen rows p) s c)) (changed_with rows ts x.item q t m x.made)
    ∙ sym (ap (λ o. option_map_or (λ r. value_of (set_part (seen rows p) s (with_part rows r (t ∷ ts) m))) o p.1) x.there)

sets : (rows : List Row) (is_key : ℕ → List ℕ → Bool) (path : List (List ℕ)) (p q : InSlot) (m : Value) → at rows p path ≡ Some q → change rows is_key p (set_at path m) ≡ Ok (with_part rows p path m)
sets rows is_key [] p q m e = refl
sets rows is_key (s ∷ ss) p q m e =
    let l = has_last rows ss p q s e in
    let slot = settable l.last.0 l.last.1 q l.holds in
    ap (set_in is_key (changed_in rows (λ h t. set_part h t m) p s ss)) l.is
    ∙ ap (placed (key_fits is_key l.last.0 l.last.1) (changed_in rows (λ h t. set_part h t m) p s ss)) slot.1
    ∙ ap (λ b. placed b (changed_in rows (λ h t. set_part h t m) p s ss) (Some slot.0)) (fitting is_key l.last.0 l.last.1 q l.holds)
    ∙ ap (λ c. Ok c) (changed_with rows ss p q s m e)

pub parts_are_set : PartsAreSet
parts_are_set = λ rows is_key p q path m e. sets rows is_key path p q m e
