-- Entries, fields, members and elements where one of them is set.
use Rattle.std.proofs.Common.{cond, ◌≡◌, ◌≢◌, ℕ, zero, suc, List, [], ◌∷◌, slice_get, Bool, true, false, Option, Some, None, refl, ap, sym, ◌∙◌}
use Rattle.std.specs.Prelude.{slice_set, option_map}
use Rattle.std.specs.Cmp.Lexicographic.{same_text as text_same}
use Rattle.std.proofs.lemmas.Option.{same_Some, none-some}
use Rattle.ild_data.specs.Key.{same_text, value_at}
use Rattle.ild_schema.specs.declared.def.Field.{Field}
use Rattle.ild_schema.specs.declared.def.Member.{Member}
use Rattle.ild_schema.specs.declared.number.Slot.{Slot}
use Rattle.ild_schema.specs.Value.{Value}
use Rattle.ild_schema.specs.Slots.{plainly}
use Rattle.ild_typed.specs.Segment.{put_last, put_by, set_field, field_at, held_as}
use Rattle.ild_splice_changes.proofs.Maps.{own_text, other_is, put-there, put-other}
use Rattle.ild_value_meaning.proofs.Members.{IsNamed}
use Rattle.ild_path_edits.specs.Table.{declared_slot}

-- the value that was put is at its key
last_there : {V : Type 0} (k : List ℕ) (v : V) (m : List ℕ × V) (ms : List (List ℕ × V)) (b : Bool) → same_text k m.0 ≡ b → value_at k (put_last k v ms) ≡ Some v
    → value_at k (cond b ((k, v) ∷ ms) (m ∷ put_last k v ms)) ≡ Some v
last_there k v m ms true e h = rw (own_text k) refl
last_there k v m ms false e h = rw e h

pub put_last-there : {V : Type 0} (k : List ℕ) (v : V) (ms : List (List ℕ × V)) → value_at k (put_last k v ms) ≡ Some v
put_last-there k v [] = rw (own_text k) refl
put_last-there k v (m ∷ ms) = last_there k v m ms (same_text k m.0) refl (put_last-there k v ms)

pub put_by-there : {V : Type 0} (b : Bool) (k : List ℕ) (v : V) (ms : List (List ℕ × V)) → value_at k (put_by b k v ms) ≡ Some v
put_by-there true k v ms = put_last-there k v ms
put_by-there false k v ms = put-there k v ms

-- and what is at another key stays
last_other : {V : Type 0} (k l : List ℕ) (v : V) (m : List ℕ × V) (ms : List (List ℕ × V)) (b : Bool) → b ≡ same_text k m.0 → k ≢ l → value_at l (put_last k v ms) ≡ value_at l ms
    → value_at l (cond b ((k, v) ∷ ms) (m ∷ put_last k v ms)) ≡ value_at l (m ∷ ms)
last_other k l v m ms true e apart h =
    let a : same_text l k ≡ false = other_is l k (λ p. apart (sym p)) in
    let b : same_text l m.0 ≡ false = other_is l m.0 (λ p. apart (text_same k m.0 e ∙ sym p)) in
    rw (a, b) refl
last_other k l v m ms false e apart h = ap (λ o. cond (same_text l m.0) (Some m.1) o) h

pub put_last-other : {V : Type 0} (k l : List ℕ) (v : V) (ms : List (List ℕ × V)) → k ≢ l → value_at l (put_last k v ms) ≡ value_at l ms
put_last-other k l v [] apart = rw (other_is l k (λ p. apart (sym p))) refl
put_last-other k l v (m ∷ ms) apart = last_other k l v m ms (same_text k m.0) refl apart (put_last-other k l v ms apart)

pub put_by-other : {V : Type 0} (b : Bool) (k l : List ℕ) (v : V) (ms : List (List ℕ × V)) → k ≢ l → value_at l (put_by b k v ms) ≡ value_at l ms
put_by-other true k l v ms apart = put_last-other k l v ms apart
put_by-other false k l v ms apart = put-other k l v ms apart

-- a field that is set is there, and the others stay
field_there_at : (k : List ℕ) (w : Value) (f : Field) (fs : List Field) (o : Option Value) (os : List (Option Value)) (slot : Slot) (b : Bool) → same_text k f.name ≡ b
    → cond b (Some f.slot) (declared_slot k fs os) ≡ Some slot → (declared_slot k fs os ≡ Some slot → field_at k fs (set_field k (Some w) fs os) ≡ Some (slot, w))
    → field_at k (f ∷ fs) (cond b (Some w ∷ os) (o ∷ set_field k (Some w) fs os)) ≡ Some (slot, w)
field_there_at k w f fs o os slot true e h rest = rw e (ap (λ s. Some (s, w)) (same_Some f.slot slot h))
field_there_at k w f fs o os slot false e h rest = rw e (rest h)

pub field-there : (k : List ℕ) (w : Value) (fs : List Field) (os : List (Option Value)) (slot : Slot) → declared_slot k fs os ≡ Some slot → field_at k fs (set_field k (Some w) fs os) ≡ Some (slot, w)
field-there k w [] os slot h = absurd (none-some slot h)
field-there k w (f ∷ fs) [] slot h = absurd (none-some slot h)
field-there k w (f ∷ fs) (o ∷ os) slot h = field_there_at k w f fs o os slot (same_text k f.name) refl h (λ g. field-there k w fs os slot g)

field_other_at : (k l : List ℕ) (w : Option Value) (f : Field) (fs : List Field) (o : Option Value) (os : List (Option Value)) (b : Bool) → b ≡ same_text k f.name → k ≢ l
    → field_at l fs (set_field k w fs os) ≡ field_at l fs os
    → field_at l (f ∷ fs) (cond b (w ∷ os) (o ∷ set_field k w fs os)) ≡ field_at l (f ∷ fs) (o ∷ os)
field_other_at k l w f fs o os true e apart rest =
    let b : same_text l f.name ≡ false = other_is l f.name (λ p. apart (text_same k f.name e ∙ sym p)) in
    rw b refl
field_other_at k l w f fs o os false e apart rest = ap (λ r. cond (same_text l f.name) (option_map (λ v. (f.slot, v)) o) r) rest

pub field-other : (k l : List ℕ) (w : Option Value) (fs : List Field) (os : List (Option Value)) → k ≢ l → field_at l fs (set_field k w fs os) ≡ field_at l fs os
field-other k l w [] os apart = refl
field-other k l w (f ∷ fs) [] apart = refl
field-other k l w (f ∷ fs) (o ∷ os) apart = field_other_at k l w f fs o os (same_text k f.name) refl apart (field-other k l w fs os apart)

pub held-named : (k : List ℕ) (ms : List Member) (p : ℕ × Member) (w : Value) → IsNamed k ms p → held_as k w (slice_get ms p.0) ≡ Some (plainly (p.1).ty, w)
held-named k ms p w n = rw (n.placed, n.named) refl

-- a member that is held under one name isn't under another
pub held-other : (k l : List ℕ) (v : Value) (o : Option Member) (q : Slot × Value) → held_as k v o ≡ Some q → k ≢ l → held_as l v o ≡ None
held-other k l v None q h apart = absurd (none-some q h)
held-other k l v (Some m) q h apart = by (same_text k m.name) refl h
  where
    by : (b : Bool) → b ≡ same_text k m.name → cond b (Some (plainly m.ty, v)) None ≡ Some q → held_as l v (Some m) ≡ None
    by true e g = rw (other_is l m.name (λ p. apart (text_same k m.name e ∙ sym p))) refl
    by false e g = absurd (none-some q g)

-- elements
pub set-there : {X : Type 0} (xs : List X) (i : ℕ) (x w : X) → slice_get xs i ≡ Some x → slice_get (slice_set xs i w) i ≡ Some w
set-there [] i x w h = absurd (none-some x h)
set-there (y ∷ ys) zero x w h = refl
set-there (y ∷ ys) (suc i) x w h = set-there ys i x w h

pub set-elsewhere : {X : Type 0} (xs : List X) (i j : ℕ) (w : X) → i ≢ j → slice_get (slice_set xs i w) j ≡ slice_get xs j
set-elsewhere [] i j w apart = refl
set-elsewhere (y ∷ ys) zero zero w apart = absurd (apart refl)
set-elsewhere (y ∷ ys) zero (suc j) w apart = refl
set-elsewhere (y ∷ ys) (suc i) zero w apart = refl
set-elsewhere (y ∷ ys) (suc i) (suc j) w apart = set-elsewhere ys i j w (λ p. apart (ap (λ n. suc n) p))
