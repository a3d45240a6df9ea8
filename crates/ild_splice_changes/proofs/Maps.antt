-- Entries under rising keys are told by what is at each key.
use Rattle.std.proofs.Common.{cond, ◌≡◌, ◌≢◌, ℕ, List, [], ◌∷◌, Bool, true, false, Some, None, refl, ap, sym, subst, ◌∙◌}
use Rattle.std.specs.Ordering.{match_ordering, ordering_reverse}
use Rattle.std.specs.Cmp.Lexicographic.{same_text as text_same}
use Rattle.std.specs.declared.cmp.Ordering.{Ordering}
use Rattle.std.specs.declared.cmp.Ordering.TheVariants.{Less, Equal, Greater}
use Rattle.std.proofs.lemmas.Option.{same_Some, none-some}
use Rattle.ild_data.specs.Key.{key_cmp, same_text, put, value_at, without, IsBelow, Rises}
use Rattle.ild_data.proofs.Rising.{differs, agrees, key_exact, key_equal, key_cmp_total}
use Rattle.ild_splice_changes.specs.TreeChange.{replaced_at}

-- a text is the text that it is, and no other
pub own_text : (k : List ℕ) → same_text k k ≡ true
own_text k = agrees k k (same_text k k) refl (key_equal k)

pub other_is : (k l : List ℕ) → k ≢ l → same_text k l ≡ false
other_is k l apart = by (same_text k l) refl
  where
    by : (b : Bool) → b ≡ same_text k l → same_text k l ≡ false
    by true e = absurd (apart (text_same k l e))
    by false e = sym e

-- what was put is there, and what is at another key stays
put_there_at : {V : Type 0} (k : List ℕ) (v : V) (m : List ℕ × V) (ms : List (List ℕ × V)) (o : Ordering) → key_cmp k m.0 ≡ o → value_at k (put k v ms) ≡ Some v
    → value_at k (match_ordering o ((k, v) ∷ m ∷ ms) ((k, v) ∷ ms) (m ∷ put k v ms)) ≡ Some v
put_there_at k v m ms Less e h = rw (own_text k) refl
put_there_at k v m ms Equal e h = rw (own_text k) refl
put_there_at k v m ms Greater e h = rw (differs k m.0 (same_text k m.0) Greater refl e (λ p. absurd cc)) h

pub put-there : {V : Type 0} (k : List ℕ) (v : V) (ms : List (List ℕ × V)) → value_at k (put k v ms) ≡ Some v
put-there k v [] = rw (own_text k) refl
put-there k v (m ∷ ms) = put_there_at k v m ms (key_cmp k m.0) refl (put-there k v ms)

put_other_at : {V : Type 0} (k l : List ℕ) (v : V) (m : List ℕ × V) (ms : List (List ℕ × V)) (o : Ordering) → key_cmp k m.0 ≡ o → k ≢ l → value_at l (put k v ms) ≡ value_at l ms
    → value_at l (match_ordering o ((k, v) ∷ m ∷ ms) ((k, v) ∷ ms) (m ∷ put k v ms)) ≡ value_at l (m ∷ ms)
put_other_at k l v m ms Less e apart h = rw (other_is l k (λ p. apart (sym p))) refl
put_other_at k l v m ms Equal e apart h =
    let a : same_text l k ≡ false = other_is l k (λ p. apart (sym p)) in
    let b : same_text l m.0 ≡ false = other_is l m.0 (λ p. apart (key_exact k m.0 e ∙ sym p)) in
    rw (a, b) refl
put_other_at k l v m ms Greater e apart h = ap (λ o. cond (same_text l m.0) (Some m.1) o) h

pub put-other : {V : Type 0} (k l : List ℕ) (v : V) (ms : List (List ℕ × V)) → k ≢ l → value_at l (put k v ms) ≡ value_at l ms
put-other k l v [] apart = rw (other_is l k (λ p. apart (sym p))) refl
put-other k l v (m ∷ ms) apart = put_other_at k l v m ms (key_cmp k m.0) refl apart (put-other k l v ms apart)

-- a key below all is not there
pub below_trans : {V : Type 0} (k l : List ℕ) (ms : List (List ℕ × V)) → key_cmp k l ≡ Less → IsBelow l ms → IsBelow k ms
below_trans k l [] less below = tt
below_trans k l (m ∷ ms) less below = key_cmp_total.trans k l m.0 less below

pub below_absent : {V : Type 0} (k : List ℕ) (ms : List (List ℕ × V)) → IsBelow k ms → Rises ms → value_at k ms ≡ None
below_absent k [] below up = refl
below_absent k (m ∷ ms) below up =
    rw (differs k m.0 (same_text k m.0) Less refl below (λ p. absurd cc)) (below_absent k ms (below_trans k m.0 ms below up.0) up.1)

-- an entry that goes is gone, and the others stay
gone_at : {V : Type 0} (k : List ℕ) (m : List ℕ × V) (ms : List (List ℕ × V)) (b : Bool) → b ≡ same_text k m.0 → Rises (m ∷ ms) → value_at k (without k ms) ≡ None
    → value_at k (cond b ms (m ∷ without k ms)) ≡ None
gone_at k m ms true e up h = subst (λ j. value_at j ms ≡ None) (sym (text_same k m.0 e)) (below_absent m.0 ms up.0 up.1)
gone_at k m ms false e up h = rw (sym e) h

pub without-gone : {V : Type 0} (k : List ℕ) (ms : List (List ℕ × V)) → Rises ms → value_at k (without k ms) ≡ None
without-gone k [] up = refl
without-gone k (m ∷ ms) up = gone_at k m ms (same_text k m.0) refl up (without-gone k ms up.1)

stays_at : {V : Type 0} (k l : List ℕ) (m : List ℕ × V) (ms : List (List ℕ × V)) (b : Bool) → b ≡ same_text k m.0 → k ≢ l → value_at l (without k ms) ≡ value_at l ms
    → value_at l (cond b ms (m ∷ without k ms)) ≡ value_at l (m ∷ ms)
stays_at k l m ms true e apart h = rw (other_is l m.0 (λ p. apart (text_same k m.0 e ∙ sym p))) refl
stays_at k l m ms false e apart h = ap (λ o. cond (same_text l m.0) (Some m.1) o) h

pub without-other : {V : Type 0} (k l : List ℕ) (ms : List (List ℕ × V)) → k ≢ l → value_at l (without k ms) ≡ value_at l ms
without-other k l [] apart = refl
without-other k l (m ∷ ms) apart = stays_at k l m ms (same_text k m.0) refl apart (without-other k l ms apart)

-- a value that is replaced is there, and the others stay
replaced_there_at : {V : Type 0} (k : List ℕ) (u v : V) (m : List ℕ × V) (ms : List (List ℕ × V)) (b : Bool) → same_text k m.0 ≡ b → cond b (Some m.1) (value_at k ms) ≡ Some u
    → (value_at k ms ≡ Some u → value_at k (replaced_at k v ms) ≡ Some v) → value_at k (cond b ((m.0, v) ∷ ms) (m ∷ replaced_at k v ms)) ≡ Some v
replaced_there_at k u v m ms true e h rest = rw e refl
replaced_there_at k u v m ms false e h rest = rw e (rest h)

pub replaced-there : {V : Type 0} (k : List ℕ) (u v : V) (ms : List (List ℕ × V)) → value_at k ms ≡ Some u → value_at k (replaced_at k v ms) ≡ Some v
replaced-there k u v [] h = absurd (none-some u h)
replaced-there k u v (m ∷ ms) h = replaced_there_at k u v m ms (same_text k m.0) refl h (λ g. replaced-there k u v ms g)

replaced_other_at : {V : Type 0} (k l : List ℕ) (v : V) (m : List ℕ × V) (ms : List (List ℕ × V)) (b : Bool) → b ≡ same_text k m.0 → k ≢ l → value_at l (replaced_at k v ms) ≡ value_at l ms
    → value_at l (cond b ((m.0, v) ∷ ms) (m ∷ replaced_at k v ms)) ≡ value_at l (m ∷ ms)
replaced_other_at k l v m ms true e apart h =
    let a : same_text l m.0 ≡ false = other_is l m.0 (λ p. apart (text_same k m.0 e ∙ sym p)) in
    rw a refl
replaced_other_at k l v m ms false e apart h = ap (λ o. cond (same_text l m.0) (Some m.1) o) h

pub replaced-other : {V : Type 0} (k l : List ℕ) (v : V) (ms : List (List ℕ × V)) → k ≢ l → value_at l (replaced_at k v ms) ≡ value_at l ms
replaced-other k l v [] apart = refl
replaced-other k l v (m ∷ ms) apart = replaced_other_at k l v m ms (same_text k m.0) refl apart (replaced-other k l v ms apart)

below_replaced_at : {V : Type 0} (x : List ℕ) (v : V) (k : List ℕ) (m : List ℕ × V) (ms : List (List ℕ × V)) (b : Bool) → key_cmp x m.0 ≡ Less → IsBelow x (cond b ((m.0, v) ∷ ms) (m ∷ replaced_at k v ms))
below_replaced_at x v k m ms true less = less
below_replaced_at x v k m ms false less = less

below_replaced : {V : Type 0} (x k : List ℕ) (v : V) (ms : List (List ℕ × V)) → IsBelow x ms → IsBelow x (replaced_at k v ms)
below_replaced x k v [] below = tt
below_replaced x k v (m ∷ ms) below = below_replaced_at x v k m ms (same_text k m.0) below

rises_replaced_at : {V : Type 0} (k : List ℕ) (v : V) (m : List ℕ × V) (ms : List (List ℕ × V)) (b : Bool) → Rises (m ∷ ms) → Rises (replaced_at k v ms) → Rises (cond b ((m.0, v) ∷ ms) (m ∷ replaced_at k v ms))
rises_replaced_at k v m ms true up rest = up
rises_replaced_at k v m ms false up rest = (below_replaced m.0 k v ms up.0, rest)

pub rises_replaced : {V : Type 0} (k : List ℕ) (v : V) (ms : List (List ℕ × V)) → Rises ms → Rises (replaced_at k v ms)
rises_replaced k v [] up = tt
rises_replaced k v (m ∷ ms) up = rises_replaced_at k v m ms (same_text k m.0) up (rises_replaced k v ms up.1)

-- Rising entries with the same at each key are the same.
first_at : {V : Type 0} (x : List ℕ × V) (xs : List (List ℕ × V)) → value_at x.0 (x ∷ xs) ≡ Some x.1
first_at x xs = rw (own_text x.0) refl

behind_by : {V : Type 0} (x y : List ℕ × V) (xs ys : List (List ℕ × V)) (k : List ℕ) (b : Bool) → b ≡ same_text k x.0 → x.0 ≡ y.0 → Rises (x ∷ xs) → Rises (y ∷ ys)
    → value_at k (x ∷ xs) ≡ value_at k (y ∷ ys) → value_at k xs ≡ value_at k ys
behind_by x y xs ys k true e same up vp h =
    let p = text_same k x.0 e in
    subst (λ j. value_at j xs ≡ None) (sym p) (below_absent x.0 xs up.0 up.1) ∙ sym (subst (λ j. value_at j ys ≡ None) (sym (p ∙ same)) (below_absent y.0 ys vp.0 vp.1))
behind_by x y xs ys k false e same up vp h =
    let a : same_text k x.0 ≡ false = sym e in
    let b : same_text k y.0 ≡ false = ap (same_text k) (sym same) ∙ a in
    sym (ap (λ c. cond c (Some x.1) (value_at k xs)) a) ∙ h ∙ ap (λ c. cond c (Some y.1) (value_at k ys)) b

mutual_same : {V : Type 0} (x y : List ℕ × V) (xs ys : List (List ℕ × V)) (o : Ordering) → key_cmp x.0 y.0 ≡ o → Rises (x ∷ xs) → Rises (y ∷ ys)
    → ((k : List ℕ) → value_at k (x ∷ xs) ≡ value_at k (y ∷ ys)) → (((k : List ℕ) → value_at k xs ≡ value_at k ys) → xs ≡ ys) → x ∷ xs ≡ y ∷ ys
mutual_same x y xs ys Less e up vp h rest =
    absurd (none-some x.1 (sym (below_absent x.0 (y ∷ ys) e vp) ∙ sym (h x.0) ∙ first_at x xs))
mutual_same x y xs ys Greater e up vp h rest =
    absurd (none-some y.1 (sym (below_absent y.0 (x ∷ xs) (key_cmp_total.antisymm y.0 x.0 ∙ ap ordering_reverse e) up) ∙ h y.0 ∙ first_at y ys))
mutual_same x y xs ys Equal e up vp h rest =
    let p : x.0 ≡ y.0 = key_exact x.0 y.0 e in
    let q : x.1 ≡ y.1 = same_Some x.1 y.1 (sym (first_at x xs) ∙ h x.0 ∙ ap (λ j. value_at j (y ∷ ys)) p ∙ first_at y ys) in
    let r : xs ≡ ys = rest (λ k. behind_by x y xs ys k (same_text k x.0) refl p up vp (h k)) in
    λ i. (p i, q i) ∷ r i

pub same_entries : {V : Type 0} (xs ys : List (List ℕ × V)) → Rises xs → Rises ys → ((k : List ℕ) → value_at k xs ≡ value_at k ys) → xs ≡ ys
same_entries [] [] up vp h = refl
same_entries [] (y ∷ ys) up vp h = absurd (none-some y.1 (h y.0 ∙ first_at y ys))
same_entries (x ∷ xs) [] up vp h = absurd (none-some x.1 (sym (h x.0) ∙ first_at x xs))
same_entries (x ∷ xs) (y ∷ ys) up vp h = mutual_same x y xs ys (key_cmp x.0 y.0) refl up vp h (λ g. same_entries xs ys up.1 vp.1 g)

-- by cases on whether a key is this one
pub by_key : {A : Type 0} (k l : List ℕ) → (k ≡ l → A) → (k ≢ l → A) → A
by_key {A = A} k l same apart = by (same_text k l) refl
  where
    by : (b : Bool) → b ≡ same_text k l → A
    by true e = same (text_same k l e)
    by false e = apart (λ p. differ (e ∙ (ap (same_text k) (sym p) ∙ own_text k)))
      where
        differ : false ≡ true → ⊥
        differ h = absurd cc

-- an entry that is there is put by replacing its value
pub put-replaces : {V : Type 0} (k : List ℕ) (u v : V) (ms : List (List ℕ × V)) → Rises ms → Rises (put k v ms) → value_at k ms ≡ Some u → put k v ms ≡ replaced_at k v ms
put-replaces k u v ms up vp h = same_entries (put k v ms) (replaced_at k v ms) vp (rises_replaced k v ms up) (λ l. by_key k l
    (λ p. subst (λ j. value_at j (put k v ms) ≡ value_at j (replaced_at k v ms)) p (put-there k v ms ∙ sym (replaced-there k u v ms h)))
    (λ a. put-other k l v ms a ∙ sym (replaced-other k l v ms a)))

-- changes at two keys in either order
pub put-put : {V : Type 0} (j k : List ℕ) (v w : V) (ms : List (List ℕ × V)) → j ≢ k → Rises (put j v (put k w ms)) → Rises (put k w (put j v ms))
    → put j v (put k w ms) ≡ put k w (put j v ms)
put-put j k v w ms apart up vp = same_entries _ _ up vp (λ l. by_key j l
    (λ p. subst (λ i. value_at i (put j v (put k w ms)) ≡ value_at i (put k w (put j v ms))) p
    (put-there j v (put k w ms) ∙ sym (put-other k j w (put j v ms) (λ q. apart (sym q)) ∙ put-there j v ms)))
    (λ a. put-other j l v (put k w ms) a ∙ by_key k l
    (λ p. subst (λ i. value_at i (put k w ms) ≡ value_at i (put k w (put j v ms))) p (put-there k w ms ∙ sym (put-there k w (put j v ms))))
    (λ b. put-other k l w ms b ∙ sym (put-other k l w (put j v ms) b ∙ put-other j l v ms a))))

pub without-put : {V : Type 0} (j k : List ℕ) (w : V) (ms : List (List ℕ × V)) → j ≢ k → Rises ms → Rises (without j (put k w ms)) → Rises (put k w (without j ms)) → Rises (put k w ms)
    → without j (put k w ms) ≡ put k w (without j ms)
without-put j k w ms apart up vp wp xp = same_entries _ _ vp wp (λ l. by_key j l
    (λ p. subst (λ i. value_at i (without j (put k w ms)) ≡ value_at i (put k w (without j ms))) p
    (without-gone j (put k w ms) xp ∙ sym (put-other k j w (without j ms) (λ q. apart (sym q)) ∙ without-gone j ms up)))
    (λ a. without-other j l (put k w ms) a ∙ by_key k l
    (λ p. subst (λ i. value_at i (put k w ms) ≡ value_at i (put k w (without j ms))) p (put-there k w ms ∙ sym (put-there k w (without j ms))))
    (λ b. put-other k l w ms b ∙ sym (put-other k l w (without j ms) b ∙ without-other j l ms a))))

pub replaced-put : {V : Type 0} (j k : List ℕ) (u v w : V) (ms : List (List ℕ × V)) → j ≢ k → value_at j ms ≡ Some u → Rises (replaced_at j v (put k w ms)) → Rises (put k w (replaced_at j v ms))
    → replaced_at j v (put k w ms) ≡ put k w (replaced_at j v ms)
replaced-put j k u v w ms apart h up vp = same_entries _ _ up vp (λ l. by_key j l
    (λ p. subst (λ i. value_at i (replaced_at j v (put k w ms)) ≡ value_at i (put k w (replaced_at j v ms))) p
    (replaced-there j u v (put k w ms) (put-other k j w ms (λ q. apart (sym q)) ∙ h) ∙ sym (put-other k j w (replaced_at j v ms) (λ q. apart (sym q)) ∙ replaced-there j u v ms h)))
    (λ a. replaced-other j l v (put k w ms) a ∙ by_key k l
    (λ p. subst (λ i. value_at i (put k w ms) ≡ value_at i (put k w (replaced_at j v ms))) p (put-there k w ms ∙ sym (put-there k w (replaced_at j v ms))))
    (λ b. put-other k l w ms b ∙ sym (put-other k l w (replaced_at j v ms) b ∙ replaced-other j l v ms a))))
