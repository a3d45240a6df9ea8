-- Pairs under rising keys are known by their look-ups.
use Rattle.std.proofs.Common.{◌≡◌, ℕ, List, [], ◌∷◌, ◌++◌, Bool, true, false, cond, Option, Some, None, refl, sym, ◌∙◌, ap}
use Rattle.std.specs.Cmp.Lexicographic.{same_text as text_same, other_text}
use Rattle.std.specs.Ordering.{ordering_reverse}
use Rattle.std.specs.Option.{option_or}
use Rattle.std.specs.declared.cmp.Ordering.{Ordering}
use Rattle.std.specs.declared.cmp.Ordering.TheVariants.{Less, Equal, Greater}
use Rattle.std.proofs.lemmas.Option.{same_Some, none-some}
use Rattle.ild_data.specs.Data.{Data}
use Rattle.ild_data.specs.Key.{key_cmp, same_text, value_at, without, IsBelow, Rises}
use Rattle.ild_data.proofs.Rising.{key_cmp_total, key_exact, key_equal, rises_put}
use Rattle.ild_typed.specs.Strings.{in_key_order}
use Rattle.ild_typed.proofs.Entries.{swap, same_text_self}

pub rises_sorted : (ps : List (List ℕ × Data)) → Rises (in_key_order ps)
rises_sorted [] = tt
rises_sorted (p ∷ ps) = rises_put p.0 p.1 (in_key_order ps) (rises_sorted ps)

pub not_itself : (k l : List ℕ) → key_cmp k l ≡ Less → k ≡ l → ⊥
not_itself k l less same = let h : Equal ≡ Less = sym (key_equal k) ∙ ap (key_cmp k) same ∙ less in absurd cc

module _ {V : Type 0} where
  below_behind : (k : List ℕ) (m : List ℕ × V) (ms : List (List ℕ × V)) → key_cmp k m.0 ≡ Less → IsBelow m.0 ms → IsBelow k ms
  below_behind k m [] less below = tt
  below_behind k m (n ∷ ms) less below = key_cmp_total.trans k m.0 n.0 less below

  -- a key below all is not there
  pub below_none : (k : List ℕ) (ms : List (List ℕ × V)) → IsBelow k ms → Rises ms → value_at k ms ≡ None
  below_none k [] below up = refl
  below_none k (m ∷ ms) below up = by (same_text k m.0) refl (below_none k ms (below_behind k m ms below up.0) up.1) where
    by : (b : Bool) → b ≡ same_text k m.0 → value_at k ms ≡ None → cond b (Some m.1) (value_at k ms) ≡ None
    by true is rest = absurd (not_itself k m.0 below (text_same k m.0 is))
    by false is rest = rest

  pub first_there : (m : List ℕ × V) (ms : List (List ℕ × V)) → value_at m.0 (m ∷ ms) ≡ Some m.1
  first_there m ms = ap (λ b. cond b (Some m.1) (value_at m.0 ms)) (same_text_self m.0)

  missing : (x : List ℕ × V) (xs ys : List (List ℕ × V)) → value_at x.0 (x ∷ xs) ≡ value_at x.0 ys → value_at x.0 ys ≡ None → ⊥
  missing x xs ys same none = none-some x.1 (sym none ∙ sym same ∙ first_there x xs)

  tails : (x y : List ℕ × V) (xs ys : List (List ℕ × V)) → x.0 ≡ y.0 → value_at x.0 xs ≡ None → value_at y.0 ys ≡ None
      → ((q : List ℕ) → value_at q (x ∷ xs) ≡ value_at q (y ∷ ys)) → (q : List ℕ) → value_at q xs ≡ value_at q ys
  tails x y xs ys key x_none y_none same q = by (same_text q x.0) (same_text q y.0) refl refl (same q) where
    by : (a b : Bool) → a ≡ same_text q x.0 → b ≡ same_text q y.0 → cond a (Some x.1) (value_at q xs) ≡ cond b (Some y.1) (value_at q ys) → value_at q xs ≡ value_at q ys
    by true b is also e =
        let k = text_same q x.0 is in
        ap (λ r. value_at r xs) k ∙ x_none ∙ sym y_none ∙ ap (λ r. value_at r ys) (sym key ∙ sym k)
    by false true is also e = absurd (other_text q x.0 is (text_same q y.0 also ∙ sym key))
    by false false is also e = e

  pub rising_same : (xs ys : List (List ℕ × V)) → Rises xs → Rises ys → ((q : List ℕ) → value_at q xs ≡ value_at q ys) → xs ≡ ys
  rising_same [] [] a b same = refl
  rising_same [] (y ∷ ys) a b same = absurd (none-some y.1 (same y.0 ∙ first_there y ys))
  rising_same (x ∷ xs) [] a b same = absurd (none-some x.1 (sym (same x.0) ∙ first_there x xs))
  rising_same (x ∷ xs) (y ∷ ys) a b same =
      by (key_cmp x.0 y.0) refl (λ key. rising_same xs ys a.1 b.1 (tails x y xs ys key (below_none x.0 xs a.0 a.1) (below_none y.0 ys b.0 b.1) same))
    where
      by : (o : Ordering) → key_cmp x.0 y.0 ≡ o → (x.0 ≡ y.0 → xs ≡ ys) → x ∷ xs ≡ y ∷ ys
      by Less is rest = absurd (missing x xs (y ∷ ys) (same x.0) (below_none x.0 (y ∷ ys) is b))
      by Greater is rest =
          absurd (missing y ys (x ∷ xs) (sym (same y.0)) (below_none y.0 (x ∷ xs) (key_cmp_total.antisymm y.0 x.0 ∙ ap ordering_reverse is) a))
      by Equal is rest =
          let key = key_exact x.0 y.0 is in
          let there : Some x.1 ≡ Some y.1 = sym (first_there x xs) ∙ same x.0 ∙ ap (λ q. value_at q (y ∷ ys)) key ∙ first_there y ys in
          let value = same_Some x.1 y.1 there in
          λ i. (key i, value i) ∷ rest key i

  nothing : (b : Bool) (o : Option V) → o ≡ None → o ≡ cond b None o
  nothing true o e = e
  nothing false o e = refl

  -- what is left where a key is taken away
  pub value_without : (q k : List ℕ) (ms : List (List ℕ × V)) → Rises ms → value_at q (without k ms) ≡ cond (same_text q k) None (value_at q ms)
  value_without q k [] up = nothing (same_text q k) None refl
  value_without q k (m ∷ ms) up = by (same_text k m.0) refl (value_without q k ms up.1) where
    taken : (a b : Bool) → a ≡ same_text q k → b ≡ same_text q m.0 → k ≡ m.0 → value_at q ms ≡ cond a None (cond b (Some m.1) (value_at q ms))
    taken true b is also key = ap (λ r. value_at r ms) (text_same q k is ∙ key) ∙ below_none m.0 ms up.0 up.1
    taken false true is also key = absurd (other_text q k is (text_same q m.0 also ∙ sym key))
    taken false false is also key = refl

    by : (c : Bool) → c ≡ same_text k m.0 → value_at q (without k ms) ≡ cond (same_text q k) None (value_at q ms)
        → value_at q (cond c ms (m ∷ without k ms)) ≡ cond (same_text q k) None (cond (same_text q m.0) (Some m.1) (value_at q ms))
    by true is rest = taken (same_text q k) (same_text q m.0) refl refl (text_same k m.0 is)
    by false is rest =
        ap (cond (same_text q m.0) (Some m.1)) rest
        ∙ swap q k m.0 (same_text q k) (same_text q m.0) None (Some m.1) (value_at q ms) refl refl (other_text k m.0 is)

  or_pick : (b : Bool) (v w o : Option V) → option_or (cond b v w) o ≡ cond b (option_or v o) (option_or w o)
  or_pick true v w o = refl
  or_pick false v w o = refl

  -- pairs behind others
  pub value_append : (q : List ℕ) (xs ys : List (List ℕ × V)) → value_at q (xs ++ ys) ≡ option_or (value_at q xs) (value_at q ys)
  value_append q [] ys = refl
  value_append q (x ∷ xs) ys =
      ap (cond (same_text q x.0) (Some x.1)) (value_append q xs ys) ∙ sym (or_pick (same_text q x.0) (Some x.1) (value_at q xs) (value_at q ys))
