-- What is found by a text after a put.
use Rattle.std.proofs.Common.{◌≡◌, ℕ, List, [], ◌∷◌, Bool, true, false, cond, Option, Some, refl, sym, ◌∙◌, ap}
use Rattle.std.specs.Cmp.Lexicographic.{same_text as text_same}
use Rattle.std.specs.Ordering.{match_ordering}
use Rattle.std.specs.declared.cmp.Ordering.{Ordering}
use Rattle.std.specs.declared.cmp.Ordering.TheVariants.{Less, Equal, Greater}
use Rattle.ild_data.specs.Key.{key_cmp, same_text, put, value_at}
use Rattle.ild_data.proofs.Rising.{key_exact, key_equal}

greater_equal : Greater ≡ Equal → ⊥
greater_equal e = absurd cc

module _ {V : Type 0} where
  -- of two texts that are apart, which comes first makes no difference to a look-up
  pub swap : (q k l : List ℕ) (a b : Bool) (v w r : Option V) → a ≡ same_text q k → b ≡ same_text q l → (k ≡ l → ⊥) → cond b w (cond a v r) ≡ cond a v (cond b w r)
  swap q k l true true v w r e f apart = absurd (apart (sym (text_same q k e) ∙ text_same q l f))
  swap q k l true false v w r e f apart = refl
  swap q k l false true v w r e f apart = refl
  swap q k l false false v w r e f apart = refl

  hidden : (q k l : List ℕ) (a : Bool) (v w r : Option V) → a ≡ same_text q k → k ≡ l → cond a v r ≡ cond a v (cond (same_text q l) w r)
  hidden q k l true v w r e same = refl
  hidden q k l false v w r e same = ap (λ b. cond b w r) (e ∙ ap (same_text q) same)

  value_at_step : (q k : List ℕ) (v : V) (m : List ℕ × V) (ms : List (List ℕ × V)) (o : Ordering) → key_cmp k m.0 ≡ o
      → value_at q (put k v ms) ≡ value_at q ((k, v) ∷ ms)
      → value_at q (match_ordering o ((k, v) ∷ m ∷ ms) ((k, v) ∷ ms) (m ∷ put k v ms)) ≡ value_at q ((k, v) ∷ m ∷ ms)
  value_at_step q k v m ms Less is rest = refl
  value_at_step q k v m ms Equal is rest = hidden q k m.0 (same_text q k) (Some v) (Some m.1) (value_at q ms) refl (key_exact k m.0 is)
  value_at_step q k v m ms Greater is rest =
      ap (cond (same_text q m.0) (Some m.1)) rest
      ∙ swap q k m.0 (same_text q k) (same_text q m.0) (Some v) (Some m.1) (value_at q ms) refl refl
      (λ e. greater_equal (sym is ∙ ap (key_cmp k) (sym e) ∙ key_equal k))

  -- a put hides what was there
  pub value_put : (q k : List ℕ) (v : V) (ms : List (List ℕ × V)) → value_at q (put k v ms) ≡ value_at q ((k, v) ∷ ms)
  value_put q k v [] = refl
  value_put q k v (m ∷ ms) = value_at_step q k v m ms (key_cmp k m.0) refl (value_put q k v ms)
