-- Results of reading, and words that come next.
use Rattle.std.proofs.Common.{◌≡◌, ℕ, zero, suc, Bool, true, false, cond, List, [], ◌∷◌, Result, Ok, Err, refl, subst, inl, inr}
use Rattle.std.specs.Prelude.{◌⊎◌, nat_eq}
use Rattle.std.proofs.lemmas.Bool.{false≢true, and_parts}
use Rattle.ild_parse_grammar.specs.Sign.{Sign, kind_of_text}
use Rattle.ild_parse_grammar.proofs.Stream.{Stream, place, kind_code, same_text, begins, next_is, tail, rest_of}
use Rattle.ild_parse_grammar.proofs.Read.{◌>>=◌, many_at}
use Rattle.ild_parse_grammar.proofs.Literal.{kind_is, same_is}
use Rattle.ild_parse_grammar.specs.Derive.{IsWord}

-- the value of a step that did not fail
pub bind_ok : {A B : Type 0} (r : Result A ℕ) (f : A → Result B ℕ) (y : B) → (r >>= f) ≡ Ok y → (x : A) × (r ≡ Ok x) × (f x ≡ Ok y)
bind_ok (Ok x) f y e = (x, refl, e)
bind_ok (Err d) f y e = absurd cc

-- which way a test went
pub chosen : {A : Type 0} (b : Bool) (x y z : A) → cond b x y ≡ z → ((b ≡ true) × (x ≡ z)) ⊎ ((b ≡ false) × (y ≡ z))
chosen true x y z e = inl (refl, e)
chosen false x y z e = inr (refl, e)

abbrev pub done : {A : Type 0} → A → Result A ℕ
done x = Ok x

abbrev pub failed : {A : Type 0} → ℕ → Result A ℕ
failed at = Err at

pub ok_is : {A : Type 0} (x y : A) → done x ≡ done y → x ≡ y
ok_is x y e = cc

pub no_value : {A : Type 0} (at : ℕ) (y : A) → failed at ≡ done y → ⊥
no_value at y e = cc

-- ---- words

word_here : (w : List ℕ) (xs : List Sign) → begins w xs ≡ true → IsWord w xs (tail xs)
word_here w [] e = absurd (false≢true e)
word_here w (t ∷ xs) e = let p = and_parts (nat_eq (kind_code t.kind) (kind_code (kind_of_text w))) (same_text t.text w) e in (kind_is t.kind (kind_of_text w) p.0, same_is t.text w p.1, refl)

pub word_next : (w : List ℕ) (s : Stream) → next_is w s ≡ true → IsWord w s.signs (rest_of s).signs
word_next w s e = word_here w s.signs e

-- where parts were read, a token came that ends them
pub many_ends : {A : Type 0} (one : Stream → Result (A × Stream) ℕ) (ends : Stream → Bool) (n : ℕ) (s : Stream) (y : List A × Stream) → many_at one ends n s ≡ Ok y → ends y.1 ≡ true
unfolding many_at
many_ends one ends zero s y e = absurd (no_value (place s) y e)
many_ends {A} one ends (suc n) s y e =
    elim (chosen (ends s) (done ([], s)) (one s >>= (λ x. many_at one ends n x.1 >>= (λ xs. Ok (x.0 ∷ xs.0, xs.1)))) (done y) e) [
      | inl h ↦ subst (λ (z : List A × Stream). ends z.1 ≡ true) (ok_is ([], s) y h.1) h.0
      | inr h ↦
          let a = bind_ok (one s) (λ x. many_at one ends n x.1 >>= (λ xs. Ok (x.0 ∷ xs.0, xs.1))) y h.1 in
          let b = bind_ok (many_at one ends n a.0.1) (λ xs. Ok (a.0.0 ∷ xs.0, xs.1)) y a.2 in
          subst (λ (z : List A × Stream). ends z.1 ≡ true) (ok_is (a.0.0 ∷ b.0.0, b.0.1) y b.2) (many_ends one ends n a.0.1 b.0 b.1)
    ]
