-- What a search by one test says of another that agrees with it.
use Rattle.std.proofs.Common.{◌≡◌, ℕ, zero, suc, ◌+◌, Bool, true, false, cond, List, [], ◌∷◌, Some, None, refl, sym, subst, arith}
use Rattle.std.specs.Prelude.{bytes_eq, slice_get}
use Rattle.std.specs.List.{AllByRecursion, list_any, position_from}
use Rattle.std.specs.Cmp.Lexicographic.{same_text as text_same}
use Rattle.std.proofs.lemmas.Option.{same_Some, none-some}
use Rattle.std.proofs.lemmas.Bool.{or_from}
use Rattle.ild_data.specs.Key.{same_text}
use Rattle.ild_typed.proofs.Entries.{same_text_self}

pub all_of : {A : Type 0} (P : A → Type 0) (xs : List A) → ((x : A) → P x) → AllByRecursion P xs
all_of P [] each = tt
all_of P (x ∷ xs) each = (each x, all_of P xs each)

pub all_then : {A : Type 0} (P Q : A → Type 0) (xs : List A) → ((x : A) → P x → Q x) → AllByRecursion P xs → AllByRecursion Q xs
all_then P Q [] each all = tt
all_then P Q (x ∷ xs) each all = (each x all.0, all_then P Q xs each all.1)

pub same_bool : (a b : Bool) → (a ≡ true → b ≡ true) → (b ≡ true → a ≡ true) → a ≡ b
same_bool true b to back = sym (to refl)
same_bool false true to back = back refl
same_bool false false to back = refl

-- the place at which a search ended
pub record EndedAt {A : Type 0} (q : A → Bool) (i n : ℕ) (xs : List A) : Type 0 where
  pub place : ℕ
  pub sum : n ≡ i + place
  pub one : A
  pub there : slice_get xs place ≡ Some one
  pub passes : q one ≡ true

pub ended : {A : Type 0} (p q : A → Bool) (i n : ℕ) (xs : List A) → AllByRecursion (λ x. p x ≡ q x) xs → position_from p i xs ≡ Some n → EndedAt q i n xs
ended p q i n [] all e = absurd (none-some n e)
ended {A} p q i n (x ∷ xs) all e = by (p x) all.0 (ended p q (i + 1) n xs all.1) e where
  by : (b : Bool) → b ≡ q x → (position_from p (i + 1) xs ≡ Some n → EndedAt q (i + 1) n xs) → cond b (Some i) (position_from p (i + 1) xs) ≡ Some n → EndedAt q i n (x ∷ xs)
  by true is more k = let same : i ≡ n = same_Some i n k in record { place = zero; sum = omega (arith, same); one = x; there = refl; passes = sym is }
  by false is more k =
      let rest : EndedAt q (i + 1) n xs = more k in
      record { place = suc rest.place; sum = let s = rest.sum in omega (arith, s); one = rest.one; there = rest.there; passes = rest.passes }

pub first_at : {A : Type 0} (q : A → Bool) (n : ℕ) (xs : List A) → EndedAt q 0 n xs → (x : A) × (slice_get xs n ≡ Some x) × (q x ≡ true)
first_at {A} q n xs h = let same : h.place ≡ n = let s = h.sum in omega (arith, s) in (h.one, subst (λ (k : ℕ). slice_get xs k ≡ Some h.one) same h.there, h.passes)

pub none_ended : {A : Type 0} (p q : A → Bool) (i : ℕ) (xs : List A) → AllByRecursion (λ x. p x ≡ q x) xs → position_from p i xs ≡ None → list_any q xs ≡ false
none_ended p q i [] all e = refl
none_ended {A} p q i (x ∷ xs) all e = by (p x) all.0 (none_ended p q (i + 1) xs all.1) e where
  by : (b : Bool) → b ≡ q x → (position_from p (i + 1) xs ≡ None → list_any q xs ≡ false) → cond b (Some i) (position_from p (i + 1) xs) ≡ None → list_any q (x ∷ xs) ≡ false
  by true is more k = absurd (none-some i (sym k))
  by false is more k = or_from (q x) (list_any q xs) (sym is) (more k)

-- two tests of texts are one
pub text_agrees : (s a : List ℕ) → bytes_eq s a ≡ same_text a s
text_agrees s a = same_bool (bytes_eq s a) (same_text a s)
    (λ h. subst (λ k. same_text k s ≡ true) (text_same s a (sym h)) (same_text_self s))
    (λ h. subst (λ k. bytes_eq k a ≡ true) (text_same a s (sym h)) (same_text_self a))
