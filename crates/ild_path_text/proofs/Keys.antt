-- Whether a key ends at the first delimiter behind it: the value says nothing of it.
use Rattle.std.proofs.Common.{◌≡◌, ℕ, ◌+◌, ◌<◌, ◌≤◌, Bool, true, false, cond, ◌&&◌, List, [], ◌∷◌, ◌++◌, length, refl, ap, sym, ◌∙◌, arith, append-nil, append_assoc, length-append}
use Rattle.std.specs.Prelude.{nat_eq}
use Rattle.ild_typed.proofs.CleanTexts.{begins_itself}
use Rattle.ild_schema.specs.Joins.{pair_text}
use Rattle.ild_schema.specs.Prefixes.{begins}
use Rattle.ild_typed.specs.Texts.{places, is_first, is_parted}

-- whether a text begins with another is told by as many bytes
begins_front : (d xs ys zs : List ℕ) → length d ≤ length xs → begins d (xs ++ ys) ≡ begins d (xs ++ zs)
begins_front [] xs ys zs le = refl
begins_front (c ∷ d) [] ys zs le = absurd (omega (arith, le))
begins_front (c ∷ d) (x ∷ xs) ys zs le = ap (λ b. nat_eq c x && b) (begins_front d xs ys zs (omega (arith, le)))

-- a place at which the delimiter stands is the first
at_once : (n m : ℕ) (d s : List ℕ) → 0 < length s → begins d s ≡ true → is_first n (places m d s) ≡ nat_eq n m
at_once n m d [] some e = absurd (omega (arith, some))
at_once n m d (c ∷ s) some e = ap (λ b. is_first n (cond b (m ∷ places (m + 1) d s) (places (m + 1) d s))) e

chosen : (n m : ℕ) (b c : Bool) (xs ys : List ℕ) → b ≡ c → is_first n xs ≡ is_first n ys → is_first n (cond b (m ∷ xs) xs) ≡ is_first n (cond c (m ∷ ys) ys)
chosen n m true true xs ys same rest = refl
chosen n m true false xs ys same rest = absurd cc
chosen n m false true xs ys same rest = absurd cc
chosen n m false false xs ys same rest = rest

regroup : (k d v : List ℕ) → k ++ (d ++ v) ≡ (k ++ d) ++ v
regroup k d v = simp append_assoc

first_alike : (n m : ℕ) (d k v w : List ℕ) → 0 < length d → is_first n (places m d (k ++ (d ++ v))) ≡ is_first n (places m d (k ++ (d ++ w)))
first_alike n m d [] v w some =
    at_once n m d (d ++ v) (omega (arith, some, length-append d v)) (begins_itself d v) ∙ sym (at_once n m d (d ++ w) (omega (arith, some, length-append d w)) (begins_itself d w))
first_alike n m d (c ∷ k) v w some =
    chosen n m (begins d (c ∷ (k ++ (d ++ v)))) (begins d (c ∷ (k ++ (d ++ w)))) (places (m + 1) d (k ++ (d ++ v))) (places (m + 1) d (k ++ (d ++ w)))
    (ap (λ s. begins d (c ∷ s)) (regroup k d v) ∙ begins_front d (c ∷ (k ++ d)) v w (omega (arith, length-append k d)) ∙ sym (ap (λ s. begins d (c ∷ s)) (regroup k d w)))
    (first_alike n (m + 1) d k v w some)

pub parted_alike : (inner key v w : List ℕ) → 0 < length inner → is_parted inner (key, v) ≡ is_parted inner (key, w)
parted_alike inner key v w some = first_alike (length key) 0 inner key v w some

-- what a test of the key and the delimiter says
pub key_tested : (inner key front : List ℕ) (n : ℕ) (b : Bool) → 0 < length inner → front ≡ key ++ inner → n ≡ length key → ((p : List ℕ × List ℕ) → pair_text inner p ≡ front → length p.0 ≡ n → b ≡ is_parted inner p)
    → (v : List ℕ) → is_parted inner (key, v) ≡ b
key_tested inner key front n b some whole count told v =
    parted_alike inner key v [] some ∙ sym (told (key, []) (ap (λ s. key ++ s) (append-nil inner) ∙ sym whole) (sym count))
