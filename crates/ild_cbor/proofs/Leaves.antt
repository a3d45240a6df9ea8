-- Items without parts that are told whole by their first byte: the bytes behind them.
use Rattle.std.proofs.Common.{◌≡◌, ℕ, ◌+◌, ◌/◌, ◌%◌, ◌^◌, ◌<◌, ◌≤◌, true, false, ltb, cond, List, [], ◌∷◌, ◌++◌, length, drop, None, Some, refl, sym, subst, arith, inl, inr}
use Rattle.std.specs.Prelude.{◌==◌, suc, slice_get, Option, MatchOption, IfSome}
use Rattle.std.proofs.lemmas.Bool.{lt-ltb, le-ltb, ltb-false, eqb-true}
use Rattle.ild_data.specs.Spell.{head}
use Rattle.ild_cbor.specs.Reading.{argument_at, split_at}
use Rattle.ild_cbor.specs.inside.Passing.{behind_string, passing, leaf_size_of}
use Rattle.ild_cbor.proofs.Steps.{chosen, some_is}
use Rattle.ild_cbor.proofs.Shapes.{opens}

-- a low part below 24 is the argument
low_is : (low : ℕ) (tail : List ℕ) (x : ℕ × List ℕ) → low < 24 → argument_at low tail ≡ Some x → (low, tail) ≡ x
unfolding argument_at
low_is low tail x lt e =
    let small : ltb low 24 ≡ true = lt-ltb low 24 lt in
    elim (chosen (ltb low 24) _ _ _ e) [
      | inl a ↦ some_is (low, tail) x a.1
      | inr a ↦ absurd cc
    ]

-- behind a string whose bytes are all there
string_behind : (c low : ℕ) (tail : List ℕ) → low ≤ length tail → behind_string tail (split_at low tail) ≡ (0, drop (suc low) (c ∷ tail))
unfolding split_at
string_behind c low tail le =
    let long : ltb (length tail) low ≡ false = le-ltb (length tail) low le in
    rw long refl

-- what stands behind an item by the major type and the low part of its first byte
record Leaf (c major low k : ℕ) (tail : List ℕ) : Type 0 where
  pub small : low < 24
  pub behind : passing major low tail ≡ (0, drop k (c ∷ tail))

of_major : (c major m low k j : ℕ) (tail : List ℕ) → low < 24 → (major == m) ≡ true → j ≡ k → passing m low tail ≡ (0, drop j (c ∷ tail)) → Leaf c major low k tail
of_major c major m low k j tail lt e size b =
    let by_size : passing m low tail ≡ (0, drop k (c ∷ tail)) = subst (λ (i : ℕ). passing m low tail ≡ (0, drop i (c ∷ tail))) size b in
    record { small = lt; behind = subst (λ (i : ℕ). passing i low tail ≡ (0, drop k (c ∷ tail))) (sym (eqb-true major m e)) by_size }

leaf : (c major low k : ℕ) (tail : List ℕ) → leaf_size_of major low ≡ Some k → k ≤ length (c ∷ tail) → Leaf c major low k tail
leaf c major low k tail e fits =
    elim (chosen (ltb 23 low) _ _ _ e) [
      | inl a ↦ absurd cc
      | inr a ↦ kinds (omega (arith, ltb-false 23 low a.0)) a.1
    ]
  where
    strings : low < 24 → cond (major == 2) (Some (1 + low)) (cond (major == 3) (Some (1 + low)) None) ≡ Some k → Leaf c major low k tail
    strings lt e =
        elim (chosen (major == 2) _ _ _ e) [
          | inl a ↦ let size = some_is (1 + low) k a.1 in of_major c major 2 low k (suc low) tail lt a.0 (omega arith) (string_behind c low tail (omega arith))
          | inr a ↦ elim (chosen (major == 3) _ _ _ a.1) [
            | inl b ↦ let size = some_is (1 + low) k b.1 in of_major c major 3 low k (suc low) tail lt b.0 (omega arith) (string_behind c low tail (omega arith))
            | inr b ↦ absurd cc
          ]
        ]

    kinds : low < 24 → cond (major == 0) (Some 1) (cond (major == 1) (Some 1) (cond (major == 7) (Some 1) (cond (major == 2) (Some (1 + low)) (cond (major == 3) (Some (1 + low)) None)))) ≡ Some k → Leaf c major low k tail
    kinds lt e =
        elim (chosen (major == 0) _ _ _ e) [
          | inl a ↦ of_major c major 0 low k 1 tail lt a.0 (some_is 1 k a.1) refl
          | inr a ↦ elim (chosen (major == 1) _ _ _ a.1) [
            | inl b ↦ of_major c major 1 low k 1 tail lt b.0 (some_is 1 k b.1) refl
            | inr b ↦ elim (chosen (major == 7) _ _ _ b.1) [
              | inl d ↦ of_major c major 7 low k 1 tail lt d.0 (some_is 1 k d.1) refl
              | inr d ↦ strings lt d.1
            ]
          ]
        ]

-- the bytes behind a leaf stand behind its head, and no parts with them
pub leaf_passed : (b : List ℕ) (c k major n : ℕ) (rest : List ℕ) → Some c ≡ slice_get b 0 → Some k ≡ leaf_size_of (c / 32) (c % 32) → k ≤ length b
    → n < 2 ^ 64 → b ≡ head major n ++ rest → passing major n rest ≡ (0, drop k b)
leaf_passed [] c k major n rest first size fits lt e = absurd cc
leaf_passed (d ∷ tail) c k major n rest first size fits lt e =
    let same : c ≡ d = some_is c d first in
    let size_is : leaf_size_of (d / 32) (d % 32) ≡ Some k = subst (λ (i : ℕ). leaf_size_of (i / 32) (i % 32) ≡ Some k) same (sym size) in
    let o = opens d tail major n rest lt e in
    let l = leaf d (d / 32) (d % 32) k tail size_is fits in
    let by_major : passing major (d % 32) tail ≡ (0, drop k (d ∷ tail)) = subst (λ (m : ℕ). passing m (d % 32) tail ≡ (0, drop k (d ∷ tail))) o.high l.behind in
    subst (λ (x : ℕ × List ℕ). passing major x.0 x.1 ≡ (0, drop k (d ∷ tail))) (low_is (d % 32) tail (n, rest) l.small o.low) by_major

pub some_as : {T : Type 0} (N : Type 0) (P : T → Type 0) {Q : T → Type 0} (o : Option T) → MatchOption o N P → ((x : T) → P x → Q x) → IfSome o Q
some_as N P None m f = tt
some_as N P (Some x) m f = f x m
