-- Weighing the slots of a node, one after another.
use Rattle.std.proofs.Common.{◌≡◌, ℕ, zero, suc, ◌+◌, ◌-◌, ◌<◌, ◌≤◌, List, length, drop, Some, refl, ap, arith}
use Rattle.std.specs.Prelude.{slice_get}
use Rattle.ild_data.proofs.Gets.{drop_past, drop_at}
use Rattle.ild_data.specs.Trie.{TrieSlot}
use Rattle.ild_data.specs.declared.hamt_shape.HamtShape.{HamtShape}
use Rattle.ild_open_nodes.specs.Weights.{weight, weights}

-- what is left of a number when the weights of the slots that are left are taken away
pub record Weighs (p : HamtShape) (slots : List TrieSlot) (i left : ℕ) : Type 0 where
  pub same : left - weights p (drop i slots) ≡ (p.bucket + 1) - weights p slots

pub weighs_begin : (p : HamtShape) (slots : List TrieSlot) (left : ℕ) → left ≡ p.bucket + 1 → Weighs p slots 0 left
weighs_begin p slots left is = record { same = ap (λ n. n - weights p slots) is }

pub weighs_more : (p : HamtShape) (slots : List TrieSlot) (i left more own : ℕ) (s : TrieSlot) → slice_get slots i ≡ Some s → own ≡ weight p s → more ≡ left - own → Weighs p slots i left → Weighs p slots (i + 1) more
weighs_more p slots i left more own s is weigh less x = record {
  same =
      let sum : weights p (drop i slots) ≡ weight p s + weights p (drop (i + 1) slots) = ap (weights p) (drop_at slots i s is) in
      let was = x.same in
      omega (arith, sum, was, weigh, less);
}

weighs_end : (p : HamtShape) (slots : List TrieSlot) (i left : ℕ) → length slots ≤ i → Weighs p slots i left → left ≡ (p.bucket + 1) - weights p slots
weighs_end p slots i left most x = let none : weights p (drop i slots) ≡ 0 = ap (weights p) (drop_past slots i most) in let same = x.same in omega (arith, none, same)

pub weighs_many : (p : HamtShape) (slots : List TrieSlot) (i left : ℕ) → length slots ≤ i → Weighs p slots i left → left ≡ 0 → p.bucket < weights p slots
weighs_many p slots i left most x none = let same = weighs_end p slots i left most x in omega (arith, same, none)

pub weighs_few : (p : HamtShape) (slots : List TrieSlot) (i left : ℕ) → length slots ≤ i → Weighs p slots i left → (left ≡ 0 → ⊥) → weights p slots ≤ p.bucket
weighs_few p slots i left most x some = by left some (weighs_end p slots i left most x) where
  by : (n : ℕ) → (n ≡ 0 → ⊥) → n ≡ (p.bucket + 1) - weights p slots → weights p slots ≤ p.bucket
  by zero some same = absurd (some refl)
  by (suc n) some same = omega (arith, same)
