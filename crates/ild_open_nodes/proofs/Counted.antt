-- How many entries stand in a node and beneath it, by the weights of its slots.
use Rattle.std.proofs.Common.{◌≡◌, ℕ, zero, suc, ◌+◌, ◌<◌, ◌≤◌, List, [], ◌∷◌, ◌++◌, length, length-append, refl, sym, ◌∙◌, ap, subst, arith}
use Rattle.ild_data.specs.Data.{Data}
use Rattle.ild_data.specs.Trie.{TrieSlot, empty, bucket, child}
use Rattle.ild_data.specs.declared.hamt_shape.HamtShape.{HamtShape}
use Rattle.ild_bulk_walker.specs.Gives.{SlotGives, SlotsGive, TreeGives}
use Rattle.ild_bulk_walker.specs.OnTree.{SlotMany, SlotsMany}
use Rattle.ild_open_nodes.specs.Weights.{weight, weights}

module _ (h : List ℕ → List ℕ) (p : HamtShape) (held : List (List ℕ)) (left depth : ℕ) where
  -- beneath a child stand more than a bucket takes
  child_many : (n : ℕ) (id : List ℕ) (es : List (List ℕ × Data)) → TreeGives h p held n depth id es → p.bucket < length es
  child_many zero id es gives = absurd gives
  child_many (suc n) id es gives = gives.many

  slot_weighs : (s : TrieSlot) (es : List (List ℕ × Data)) → SlotGives (TreeGives h p held left depth) s es → weight p s ≤ length es
  slot_weighs empty es gives = omega arith
  slot_weighs (bucket fs) es gives = let same = ap (λ (xs : List (List ℕ × Data)). length xs) gives in omega (arith, same)
  slot_weighs (child id) es gives = let many = child_many left id es gives in omega (arith, many)

  pub weighs : (d j : ℕ) (slots : List TrieSlot) (es : List (List ℕ × Data)) → SlotsGive h p d j (TreeGives h p held left depth) slots es → weights p slots ≤ length es
  weighs d j [] es gives = omega arith
  weighs d j (s ∷ slots) es gives =
      let own = slot_weighs s gives.0 gives.4 in
      let more = weighs d (j + 1) slots gives.1 gives.5 in
      let same = ap (λ (xs : List (List ℕ × Data)). length xs) gives.2 ∙ length-append gives.0 gives.1 in
      omega (arith, own, more, same)

  -- where the weights are few, no child is there
  slot_light : (s : TrieSlot) (es : List (List ℕ × Data)) → weight p s ≤ p.bucket → SlotGives (TreeGives h p held left depth) s es → length es ≡ weight p s
  slot_light empty es few gives = ap (λ (xs : List (List ℕ × Data)). length xs) gives
  slot_light (bucket fs) es few gives = ap (λ (xs : List (List ℕ × Data)). length xs) gives
  slot_light (child id) es few gives = absurd (omega (arith, few))

  pub light : (d j : ℕ) (slots : List TrieSlot) (es : List (List ℕ × Data)) → weights p slots ≤ p.bucket → SlotsGive h p d j (TreeGives h p held left depth) slots es → length es ≡ weights p slots
  light d j [] es few gives = ap (λ (xs : List (List ℕ × Data)). length xs) gives
  light d j (s ∷ slots) es few gives =
      let own = slot_light s gives.0 (omega (arith, few)) gives.4 in
      let more = light d (j + 1) slots gives.1 (omega (arith, few)) gives.5 in
      let same = ap (λ (xs : List (List ℕ × Data)). length xs) gives.2 ∙ length-append gives.0 gives.1 in
      omega (arith, own, more, same)

-- so many are counted there
slot_counts : (p : HamtShape) (below : List ℕ → ℕ → Type 0) (s : TrieSlot) → weight p s ≤ p.bucket → SlotMany below s (weight p s)
slot_counts p below empty few = refl
slot_counts p below (bucket es) few = refl
slot_counts p below (child id) few = absurd (omega (arith, few))

pub counts : (p : HamtShape) (below : List ℕ → ℕ → Type 0) (slots : List TrieSlot) → weights p slots ≤ p.bucket → SlotsMany below slots (weights p slots)
counts p below [] few = refl
counts p below (s ∷ slots) few = (weight p s, weights p slots, refl, slot_counts p below s (omega (arith, few)), counts p below slots (omega (arith, few)))
