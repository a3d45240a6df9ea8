-- The node in which a slot is exchanged.
use Rattle.std.proofs.Common.{◌≡◌, ℕ, zero, suc, ◌<◌, List, [], ◌∷◌, ◌++◌, length, take, drop, set, refl, sym, ap, ◌∙◌, arith, flat_map, append_assoc}
use Rattle.std.proofs.lemmas.Grind.{flat_map-append}
use Rattle.ild_data.specs.Trie.{TrieSlot, elements_of}
use Rattle.ild_node.specs.Written.{spelled}
use Rattle.ild_node.proofs.Writing.{spelled-append}

-- the elements where a slot is exchanged
pub spelled-set : (slots : List TrieSlot) (i : ℕ) (s : TrieSlot) → i < length slots
    → spelled (flat_map elements_of (set slots i s)) ≡ spelled (flat_map elements_of (take i slots)) ++ (spelled (elements_of s) ++ spelled (flat_map elements_of (drop (suc i) slots)))
spelled-set slots i s lt =
    ap (λ ss. spelled (flat_map elements_of ss)) (sym (set_parts slots i lt))
    ∙ ap spelled (flat_map-append elements_of (take i slots) (s ∷ drop (suc i) slots))
    ∙ spelled-append (flat_map elements_of (take i slots)) (elements_of s ++ flat_map elements_of (drop (suc i) slots))
    ∙ ap (λ b. spelled (flat_map elements_of (take i slots)) ++ b) (spelled-append (elements_of s) (flat_map elements_of (drop (suc i) slots)))
  where
    set_parts : (ss : List TrieSlot) (i : ℕ) → i < length ss → take i ss ++ s ∷ drop (suc i) ss ≡ set ss i s
    set_parts [] i lt = absurd (omega arith)
    set_parts (t ∷ ss) zero lt = refl
    set_parts (t ∷ ss) (suc i) lt = ap (λ xs. t ∷ xs) (set_parts ss i (omega arith))

-- what was written: the front, the element of the new slot, and the back
pub set-written : (slots : List TrieSlot) (i : ℕ) (s : TrieSlot) (begun a b out front back : List ℕ) → i < length slots → front ≡ spelled (flat_map elements_of (take i slots)) → back ≡ spelled (flat_map elements_of (drop (suc i) slots))
    → a ≡ begun ++ front → b ≡ a ++ spelled (elements_of s) → out ≡ b ++ back → out ≡ begun ++ spelled (flat_map elements_of (set slots i s))
set-written slots i s begun a b out front back lt fronts backs one two three =
    let F : List ℕ = spelled (flat_map elements_of (take i slots)) in
    let E : List ℕ = spelled (elements_of s) in
    let B : List ℕ = spelled (flat_map elements_of (drop (suc i) slots)) in
    three ∙ (λ j. (two ∙ ap (λ x. x ++ E) (one ∙ ap (λ x. begun ++ x) fronts)) j ++ backs j)
    ∙ append_assoc (begun ++ F) E B ∙ append_assoc begun F (E ++ B) ∙ ap (λ x. begun ++ x) (sym (spelled-set slots i s lt))
