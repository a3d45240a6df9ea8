-- Items along steps.
use Rattle.std.proofs.Common.{◌≡◌, ◌<◌, ◌≤◌, ◌+◌, ℕ, zero, suc, List, [], ◌∷◌, ◌++◌, append_assoc, drop, get_or, length, Option, Some, None, refl, sym, ◌∙◌, ap, subst, arith}
use Rattle.std.specs.Prelude.{option_and_then}
use Rattle.std.proofs.lemmas.Option.{same_Some, none-some}
use Rattle.ild_cbor.specs.declared.node.Node.{Node}
use Rattle.ild_splice_changes.specs.TreeChange.{TreeStep, child, part_at}
use Rattle.ild_data.specs.Data.{Data}
use Rattle.ild_splice.specs.Splices.{IsAt}
use Rattle.ild_path_steps.specs.declared.steps.PartSteps.{PartSteps}
use Rattle.ild_path_replaced.specs.Seen.{all_steps, tree_steps}
use Rattle.ild_path_replaced.specs.There.{IsThere}

split_at : (s : TreeStep) (p q : List TreeStep) (d e : Data) (o : Option Data) → child s d ≡ o → option_and_then (λ u. part_at (p ++ q) u) o ≡ Some e
    → ((u : Data) → part_at (p ++ q) u ≡ Some e → (m : Data) × (part_at p u ≡ Some m) × (part_at q m ≡ Some e)) → (m : Data) × (part_at (s ∷ p) d ≡ Some m) × (part_at q m ≡ Some e)
split_at s p q d e None is h rest = absurd (none-some e h)
split_at s p q d e (Some u) is h rest = let x = rest u h in (x.0, ap (option_and_then (λ u. part_at p u)) is ∙ x.1, x.2)

-- the part of a part
pub part_between : (p q : List TreeStep) (d e : Data) → part_at (p ++ q) d ≡ Some e → (m : Data) × (part_at p d ≡ Some m) × (part_at q m ≡ Some e)
part_between [] q d e h = (d, refl, h)
part_between (s ∷ p) q d e h = split_at s p q d e (child s d) refl h (λ u g. part_between p q u e g)

-- the item before the kth steps
pub record Reaching (os : List PartSteps) (t d : Data) (k : ℕ) (n : Node) : Type 0 where
  pub done : List TreeStep
  pub here : Data
  pub at : IsAt n t done here
  pub is : done ++ all_steps (drop k os) ≡ all_steps os
  pub on : part_at (all_steps (drop k os)) here ≡ Some d

pub begins : (os : List PartSteps) (t d : Data) (n : Node) → IsAt n t [] t → part_at (all_steps os) t ≡ Some d → Reaching os t d 0 n
begins os t d n at h = record { done = []; here = t; at = at; is = refl; on = h }

drop_at : (os : List PartSteps) (k : ℕ) (z : PartSteps) → k < length os → drop k os ≡ get_or os k z ∷ drop (suc k) os
drop_at [] k z less = absurd (omega (arith, less))
drop_at (p ∷ os) zero z less = refl
drop_at (p ∷ os) (suc k) z less = drop_at os k z (omega (arith, less))

drop_past : (os : List PartSteps) (k : ℕ) → length os ≤ k → drop k os ≡ []
drop_past [] zero h = refl
drop_past [] (suc k) h = refl
drop_past (o ∷ os) zero h = absurd (omega (arith, h))
drop_past (o ∷ os) (suc k) h = drop_past os k (omega (arith, h))

behind_all : {A : Type 0} (xs : List A) → xs ++ [] ≡ xs
behind_all [] = refl
behind_all (x ∷ xs) = ap (λ ys. x ∷ ys) (behind_all xs)

module _ (os : List PartSteps) (t d : Data) (k : ℕ) (n : Node) (s : Reaching os t d k n) (z : PartSteps) (less : k < length os) (r : Option Node)
    (found : (t d : Data) (q : List TreeStep) → IsAt n t q d → IsThere t (q ++ tree_steps (get_or os k z)) (part_at (tree_steps (get_or os k z)) d) r)
  where
    between : (m : Data) × (part_at (tree_steps (get_or os k z)) s.here ≡ Some m) × (part_at (all_steps (drop (suc k) os)) m ≡ Some d)
    between = part_between (tree_steps (get_or os k z)) (all_steps (drop (suc k) os)) s.here d (sym (ap (λ xs. part_at (all_steps xs) s.here) (drop_at os k z less)) ∙ s.on)

    there : IsThere t (s.done ++ tree_steps (get_or os k z)) (Some between.0) r
    there = subst (λ o. IsThere t (s.done ++ tree_steps (get_or os k z)) o r) between.1 (found t s.here s.done s.at)

    pub stuck : r ≡ None → ⊥
    stuck is = subst (λ r. IsThere t (s.done ++ tree_steps (get_or os k z)) (Some between.0) r) is there

    pub goes_on : (next : Node) (m : ℕ) → r ≡ Some next → m ≡ k + 1 → Reaching os t d m next
    goes_on next m is m_is =
        let same : suc k ≡ m = omega (arith, m_is) in
        record {
          done = s.done ++ tree_steps (get_or os k z);
          here = between.0;
          at = subst (λ r. IsThere t (s.done ++ tree_steps (get_or os k z)) (Some between.0) r) is there;
          is = append_assoc s.done (tree_steps (get_or os k z)) (all_steps (drop m os)) ∙ ap (λ (j : ℕ). s.done ++ (tree_steps (get_or os k z) ++ all_steps (drop j os))) (sym same)
              ∙ ap (λ xs. s.done ++ all_steps xs) (sym (drop_at os k z less)) ∙ s.is;
          on = ap (λ (j : ℕ). part_at (all_steps (drop j os)) between.0) (sym same) ∙ between.2;
        }

pub ends : (os : List PartSteps) (t d : Data) (k : ℕ) (n : Node) → Reaching os t d k n → length os ≤ k → IsAt n t (all_steps os) d
ends os t d k n s far =
    let none : all_steps (drop k os) ≡ [] = ap all_steps (drop_past os k far) in
    let done : s.done ≡ all_steps os = sym (behind_all s.done) ∙ ap (λ q. s.done ++ q) (sym none) ∙ s.is in
    let here : s.here ≡ d = same_Some s.here d (ap (λ q. part_at q s.here) (sym none) ∙ s.on) in
    subst (λ q. IsAt n t q d) done (subst (IsAt n t s.done) here s.at)
