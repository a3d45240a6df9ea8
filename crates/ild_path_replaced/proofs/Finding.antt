-- The item to which one step leads, or the steps to a part, exactly where there is one.
use Rattle.std.proofs.Common.{◌≡◌, ℕ, List, [], ◌∷◌, ◌++◌, append_assoc, Option, Some, None, refl, sym, subst}
use Rattle.std.specs.Borrow.{Bor}
use Rattle.std.specs.Prelude.{option_and_then}
use Rattle.std.proofs.lemmas.Option.{same_Some}
use Rattle.ild_cbor.specs.Nodes.{Finds, HasData}
use Rattle.ild_cbor.specs.Span.{entry_of, index_of, item_of, place_of}
use Rattle.ild_cbor.specs.declared.node.Node.{Node}
use Rattle.ild_splice_changes.specs.TreeChange.{TreeStep, child, key, nth, part_at}
use Rattle.ild_data.specs.Data.{Data}
use Rattle.ild_path_replaced.specs.Seen.{tree_steps}
use Rattle.ild_splice.proofs.Placed.{entries_are_at, items_are_at, item_step, entry_step}
use Rattle.ild_splice.specs.Splices.{IsAt}
use Rattle.ild_path_steps.specs.declared.steps.PartSteps.{PartSteps}
use Rattle.ild_path_steps.specs.declared.steps.PartSteps.TheVariants as P
use Rattle.ild_path_replaced.specs.There.{IsThere}

-- what is found at one step is what is there
module _ (n : Node) (t d : Data) (q : List TreeStep) (at : IsAt n t q d) where
  found : (s : TreeStep) (place : ℕ) (o : Option Data) (r : Option Node) → Finds n place o r → ((m : Node) → r ≡ Some m → (e : Data) × (o ≡ Some e) × IsAt m t (q ++ s ∷ []) e) → IsThere t (q ++ s ∷ []) o r
  found s place None None finds there = tt
  found s place None (Some m) finds there = absurd finds
  found s place (Some e) None finds there = absurd finds
  found s place (Some e) (Some m) finds there =
      let x = there m refl in
      subst (λ c. IsAt m t (q ++ s ∷ []) c) (same_Some x.0 e (sym x.1)) x.2

  pub item_there : (i : ℕ) (r : Option Node) → ((u : Data) → HasData n u → Finds n (place_of u i) (item_of u i) r) → IsThere t (q ++ nth i ∷ []) (child (nth i) d) r
  item_there i r finds =
      subst (λ o. IsThere t (q ++ nth i ∷ []) o r) (item_step d i)
      (found (nth i) (place_of d i) (item_of d i) r (finds d at.stands)
      (λ m is. let x = items_are_at n m t d q i at (subst (Finds n (place_of d i) (item_of d i)) is (finds d at.stands)) in (x.part, x.is, x.at)))

  pub entry_there : (k : List ℕ) (r : Option Node) → ((u : Data) → HasData n u → Finds n (place_of u (index_of k u)) (entry_of u k) r) → IsThere t (q ++ key k ∷ []) (child (key k) d) r
  entry_there k r finds =
      subst (λ o. IsThere t (q ++ key k ∷ []) o r) (entry_step d k)
      (found (key k) (place_of d (index_of k d)) (entry_of d k) r (finds d at.stands)
      (λ m is. let x = entries_are_at n m t d q k at (subst (Finds n (place_of d (index_of k d)) (entry_of d k)) is (finds d at.stands)) in (x.part, x.is, x.at)))

-- ---- the item to which steps lead, exactly

alone : (o : Option Data) → o ≡ option_and_then (λ e. Some e) o
alone None = refl
alone (Some e) = refl

both : (s : TreeStep) (o : Option Data) → option_and_then (λ e. child s e) o ≡ option_and_then (λ e. option_and_then (λ u. Some u) (child s e)) o
both s None = refl
both s (Some e) = alone (child s e)

pub second_there : (t : Data) (q : List TreeStep) (o : Option Data) (pair : Node) (r : Option Node) → IsThere t q o (Some pair) → ((u : Data) → HasData pair u → Finds pair (place_of u 1) (item_of u 1) r)
    → IsThere t (q ++ nth 1 ∷ []) (option_and_then (λ e. child (nth 1) e) o) r
second_there t q None pair r there finds = absurd there
second_there t q (Some e) pair r there finds = item_there pair t e q there 1 r finds

module _ (n : Node) (t d : Data) (q : List TreeStep) (at : IsAt n t q d) (steps : PartSteps) (r : Option Node) where
  back : (s : PartSteps) → steps ≡ s → IsThere t (q ++ tree_steps s) (part_at (tree_steps s) d) r → IsThere t (q ++ tree_steps steps) (part_at (tree_steps steps) d) r
  back s is x = subst (λ s. IsThere t (q ++ tree_steps s) (part_at (tree_steps s) d) r) (sym is) x

  pub by_item : (i : ℕ) → steps ≡ P.Item i → ((u : Data) → HasData n u → Finds n (place_of u i) (item_of u i) r) → IsThere t (q ++ tree_steps steps) (part_at (tree_steps steps) d) r
  by_item i is finds = back (P.Item i) is (subst (λ o. IsThere t (q ++ nth i ∷ []) o r) (alone (child (nth i) d)) (item_there n t d q at i r finds))

  pub by_entry : (k : Bor (List ℕ)) → steps ≡ P.Entry k → ((u : Data) → HasData n u → Finds n (place_of u (index_of k.now u)) (entry_of u k.now) r) → IsThere t (q ++ tree_steps steps) (part_at (tree_steps steps) d) r
  by_entry k is finds = back (P.Entry k) is (subst (λ o. IsThere t (q ++ key k.now ∷ []) o r) (alone (child (key k.now) d)) (entry_there n t d q at k.now r finds))

  pub by_pair : (i : ℕ) (pair : Option Node) → steps ≡ P.Pair i → ((u : Data) → HasData n u → Finds n (place_of u i) (item_of u i) pair)
      → ((t : Data) (q : List TreeStep) (o : Option Data) → IsThere t q o pair → IsThere t (q ++ nth 1 ∷ []) (option_and_then (λ e. child (nth 1) e) o) r)
      → IsThere t (q ++ tree_steps steps) (part_at (tree_steps steps) d) r
  by_pair i pair is finds second =
      let there = second t (q ++ nth i ∷ []) (child (nth i) d) (item_there n t d q at i pair finds) in
      back (P.Pair i) is (subst (λ o. IsThere t (q ++ (nth i ∷ nth 1 ∷ [])) o r) (both (nth 1) (child (nth i) d))
      (subst (λ p. IsThere t p (option_and_then (λ e. child (nth 1) e) (child (nth i) d)) r) (append_assoc q (nth i ∷ []) (nth 1 ∷ [])) there))
