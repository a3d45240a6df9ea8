-- A permutation of what a function makes of elements is one of the elements.
use Rattle.std.proofs.Common.{◌≡◌, ℕ, List, [], ◌∷◌, length, map, refl, sym, ◌∙◌, ap, subst}
use Rattle.std.specs.List.{swap}
use Rattle.std.specs.List.Sorted.{IsPermutation, SwapsInRange, apply_swaps}
use lib.ListN.{get_or, set, length-map, get_or-map}
use lib.Seq.{map-set}

map_swap : {A B : Type 0} (f : A → B) (xs : List A) (i j : ℕ) → map f (swap xs i j) ≡ swap (map f xs) i j
map_swap f [] i j = refl
map_swap f (d ∷ ys) i j = map-set f (set (d ∷ ys) i (get_or (d ∷ ys) j d)) j (get_or (d ∷ ys) i d)
    ∙ (λ k. set ((map-set f (d ∷ ys) i (get_or (d ∷ ys) j d) ∙ ap (set (map f (d ∷ ys)) i) (sym (get_or-map f (d ∷ ys) j d))) k) j (sym (get_or-map f (d ∷ ys) i d) k))

map_swaps : {A B : Type 0} (f : A → B) (xs : List A) (ps : List (ℕ × ℕ)) → map f (apply_swaps xs ps) ≡ apply_swaps (map f xs) ps
map_swaps f xs [] = refl
map_swaps f xs (p ∷ ps) = map_swap f (apply_swaps xs ps) p.0 p.1 ∙ ap (λ l. swap l p.0 p.1) (map_swaps f xs ps)

pub record IsLifted {A B : Type 0} (f : A → B) (xs : List A) (ys : List B) : Type 0 where
  pub elements : List A
  pub moved : IsPermutation xs elements
  pub made : map f elements ≡ ys

pub lifted : {A B : Type 0} (f : A → B) (xs : List A) (ys : List B) → IsPermutation (map f xs) ys → IsLifted f xs ys
lifted f xs ys p = record {
  elements = apply_swaps xs p.moves;
  moved = record { moves = p.moves; below = subst (λ n. SwapsInRange n p.moves) (length-map xs f) p.below; is = refl };
  made = map_swaps f xs p.moves ∙ sym p.is;
}
