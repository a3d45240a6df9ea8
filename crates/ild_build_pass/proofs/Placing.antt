-- Blocks behind their children, by the weights of HAMTs.
use Rattle.std.proofs.Common.{◌≡◌, inl, inr, ℕ, ◌≤◌, Bool, true, false, ◌||◌, ◌&&◌, cond, List, [], ◌∷◌, ◌++◌, refl, sym, ap, ◌∙◌, subst, arith, append_assoc, append-nil}
use Rattle.std.specs.List.{AllByRecursion}
use Rattle.std.specs.Cmp.Lexicographic.{nat_list_eq_equiv}
use Rattle.ild_edges.specs.Among.{IsIn}
use Rattle.ild_edges.proofs.Among.{IsIn-of}
use Rattle.ild_data.proofs.AllOf.{all_contained}
use Rattle.ild_data.specs.Among.{AreAmong}
use Rattle.ild_data.specs.declared.hamt_shape.HamtShape.{HamtShape}
use Rattle.ild_data.specs.Key.{same_text}
use Rattle.ild_schema.specs.declared.number.Slot.{Slot}
use Rattle.ild_schema.specs.declared.row.Row.{Row}
use Rattle.ild_schema.specs.Value.{Pairs}
use Rattle.ild_typed_places.specs.Places.{Place, each_place, tops}
use Rattle.ild_bulk_places.specs.Following.{FollowsIn}
use Rattle.ild_build_pass.specs.Placed.{PlacedIn, are_among, has_place_over, hamt_places, is_among, over_children}
use Rattle.ild_build_pass.specs.Weights.{Weight}

module _ (h : List ℕ → List ℕ) (rows : List Row) where
  pub placed_more : (N M : Weight → ℕ) → ((μ : Weight) → N μ ≤ M μ) → (before bs : List (List ℕ)) → PlacedIn h rows N before bs → PlacedIn h rows M before bs
  placed_more N M less before [] placed = tt
  placed_more N M less before (b ∷ bs) placed = ((let a = placed.0 in let k = less (over_children h rows before b) in omega (arith, a, k)), placed_more N M less (before ++ b ∷ []) bs placed.1)

  pub placed_append : (N : Weight → ℕ) (before xs ys : List (List ℕ)) → PlacedIn h rows N before xs → PlacedIn h rows N (before ++ xs) ys → PlacedIn h rows N before (xs ++ ys)
  placed_append N before [] ys first second = subst (λ (bs : List (List ℕ)). PlacedIn h rows N bs ys) (append-nil before) second
  placed_append N before (x ∷ xs) ys first second =
      (first.0, placed_append N (before ++ x ∷ []) xs ys first.1 (subst (λ (bs : List (List ℕ)). PlacedIn h rows N bs ys) (sym (append_assoc before (x ∷ []) xs)) second))

  -- ---- the test

  or_left : (a b : Bool) → a ≡ true → (a || b) ≡ true
  or_left a b e = ap (λ c. c || b) e

  or_right : (a b : Bool) → b ≡ true → (a || b) ≡ true
  or_right true b e = refl
  or_right false b e = e

  both_and : (a b : Bool) → a ≡ true → b ≡ true → (a && b) ≡ true
  both_and a b x y = ap (λ c. c && b) x ∙ y

  among_is : (b : List ℕ) (cs : List (List ℕ)) → IsIn b cs → is_among b cs ≡ true
  among_is b [] is = absurd is
  among_is b (c ∷ cs) (inl e) = or_left (same_text b c) (is_among b cs) (ap (same_text b) (sym e) ∙ nat_list_eq_equiv.refl b)
  among_is b (c ∷ cs) (inr is) = or_right (same_text b c) (is_among b cs) (among_is b cs is)

  among_are : (bs before : List (List ℕ)) → AreAmong bs before → are_among bs before ≡ true
  among_are [] before all = refl
  among_are (b ∷ bs) before all = both_and (is_among b before) (are_among bs before) (among_is b before (IsIn-of b before all.0)) (among_are bs before all.1)

  -- a place of these passes
  passes : (before : List (List ℕ)) (b : List ℕ) (ps : List Place) → AllByRecursion (λ p. p.0 ≡ b → AreAmong (tops p.1) before → has_place_over ps before b ≡ true) ps
  passes before b [] = tt
  passes before b (q ∷ ps) = (
    (λ e all. or_left (same_text q.0 b && are_among (tops q.1) before) (has_place_over ps before b)
        (both_and (same_text q.0 b) (are_among (tops q.1) before) (ap (same_text q.0) (sym e) ∙ nat_list_eq_equiv.refl q.0) (among_are (tops q.1) before all))),
    more ps (passes before b ps),
  )
    where
      more : (qs : List Place) → AllByRecursion (λ p. p.0 ≡ b → AreAmong (tops p.1) before → has_place_over ps before b ≡ true) qs
          → AllByRecursion (λ p. p.0 ≡ b → AreAmong (tops p.1) before → has_place_over (q ∷ ps) before b ≡ true) qs
      more [] all = tt
      more (p ∷ qs) all = ((λ e a. or_right (same_text q.0 b && are_among (tops q.1) before) (has_place_over ps before b) (all.0 e a)), more qs all.1)

  pub follows_placed : (p : HamtShape) (u : Slot) (ps : Pairs) (before bs : List (List ℕ)) → FollowsIn (hamt_places h p rows u ps) before bs → PlacedIn h rows (λ μ. μ p u ps) before bs
  follows_placed p u ps before [] follows = tt
  follows_placed p u ps before (b ∷ bs) follows =
      let all = each_place (hamt_places h p rows u ps) in
      let x = follows.0 in
      let passed : has_place_over all before b ≡ true = all_contained (λ (q : Place). q.0 ≡ b → AreAmong (tops q.1) before → has_place_over all before b ≡ true) all x.at (passes before b all) x.among x.is x.children in
      let one : over_children h rows before b p u ps ≡ 1 = ap {B = ℕ} (λ c. cond c 1 0) passed in
      (omega (arith, one), follows_placed p u ps (before ++ b ∷ []) bs follows.1)
