-- Puts of a way from the bottom up leave each block that came with its children held.
use Rattle.std.proofs.Common.{◌≡◌, ◌⊎◌, inl, inr, ⊎_elim, ℕ, zero, suc, ◌+◌, Bool, true, false, cond, List, [], ◌∷◌, ◌++◌, map, take, Option, Some, None, refl, sym, ap, subst, arith, append_assoc, append-nil}
use Rattle.std.specs.Prelude.{Contains, IsSome, is_some, reverse}
use Rattle.std.specs.List.{AllByRecursion, filter}
use Rattle.std.specs.Cmp.Lexicographic.{nat_list_eq_equiv}
use Rattle.std.proofs.lemmas.List.{reverse-append}
use Rattle.ild_edges.specs.Gained.{AreHeld}
use Rattle.ild_edges.specs.Among.{IsIn}
use Rattle.ild_bulk.specs.Putting.{StopsAfter}
use Rattle.ild_bulk.proofs.Childs.{held_among}
use Rattle.ild_edges.proofs.Among.{IsIn-right, IsIn-of}
use Rattle.ild_data.proofs.AllOf.{all_contained, contains_more}
use Rattle.ild_data.specs.Key.{same_text}
use Rattle.ild_data.specs.Spell.{id_of}
use Rattle.ild_edges.specs.Store.{Keeps, block_at}
use Rattle.ild_edges.specs.Told.{BothTold}
use Rattle.ild_hamt.proofs.Beneath.{among-take}
use Rattle.ild_script_session.specs.Step.{IsWhole}
use Rattle.ild_typed.proofs.Rooms.{all_more}
use Rattle.ild_typed_places.specs.Places.{Place, Places, children_at, each_place, tops}
use Rattle.ild_typed_places.proofs.Listing.{all_mapped}
use Rattle.ild_path_children.specs.Ways.{AddsPlaced, HasPlace, IsNear, PutsLeaveWays, WayIn}
use Rattle.ild_path_children.proofs.Topping.{place_more}
use Rattle.ild_path_children.proofs.Wayward.{Held}

-- ---- from the bottom up

-- a block is held, or one of those before
abbrev IsThere : List (List ℕ) → List (List ℕ) → List ℕ → Type 0
IsThere was before c = Held was c ⊎ IsIn c before

abbrev Rises : Places → List (List ℕ) → List (List ℕ) → List (List ℕ) → Type 0
Rises home was before [] = Unit {0}
Rises home was before (b ∷ bs) = HasPlace home (IsThere was before) b × Rises home was (before ++ b ∷ []) bs

rises_append : (home : Places) (was before xs ys : List (List ℕ)) → Rises home was before xs → Rises home was (before ++ xs) ys → Rises home was before (xs ++ ys)
rises_append home was before [] ys first second = subst (λ (bs : List (List ℕ)). Rises home was bs ys) (append-nil before) second
rises_append home was before (x ∷ xs) ys first second =
    (first.0, rises_append home was (before ++ x ∷ []) xs ys first.1 (subst (λ (bs : List (List ℕ)). Rises home was bs ys) (sym (append_assoc before (x ∷ []) xs)) second))

near_there : (was ws : List (List ℕ)) (c : List ℕ) → IsNear was ws c → IsThere was (reverse ws) c
near_there was [] c near = ⊎_elim (λ held. inl held) (λ none. absurd none) near
near_there was (w ∷ ws) c near =
    ⊎_elim (λ held. inl held)
    (λ next. inr (subst (λ (bs : List (List ℕ)). IsIn c bs) (sym (reverse-append (w ∷ []) ws)) (IsIn-right c (reverse ws) (w ∷ []) (inl (sym next))))) near

way_rises : (home : Places) (was ws : List (List ℕ)) → WayIn home was ws → Rises home was [] (reverse ws)
way_rises home was [] way = tt
way_rises home was (w ∷ ws) way =
    subst (λ (bs : List (List ℕ)). Rises home was [] bs) (sym (reverse-append (w ∷ []) ws))
    (rises_append home was [] (reverse ws) (w ∷ []) (way_rises home was ws way.1) (place_more home (IsNear was ws) (IsThere was (reverse ws)) w (near_there was ws) way.0, tt))

-- ---- in a store

held_push : (bs now : List (List ℕ)) (b : List ℕ) → AreHeld bs now → Held now b → AreHeld (bs ++ b ∷ []) now
held_push [] now b held is = (is, tt)
held_push (c ∷ bs) now b held is = (held.0, held_push bs now b held.1 is)

module _ (home : Places) (was now : List (List ℕ)) (keeps : Keeps was now) where
  there : (before : List (List ℕ)) (b c : List ℕ) → AreHeld before now → b ≡ c → HasPlace home (IsThere was before) c → HasPlace home (Held now) b
  there before b c done same x =
      subst (HasPlace home (Held now)) (sym same) (place_more home (IsThere was before) (Held now) c (λ d. ⊎_elim (λ held. keeps (id_of d) d held) (λ among. held_among before now d done among)) x)

  -- each of the first blocks, of which all but the last are held
  first_placed : (k : ℕ) (before bs : List (List ℕ)) (b : List ℕ) → Rises home was before bs → AreHeld before now → AreHeld (take k bs) now → IsIn b (take (suc k) bs) → HasPlace home (Held now) b
  first_placed k before [] b rises done held is = absurd is
  first_placed zero before (c ∷ bs) b rises done held is = ⊎_elim (λ here. there before b c done here rises.0) (λ none. absurd none) is
  first_placed (suc k) before (c ∷ bs) b rises done held is =
      ⊎_elim (λ here. there before b c done here rises.0) (λ more. first_placed k (before ++ c ∷ []) bs b rises.1 (held_push before now c done held.0) held.1 more) is

-- ---- the ids of the children, as they are listed for a place

abbrev ids_at : Place → List (List ℕ)
ids_at q = map id_of (tops q.1)

all_listed : (b : List ℕ) (qs : List Place) → AllByRecursion (λ q. same_text b q.0 ≡ true → Contains (map ids_at (filter (λ q. same_text b q.0) qs)) (ids_at q)) qs
all_listed b [] = tt
all_listed b (r ∷ qs) = by (same_text b r.0) (all_listed b qs) where
  by : (t : Bool) → AllByRecursion (λ x. same_text b x.0 ≡ true → Contains (map ids_at (filter (λ q. same_text b q.0) qs)) (ids_at x)) qs
      → (t ≡ true → Contains (map ids_at (cond t (r ∷ filter (λ q. same_text b q.0) qs) (filter (λ q. same_text b q.0) qs))) (ids_at r))
      × AllByRecursion (λ x. same_text b x.0 ≡ true → Contains (map ids_at (cond t (r ∷ filter (λ q. same_text b q.0) qs) (filter (λ q. same_text b q.0) qs))) (ids_at x)) qs
  by true rest = (
    (λ e. (zero, omega arith, refl)),
    all_more (λ x. same_text b x.0 ≡ true → Contains (map ids_at (filter (λ q. same_text b q.0) qs)) (ids_at x)) (λ x. same_text b x.0 ≡ true → Contains (ids_at r ∷ map ids_at (filter (λ q. same_text b q.0) qs)) (ids_at x))
        (λ x f e. contains_more (ids_at r) (map ids_at (filter (λ q. same_text b q.0) qs)) (ids_at x) (f e)) qs rest,
  )
  by false rest = ((λ e. absurd cc), rest)

whole_of : (home : Places) (now : List (List ℕ)) (b : List ℕ) → HasPlace home (Held now) b → IsWhole now (children_at home b)
whole_of home now b x = record {
  ids = ids_at x.at;
  place = all_contained (λ q. same_text b q.0 ≡ true → Contains (children_at home b) (ids_at q)) (each_place home) x.at (all_listed b (each_place home)) x.among
      (subst (λ (c : List ℕ). same_text b c ≡ true) (sym x.is) (nat_list_eq_equiv.refl b));
  children = all_mapped (λ id. IsSome (block_at now id)) id_of (tops x.at.1) (all_more (Held now) (λ c. IsSome (block_at now (id_of c))) (λ c held. ap is_some held) (tops x.at.1) x.children);
}

next_is : (k : ℕ) → k + 1 ≡ suc k
next_is k = omega arith

stopped : (home : Places) (was now ws : List (List ℕ)) (k : ℕ) → Keeps was now → WayIn home was ws → StopsAfter (reverse ws) k was now → AddsPlaced home (reverse ws) was now
stopped home was now ws k keeps way stops id b held =
    ⊎_elim (λ before. inl before)
    (λ came. let among = IsIn-of b (take (k + 1) (reverse ws)) came in inr (
      among-take b (k + 1) (reverse ws) among,
      whole_of home now b (first_placed home was now keeps k [] (reverse ws) b (way_rises home was ws way) tt stops.held (subst (λ (n : ℕ). IsIn b (take n (reverse ws))) (next_is k) among)),
    )) (stops.adds id b held)

told_first : (o q : Option (List (List ℕ))) (was : List (List ℕ)) (P Q R : List (List ℕ) → List (List ℕ) → Type 0) → o ≡ Some was → ((now : List (List ℕ)) → P was now → Q was now → R was now)
    → BothTold o q P → BothTold o q Q → BothTold o q R
told_first None q was P Q R is f t u = absurd cc
told_first (Some a) None was P Q R is f t u = absurd t
told_first (Some a) (Some b) was P Q R is f t u = let same : was ≡ a = cc in subst (λ c. R c b) same (f b (subst (λ c. P c b) (sym same) t) (subst (λ c. Q c b) (sym same) u))

pub leave_ways : PutsLeaveWays
leave_ways = λ home was ws m n r told way puts.
    told_first m.blocks n.blocks was Keeps (StopsAfter (reverse ws) puts.stops.0) (AddsPlaced home (reverse ws)) told
    (λ now keeps stops. stopped home was now ws puts.stops.0 keeps way stops) puts.later.keeps puts.stops.1
