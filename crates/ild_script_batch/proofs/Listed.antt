-- Blocks that are listed, and what is told of them.
use Rattle.std.proofs.Common.{◌≡◌, ◌⊎◌, inl, inr, ⊎_elim, ℕ, zero, List, [], ◌∷◌, ◌++◌, map, filter, Bool, true, false, cond, ◌||◌, Option, Some, None, refl, sym, ◌∙◌, subst, arith}
use Rattle.std.specs.Prelude.{Contains, IsSome, option_map}
use Rattle.std.specs.List.{AllByRecursion, list_any}
use Rattle.std.specs.Cmp.Lexicographic.{same_text as texts_same}
use Rattle.ild_data.proofs.AllOf.{contains_more}
use Rattle.ild_data.specs.Key.{same_text}
use Rattle.ild_data.specs.Spell.{id_of}
use Rattle.ild_edges.specs.Among.{IsIn}
use Rattle.ild_dirty.proofs.Batching.{own_first, then_held}
use Rattle.ild_edges.specs.Store.{Keeps, block_at}
use Rattle.ild_edges.specs.Told.{BothTold, IfTold}
use Rattle.ild_typed.proofs.Rooms.{all_more}
use Rattle.ild_typed_places.specs.Places.{Place, tops}
use Rattle.ild_script_meaning.specs.Costs.{different}
use Rattle.ild_script_session.proofs.Came.{Came}

-- ---- one of many

pub all_in : (P : List ℕ → Type 0) (bs : List (List ℕ)) (b : List ℕ) → AllByRecursion P bs → IsIn b bs → P b
all_in P [] b all is = absurd is
all_in P (c ∷ bs) b all (inl same) = subst P (sym same) all.0
all_in P (c ∷ bs) b all (inr more) = all_in P bs b all.1 more

-- ---- those that differ

either_is : (a b : Bool) → (a || b) ≡ true → (a ≡ true) ⊎ (b ≡ true)
either_is true b e = inl refl
either_is false b e = inr e

any_in : (b : List ℕ) (bs : List (List ℕ)) → list_any (same_text b) bs ≡ true → IsIn b bs
any_in b [] e = absurd (let bad : false ≡ true = e in cc)
any_in b (c ∷ bs) e = ⊎_elim (λ here. inl (texts_same b c (sym here))) (λ more. inr (any_in b bs more)) (either_is (same_text b c) (list_any (same_text b) bs) e)

-- each block of a list is one of those
pub in_different : (b : List ℕ) (bs : List (List ℕ)) → IsIn b bs → IsIn b (different bs)
in_different b [] is = absurd is
in_different b (c ∷ bs) is = by (list_any (same_text c) bs) refl (λ more. in_different b bs more) is where
  by : (t : Bool) → list_any (same_text c) bs ≡ t → (IsIn b bs → IsIn b (different bs)) → IsIn b (c ∷ bs) → IsIn b (cond t (different bs) (c ∷ different bs))
  by true e rest (inl same) = rest (subst (λ (x : List ℕ). IsIn x bs) (sym same) (any_in c bs e))
  by true e rest (inr more) = rest more
  by false e rest (inl same) = inl same
  by false e rest (inr more) = inr (rest more)

-- ---- the ids of children, as they are listed for a place

abbrev pub ids_at : Place → List (List ℕ)
ids_at q = map id_of (tops q.1)

pub all_listed : (b : List ℕ) (qs : List Place) → AllByRecursion (λ q. same_text b q.0 ≡ true → Contains (map ids_at (filter (λ q. same_text b q.0) qs)) (ids_at q)) qs
all_listed b [] = tt
all_listed b (r ∷ qs) = by (same_text b r.0) (all_listed b qs) where
  by : (t : Bool) → AllByRecursion (λ x. same_text b x.0 ≡ true → Contains (map ids_at (filter (λ q. same_text b q.0) qs)) (ids_at x)) qs
      → (t ≡ true → Contains (map ids_at (cond t (r ∷ filter (λ q. same_text b q.0) qs) (filter (λ q. same_text b q.0) qs))) (ids_at r))
      × AllByRecursion (λ x. same_text b x.0 ≡ true → Contains (map ids_at (cond t (r ∷ filter (λ q. same_text b q.0) qs) (filter (λ q. same_text b q.0) qs))) (ids_at x)) qs
  by true rest = (
    (λ e. (zero, omega arith, refl)),
    all_more (λ x. same_text b x.0 ≡ true → Contains (map ids_at (filter (λ q. same_text b q.0) qs)) (ids_at x)) (λ x. same_text b x.0 ≡ true → Contains (ids_at r ∷ map ids_at (filter (λ q. same_text b q.0) qs)) (ids_at x))
        (λ x f e. contains_more (ids_at r) (map ids_at (filter (λ q. same_text b q.0) qs)) (ids_at x) (f e)) qs rest,
  )
  by false rest = ((λ e. absurd cc), rest)

-- ---- what is told

pub told_if : {A : Type 0} (a b : Option A) (P : A → Type 0) (Q R : A → A → Type 0) → ((was now : A) → P was → Q was now → R was now) → IfTold a P → BothTold a b Q → BothTold a b R
told_if None None P Q R f p q = tt
told_if None (Some y) P Q R f p q = absurd q
told_if (Some x) None P Q R f p q = absurd q
told_if (Some x) (Some y) P Q R f p q = f x y p q

pub told_now : {A : Type 0} (a b : Option A) (P : A → Type 0) (Q : A → A → Type 0) (R : A → Type 0) → ((was now : A) → P was → Q was now → R now) → IfTold a P → BothTold a b Q → IfTold b R
told_now None None P Q R f p q = tt
told_now None (Some y) P Q R f p q = absurd q
told_now (Some x) None P Q R f p q = absurd q
told_now (Some x) (Some y) P Q R f p q = f x y p q

pub over_own : (own : List (List ℕ)) (a b : Option (List (List ℕ))) (P Q : List (List ℕ) → List (List ℕ) → Type 0) → ((was now : List (List ℕ)) → P was now → Q (own ++ was) (own ++ now)) → BothTold a b P
    → BothTold (option_map (λ held. own ++ held) a) (option_map (λ held. own ++ held) b) Q
over_own own None None P Q f p = tt
over_own own None (Some y) P Q f p = absurd p
over_own own (Some x) None P Q f p = absurd p
over_own own (Some x) (Some y) P Q f p = f x y p

-- ---- beneath blocks of the batch's own

pub keeps_over : (own was now : List (List ℕ)) → Keeps was now → Keeps (own ++ was) (own ++ now)
keeps_over own was now keeps id b held = by (block_at own id) refl where
  by : (o : Option (List ℕ)) → o ≡ block_at own id → block_at (own ++ now) id ≡ Some b
  by None is = then_held own now id (sym is) ∙ keeps id b (sym (then_held own was id (sym is)) ∙ held)
  by (Some c) is = own_first own now id c (sym is) ∙ sym (own_first own was id c (sym is)) ∙ held

pub came_over : (own : List (List ℕ)) (New Over : List ℕ → List (List ℕ) → Type 0) (was now : List (List ℕ)) → ((b : List ℕ) → New b now → Over b (own ++ now)) → Came New was now → Came Over (own ++ was) (own ++ now)
came_over own New Over was now up came id b held = by (block_at own id) refl where
  by : (o : Option (List ℕ)) → o ≡ block_at own id → (block_at (own ++ was) id ≡ Some b) ⊎ Over b (own ++ now)
  by None is = ⊎_elim (λ before. inl (then_held own was id (sym is) ∙ before)) (λ new. inr (up b new)) (came id b (sym (then_held own now id (sym is)) ∙ held))
  by (Some c) is = inl (own_first own was id c (sym is) ∙ sym (own_first own now id c (sym is)) ∙ held)

pub some_over : (own held : List (List ℕ)) (id : List ℕ) → IsSome (block_at held id) → IsSome (block_at (own ++ held) id)
some_over own held id some = by (block_at own id) refl where
  by : (o : Option (List ℕ)) → o ≡ block_at own id → IsSome (block_at (own ++ held) id)
  by None is = subst (λ (o : Option (List ℕ)). IsSome o) (sym (then_held own held id (sym is))) some
  by (Some c) is = subst (λ (o : Option (List ℕ)). IsSome o) (sym (own_first own held id c (sym is))) refl
