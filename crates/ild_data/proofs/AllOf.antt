-- What holds of each element of a list, and what a list contains.
use Rattle.std.proofs.Common.{◌≡◌, ℕ, zero, suc, ◌<◌, Bool, true, false, cond, List, [], ◌∷◌, ◌++◌, length, filter, slice_get, Some, refl, subst, arith}
use Rattle.std.specs.Prelude.{Contains, slice_index_or}
use Rattle.std.specs.List.{AllByRecursion}
use Rattle.std.proofs.lemmas.Option.{none-some, same_Some}

module _ {X : Type 0} (P : X → Type 0) where
  pub all_append : (xs ys : List X) → AllByRecursion P xs → AllByRecursion P ys → AllByRecursion P (xs ++ ys)
  all_append [] ys a b = b
  all_append (x ∷ xs) ys a b = (a.0, all_append xs ys a.1 b)

  pub all_first : (xs ys : List X) → AllByRecursion P (xs ++ ys) → AllByRecursion P xs
  all_first [] ys all = tt
  all_first (x ∷ xs) ys all = (all.0, all_first xs ys all.1)

  pub all_second : (xs ys : List X) → AllByRecursion P (xs ++ ys) → AllByRecursion P ys
  all_second [] ys all = all
  all_second (x ∷ xs) ys all = all_second xs ys all.1

  pub all_split : (xs ys : List X) → AllByRecursion P (xs ++ ys) → AllByRecursion P xs × AllByRecursion P ys
  all_split xs ys all = (all_first xs ys all, all_second xs ys all)

  pub all_push : (xs : List X) (x : X) → AllByRecursion P xs → P x → AllByRecursion P (xs ++ x ∷ [])
  all_push [] x all own = (own, tt)
  all_push (y ∷ xs) x all own = (all.0, all_push xs x all.1 own)

  pub all_filter : (f : X → Bool) (xs : List X) → AllByRecursion P xs → AllByRecursion P (filter f xs)
  all_filter f [] all = tt
  all_filter f (x ∷ xs) all = by (f x) (all_filter f xs all.1)
    where
      by : (b : Bool) → AllByRecursion P (filter f xs) → AllByRecursion P (cond b (x ∷ filter f xs) (filter f xs))
      by true rest = (all.0, rest)
      by false rest = rest

  pub all_at : (xs : List X) (i : ℕ) (x : X) → AllByRecursion P xs → slice_get xs i ≡ Some x → P x
  all_at [] i x all e = absurd (none-some x e)
  all_at (y ∷ ys) zero x all e = subst P (same_Some y x e) all.0
  all_at (y ∷ ys) (suc i) x all e = all_at ys i x all.1 e

  pub all_indexed : (xs : List X) → ((i : ℕ) (x : X) → slice_get xs i ≡ Some x → P x) → AllByRecursion P xs
  all_indexed [] h = tt
  all_indexed (y ∷ ys) h = (h 0 y refl, all_indexed ys (λ i x e. h (suc i) x e))

  pub all_contained : (xs : List X) (x : X) → AllByRecursion P xs → Contains xs x → P x
  all_contained [] x all here = let none = here.1 in absurd (omega (arith, none))
  all_contained (y ∷ ys) x all here = by (λ more. all_contained ys x all.1 more) here.0 here.1 here.2 where
    by : (Contains ys x → P x) → (k : ℕ) → k < length (y ∷ ys) → slice_index_or (y ∷ ys) k x ≡ x → P x
    by later zero lt is = subst P is all.0
    by later (suc k) lt is = later (k, omega (arith, lt), is)

pub all_both : {X : Type 0} (P Q : X → Type 0) (xs : List X) → AllByRecursion P xs → AllByRecursion Q xs → AllByRecursion (λ x. P x × Q x) xs
all_both P Q [] a b = tt
all_both P Q (x ∷ xs) a b = ((a.0, b.0), all_both P Q xs a.1 b.1)

pub contains_first : {X : Type 0} (x : X) (xs : List X) → Contains (x ∷ xs) x
contains_first x xs = (zero, omega arith, refl)

pub contains_more : {X : Type 0} (y : X) (ys : List X) (x : X) → Contains ys x → Contains (y ∷ ys) x
contains_more y ys x here = (suc here.0, (let lt = here.1 in omega (arith, lt)), here.2)
