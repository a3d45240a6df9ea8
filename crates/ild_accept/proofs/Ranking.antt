-- Ranks, to none of which a step from a lower one leads.
use Rattle.std.proofs.Common.{◌≡◌, ℕ, zero, suc, ◌+◌, ◌<◌, ◌≤◌, inl, inr, Bool, true, false, ◌&&◌, List, [], ◌∷◌, length, get_or, refl, sym, ap, subst, arith}
use Rattle.std.specs.Prelude.{nat_lt}
use Rattle.std.specs.List.{Contains, list_all}
use Rattle.std.proofs.lemmas.Bool.{cases_lt, cases_eq, ltb-true}
use Rattle.ild_schema.specs.declared.row.Row.{Row}
use Rattle.ild_schema.specs.Cycles.{steps_at, Reaches, IsCyclic}
use Rattle.ild_accept.specs.inside.Search.{rank_of, AreRanked, IsLow}
use Rattle.ild_accept.proofs.Stepwise.{steps_past}

first : (a b : Bool) → a && b ≡ true → a ≡ true
first true b h = refl
first false b h = h

second : (a b : Bool) → a && b ≡ true → b ≡ true
second true b h = h
second false b h = absurd cc

lower_at : (ranks : List ℕ) (rank : ℕ) (xs : List ℕ) (k t : ℕ) → list_all (λ x. nat_lt (rank_of ranks x) rank) xs ≡ true → k < length xs → get_or xs k t ≡ t → rank_of ranks t < rank
lower_at ranks rank [] k t h within e = absurd (omega arith)
lower_at ranks rank (x ∷ xs) zero t h within e =
    let P : ℕ → Type 0 = λ i. rank_of ranks i < rank in
    subst P e (ltb-true (rank_of ranks x) rank (first (nat_lt (rank_of ranks x) rank) (list_all (λ y. nat_lt (rank_of ranks y) rank) xs) h))
lower_at ranks rank (x ∷ xs) (suc k) t h within e =
    lower_at ranks rank xs k t (second (nat_lt (rank_of ranks x) rank) (list_all (λ y. nat_lt (rank_of ranks y) rank) xs) h) (omega arith) e

-- what is tested of the steps from a type
pub all_lower : (rows : List Row) (ranks : List ℕ) (rank n : ℕ) (steps : List ℕ) → steps ≡ steps_at rows n → list_all (λ x. nat_lt (rank_of ranks x) rank) steps ≡ true
    → (t : ℕ) → Contains (steps_at rows n) t → rank_of ranks t < rank
all_lower rows ranks rank n steps same h t c =
    let P : List ℕ → Type 0 = λ xs. Contains xs t in
    let d : Contains steps t = subst P (sym same) c in
    lower_at ranks rank steps d.0 t h d.1 d.2

-- steps lead down, or stay
falls : (rows : List Row) (ranks : List ℕ) → AreRanked rows ranks → (k n m : ℕ) → Reaches rows k n m → rank_of ranks m ≤ rank_of ranks n
falls rows ranks ranked zero n m r = let e : rank_of ranks n ≡ rank_of ranks m = ap (rank_of ranks) r in omega (arith, e)
falls rows ranks ranked (suc k) n m r = omega (arith, ranked n r.0 r.1, falls rows ranks ranked k r.0 m r.2)

pub low_is_none : (rows : List Row) (ranks : List ℕ) (n : ℕ) → AreRanked rows ranks → IsLow rows ranks n → IsCyclic rows n → ⊥
low_is_none rows ranks n ranked low c = absurd (omega (arith, low c.1.0 c.1.1, falls rows ranks ranked c.0 c.1.0 n c.1.2))

-- one type after the other
pub ranked_next : (rows : List Row) (ranks : List ℕ) (n : ℕ) → ((m t : ℕ) → m < n → Contains (steps_at rows m) t → rank_of ranks t ≤ rank_of ranks m)
    → ((t : ℕ) → Contains (steps_at rows n) t → rank_of ranks t < rank_of ranks n + 1) → (m t : ℕ) → m < n + 1 → Contains (steps_at rows m) t → rank_of ranks t ≤ rank_of ranks m
ranked_next rows ranks n below here m t lt c = elim (cases_eq m n) [
  | inl same ↦
      let P : ℕ → Type 0 = λ i. Contains (steps_at rows i) t in
      let e : rank_of ranks m ≡ rank_of ranks n = ap (rank_of ranks) same in
      omega (arith, e, here t (subst P same c))
  | inr other ↦ below m t (omega arith) c
]

pub ranked_all : (rows : List Row) (ranks : List ℕ) (n : ℕ) → length rows ≤ n → ((m t : ℕ) → m < n → Contains (steps_at rows m) t → rank_of ranks t ≤ rank_of ranks m) → AreRanked rows ranks
ranked_all rows ranks n all below m t c = elim (cases_lt m n) [
  | inl lt ↦ below m t lt c
  | inr beyond ↦
      let none : Contains [] t = let P : List ℕ → Type 0 = λ xs. Contains xs t in subst P (steps_past rows m (omega arith)) c in
      absurd (omega (arith, none.1))
]
