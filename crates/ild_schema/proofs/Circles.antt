-- Types that are copies of themselves.
use Rattle.std.proofs.Common.{◌≡◌, ℕ, zero, suc, ◌<◌, ◌≤◌, ◌+◌, ◌*◌, ◌-◌, ◌⊎◌, inl, inr, List, [], ◌∷◌, Option, Some, None, length, unwrap_or, refl, ap, sym, ◌∙◌, subst, arith}
use Rattle.std.specs.Option.{option_and_then, option_map_or}
use Rattle.ild_schema.specs.declared.row.Row.{Row}
use Rattle.ild_schema.specs.Copies.{target_in, followed, leads, IsCircular}
use Rattle.ild_schema.specs.Table.{def_at}
use Rattle.ild_schema.proofs.Doubles.{Meets, meets}

-- so many copies, and then so many more
pub leads_on : (rows : List Row) (a b n : ℕ) → leads rows (a + b) n ≡ option_and_then (λ m. leads rows b m) (leads rows a n)
leads_on rows zero b n = let e : zero + b ≡ b = omega arith in ap (λ k. leads rows k n) e
leads_on rows (suc a) b n = let e : suc a + b ≡ suc (a + b) = omega arith in ap (λ k. leads rows k n) e ∙ by (target_in (def_at rows n)) (λ t. leads_on rows a b t)
  where
    by : (o : Option ℕ) → ((t : ℕ) → leads rows (a + b) t ≡ option_and_then (λ m. leads rows b m) (leads rows a t)) → option_and_then (λ t. leads rows (a + b) t) o ≡ option_and_then (λ m. leads rows b m) (option_and_then (λ t. leads rows a t) o)
    by None h = refl
    by (Some t) h = h t

-- the same, from a type to a second and on to a third
pub leads_through : (rows : List Row) (a b c n m l : ℕ) → c ≡ a + b → leads rows a n ≡ Some m → leads rows b m ≡ Some l → leads rows c n ≡ Some l
leads_through rows a b c n m l e first second = ap (λ k. leads rows k n) e ∙ leads_on rows a b n ∙ ap (λ o. option_and_then (λ m. leads rows b m) o) first ∙ second

-- what leads to a type in many copies leads to one in fewer, which leads on to it
pub record Halts (rows : List Row) (a b n l : ℕ) : Type 0 where
  pub at : ℕ
  pub before : leads rows a n ≡ Some at
  pub after : leads rows b at ≡ Some l

pub leads_parts : (rows : List Row) (a b c n l : ℕ) → c ≡ a + b → leads rows c n ≡ Some l → Halts rows a b n l
leads_parts rows a b c n l e h = by (leads rows a n) refl (sym (leads_on rows a b n) ∙ ap (λ k. leads rows k n) (sym e) ∙ h)
  where
    by : (o : Option ℕ) → leads rows a n ≡ o → option_and_then (λ m. leads rows b m) o ≡ Some l → Halts rows a b n l
    by None first then = absurd (cc)
    by (Some m) first then = record { at = m; before = first; after = then }

-- equal types lead to the same
pub leads_same : (rows : List Row) (k n m l : ℕ) → n ≡ m → leads rows k n ≡ Some l → leads rows k m ≡ Some l
leads_same rows k n m l e h = subst (λ x. leads rows k x ≡ Some l) e h

-- what a type leads to comes back to itself in as many copies as the type does
pub round_on : (rows : List Row) (d t v m : ℕ) → leads rows (suc d) v ≡ Some v → leads rows t v ≡ Some m → leads rows (suc d) m ≡ Some m
round_on rows d t v m round h =
    let whole : leads rows (t + suc d) v ≡ Some m = leads_through rows (suc d) t (t + suc d) v v m (omega arith) round h in
    let parts : Halts rows t (suc d) v m = leads_parts rows t (suc d) (t + suc d) v m refl whole in
    let same : parts.at ≡ m = cc (parts.before, h) in
    leads_same rows (suc d) parts.at m m same parts.after

pub circular_on : (rows : List Row) (t v m : ℕ) → IsCircular rows v → leads rows t v ≡ Some m → IsCircular rows m
circular_on rows t v m round h = (round.0, round_on rows round.0 t v m round.1 h)

-- a chain that meets a type twice
pub round_twice : (rows : List Row) (i j n v : ℕ) → i < j → leads rows i n ≡ Some v → leads rows j n ≡ Some v → leads rows (suc (j - suc i)) v ≡ Some v
round_twice rows i j n v apart first second =
    let parts : Halts rows i (suc (j - suc i)) n v = leads_parts rows i (suc (j - suc i)) j n v (omega arith) second in
    let same : parts.at ≡ v = cc (parts.before, first) in
    leads_same rows (suc (j - suc i)) parts.at v v same parts.after

pub circular_twice : (rows : List Row) (i j n v : ℕ) → i < j → leads rows i n ≡ Some v → leads rows j n ≡ Some v → IsCircular rows v
circular_twice rows i j n v apart first second = (j - suc i, round_twice rows i j n v apart first second)

-- a type that is a copy of itself, as often as you like
pub circular_rounds : (rows : List Row) (c d n : ℕ) → leads rows (suc d) n ≡ Some n → leads rows (c * suc d) n ≡ Some n
circular_rounds rows zero d n h = let e : zero * suc d ≡ zero = omega arith in ap (λ k. leads rows k n) e
circular_rounds rows (suc c) d n h = leads_through rows (suc d) (c * suc d) (suc c * suc d) n n n (omega arith) h (circular_rounds rows c d n h)

-- what it leads to leads back to it
pub circular_back : (rows : List Row) (k n m : ℕ) → IsCircular rows n → leads rows k n ≡ Some m → (j : ℕ) × (leads rows j m ≡ Some n)
circular_back rows k n m round h =
    let parts : Halts rows k (k * round.0) n n = leads_parts rows k (k * round.0) (k * suc round.0) n n (omega arith) (circular_rounds rows k round.0 n round.1) in
    let same : parts.at ≡ m = cc (parts.before, h) in
    (k * round.0, leads_same rows (k * round.0) parts.at m n same parts.after)

-- the type to which so many copies lead, or the number 0
spot : List Row → ℕ → ℕ → ℕ
spot rows n i = unwrap_or (leads rows i n) 0

spot_is : (rows : List Row) (n i v : ℕ) → leads rows i n ≡ Some v → v ≡ spot rows n i
unfolding spot
spot_is rows n i v h = sym (ap (λ o. unwrap_or o 0) h)

-- a chain of as many copies as there are types ends at a type that is a copy of itself, if all its types are in the table
pub circular_after : (rows : List Row) (k n m : ℕ) → length rows ≤ k → ((i v : ℕ) → i ≤ length rows → leads rows i n ≡ Some v → v < length rows) → leads rows k n ≡ Some m → IsCircular rows m
circular_after rows k n m long within h =
    let twice : Meets (spot rows n) (suc (length rows)) = meets (length rows) (spot rows n) (λ i low. within i (spot rows n i) (omega arith) (found i (omega arith))) in
    let first : twice.first ≤ length rows = omega (arith, twice.apart, twice.within) in
    let second : twice.second ≤ length rows = omega (arith, twice.within) in
    let rest : Halts rows twice.first (k - twice.first) n m = halts twice.first first in
    let same : rest.at ≡ spot rows n twice.first = spot_is rows n twice.first rest.at rest.before in
    circular_on rows (k - twice.first) (spot rows n twice.first) m
    (circular_twice rows twice.first twice.second n (spot rows n twice.first) twice.apart (found twice.first first) (found twice.second second ∙ ap Some (sym twice.same)))
    (leads_same rows (k - twice.first) rest.at (spot rows n twice.first) m same rest.after)
  where
    halts : (i : ℕ) → i ≤ length rows → Halts rows i (k - i) n m
    halts i low = leads_parts rows i (k - i) k n m (omega arith) h

    found : (i : ℕ) → i ≤ length rows → leads rows i n ≡ Some (spot rows n i)
    found i low = (halts i low).before ∙ ap Some (spot_is rows n i (halts i low).at (halts i low).before)

-- a type that is a copy is in the table
pub copy_here : (rows : List Row) (k n m : ℕ) → leads rows (suc k) n ≡ Some m → n < length rows
copy_here rows k n m h = by rows n (option_some (λ t. leads rows k t) (target_in (def_at rows n)) m h)
  where
    option_some : (f : ℕ → Option ℕ) (o : Option ℕ) (m : ℕ) → option_and_then f o ≡ Some m → o ≡ None → ⊥
    option_some f None m e none = cc
    option_some f (Some t) m e none = cc

    by : (xs : List Row) (i : ℕ) → (target_in (def_at xs i) ≡ None → ⊥) → i < length xs
    by [] i some = absurd (some refl)
    by (x ∷ xs) zero some = omega arith
    by (x ∷ xs) (suc i) some = let low : i < length xs = by xs i some in omega arith

-- the type to which a type leads in the end, by as many copies as it takes
pub followed_reached : (rows : List Row) (k n : ℕ) → (j : ℕ) × (leads rows j n ≡ Some (followed rows k n))
followed_reached rows zero n = (0, refl)
followed_reached rows (suc k) n = by (target_in (def_at rows n)) refl (λ t. followed_reached rows k t)
  where
    by : (o : Option ℕ) → target_in (def_at rows n) ≡ o → ((t : ℕ) → (j : ℕ) × (leads rows j t ≡ Some (followed rows k t))) → (j : ℕ) × (leads rows j n ≡ Some (option_map_or (λ t. followed rows k t) (target_in (def_at rows n)) n))
    by None e h = (0, ap (λ o. Some (option_map_or (λ t. followed rows k t) o n)) (sym e))
    by (Some t) e h = (suc (h t).0, ap (λ o. option_and_then (λ m. leads rows (h t).0 m) o) e ∙ (h t).1 ∙ ap (λ o. Some (option_map_or (λ t. followed rows k t) o n)) (sym e))

-- what so many copies lead to is no copy, or there were as many copies
pub followed_or : (rows : List Row) (k n : ℕ) → (target_in (def_at rows (followed rows k n)) ≡ None) ⊎ (leads rows k n ≡ Some (followed rows k n))
followed_or rows zero n = inr refl
followed_or rows (suc k) n = by (target_in (def_at rows n)) refl (λ t. followed_or rows k t)
  where
    after : Option ℕ → ℕ
    after o = option_map_or (λ t. followed rows k t) o n

    by : (o : Option ℕ) → target_in (def_at rows n) ≡ o → ((t : ℕ) → (target_in (def_at rows (followed rows k t)) ≡ None) ⊎ (leads rows k t ≡ Some (followed rows k t)))
        → (target_in (def_at rows (option_map_or (λ t. followed rows k t) (target_in (def_at rows n)) n)) ≡ None) ⊎ (option_and_then (λ t. leads rows k t) (target_in (def_at rows n)) ≡ Some (option_map_or (λ t. followed rows k t) (target_in (def_at rows n)) n))
    by None e h = inl (ap (λ o. target_in (def_at rows (option_map_or (λ t. followed rows k t) o n))) e ∙ e)
    by (Some t) e h = elim (h t) [
      | inl ends ↦ inl (ap (λ o. target_in (def_at rows (option_map_or (λ t. followed rows k t) o n))) e ∙ ends)
      | inr goes ↦ inr (ap (λ o. option_and_then (λ t. leads rows k t) o) e ∙ goes ∙ ap (λ o. Some (option_map_or (λ t. followed rows k t) o n)) (sym e))
    ]

-- a type that is a copy of itself is so through no more copies than there are types
pub circular_short : (rows : List Row) (n : ℕ) → IsCircular rows n → (d : ℕ) × (d < length rows) × (leads rows (suc d) n ≡ Some n)
circular_short rows n round =
    let twice : Meets (spot rows n) (suc (length rows)) = meets (length rows) (spot rows n) (λ i low. copy_here rows (length rows * suc round.0 + round.0 - i) (spot rows n i) n (after i (omega arith))) in
    let first : leads rows twice.first n ≡ Some (spot rows n twice.first) = found twice.first (omega (arith, twice.apart, twice.within)) in
    let second : leads rows twice.second n ≡ Some (spot rows n twice.first) = found twice.second (omega (arith, twice.within)) ∙ ap Some (sym twice.same) in
    let back = circular_back rows twice.first n (spot rows n twice.first) round first in
    let again : leads rows (suc (twice.second - suc twice.first)) (spot rows n twice.first) ≡ Some (spot rows n twice.first) = round_twice rows twice.first twice.second n (spot rows n twice.first) twice.apart first second in (
      twice.second - suc twice.first,
      omega (arith, twice.apart, twice.within),
      round_on rows (twice.second - suc twice.first) back.0 (spot rows n twice.first) n again back.1,
    )
  where
    whole : leads rows (suc (length rows) * suc round.0) n ≡ Some n
    whole = circular_rounds rows (suc (length rows)) round.0 n round.1

    halts : (i : ℕ) → i ≤ length rows → Halts rows i (suc (length rows * suc round.0 + round.0 - i)) n n
    halts i low = leads_parts rows i (suc (length rows * suc round.0 + round.0 - i)) (suc (length rows) * suc round.0) n n (omega arith) whole

    found : (i : ℕ) → i ≤ length rows → leads rows i n ≡ Some (spot rows n i)
    found i low = (halts i low).before ∙ ap Some (spot_is rows n i (halts i low).at (halts i low).before)

    after : (i : ℕ) → i ≤ length rows → leads rows (suc (length rows * suc round.0 + round.0 - i)) (spot rows n i) ≡ Some n
    after i low = leads_same rows (suc (length rows * suc round.0 + round.0 - i)) (halts i low).at (spot rows n i) n (spot_is rows n i (halts i low).at (halts i low).before) (halts i low).after
