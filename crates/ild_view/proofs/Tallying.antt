-- How many fields of a struct are present: those that aren't optional, and each optional one that is written.
use Rattle.std.proofs.Common.{◌≡◌, ℕ, zero, suc, ◌+◌, ◌<◌, ◌≤◌, List, [], ◌∷◌, length, Bool, true, false, cond, ◌||◌, ◌&&◌, Option, Some, None, refl, sym, ◌∙◌, ap, arith}
use Rattle.std.specs.Prelude.{nat_eq, slice_get}
use Rattle.std.specs.Cmp.{nat_eq_equiv}
use Rattle.std.specs.List.{AllByRecursion, IsDistinct, list_any}
use Rattle.std.proofs.lemmas.Bool.{eq-eqb, eqb-true, and_parts}
use Rattle.std.proofs.lemmas.Map.Made.{length-from_same_keys}
use Rattle.std.proofs.lemmas.Option.{same_Some, none-some}
use Rattle.ild_data.specs.Data.{Data}
use Rattle.ild_schema.specs.declared.def.Field.{Field}
use Rattle.ild_struct.specs.Present.{ArePresent, ComeOnce}
use Rattle.ild_view.specs.Counted.{MayLack, is_optional_at, is_optional_in, optional_of, present_of, required_of}

nat_apart : (m n : ℕ) → (m ≡ n → ⊥) → nat_eq m n ≡ false
nat_apart m n h = by (nat_eq m n) refl where
  by : (b : Bool) → nat_eq m n ≡ b → nat_eq m n ≡ false
  by false e = e
  by true e = absurd (h (eqb-true m n e))

nat_self : (n : ℕ) → nat_eq n n ≡ true
nat_self n = eq-eqb n n refl

all_cond : (P : ℕ → Type 0) (b : Bool) (x : ℕ) (xs : List ℕ) → P x → AllByRecursion P xs → AllByRecursion P (cond b (x ∷ xs) xs)
all_cond P true x xs one all = (one, all)
all_cond P false x xs one all = all

distinct_cond : (b : Bool) (x : ℕ) (xs : List ℕ) → AllByRecursion (λ m. nat_eq x m ≡ false) xs → IsDistinct nat_eq xs → IsDistinct nat_eq (cond b (x ∷ xs) xs)
unfolding IsDistinct
distinct_cond true x xs apart rest = (apart, rest)
distinct_cond false x xs apart rest = rest

-- ---- the numbers of optional fields that are written

abbrev written : List Field → List (ℕ × Data) → List ℕ
written fs [] = []
written fs (x ∷ xs) = cond (is_optional_at fs x.0) (x.0 ∷ written fs xs) (written fs xs)

written_count : (fs : List Field) (xs : List (ℕ × Data)) → optional_of fs xs ≡ length (written fs xs)
written_count fs [] = refl
written_count fs (x ∷ xs) = by (is_optional_at fs x.0) (written_count fs xs) where
  by : (b : Bool) → optional_of fs xs ≡ length (written fs xs) → cond b (suc (optional_of fs xs)) (optional_of fs xs) ≡ length (cond b (x.0 ∷ written fs xs) (written fs xs))
  by true e = ap suc e
  by false e = e

written_apart : (fs : List Field) (n : ℕ) (xs : List (ℕ × Data)) → AllByRecursion (λ (y : ℕ × Data). nat_eq n y.0 ≡ false) xs → AllByRecursion (λ m. nat_eq n m ≡ false) (written fs xs)
written_apart fs n [] all = tt
written_apart fs n (x ∷ xs) all = all_cond (λ m. nat_eq n m ≡ false) (is_optional_at fs x.0) x.0 (written fs xs) all.0 (written_apart fs n xs all.1)

written_distinct : (fs : List Field) (xs : List (ℕ × Data)) → ComeOnce xs → IsDistinct nat_eq (written fs xs)
unfolding IsDistinct
written_distinct fs [] once = tt
written_distinct fs (x ∷ xs) once = distinct_cond (is_optional_at fs x.0) x.0 (written fs xs) (written_apart fs x.0 xs once.0) (written_distinct fs xs once.1)

-- ---- the numbers of optional fields that are present

abbrev kept : ℕ → List Field → List (Option Data) → List ℕ
kept n [] os = []
kept n (f ∷ fs) [] = []
kept n (f ∷ fs) (None ∷ os) = kept (suc n) fs os
kept n (f ∷ fs) (Some d ∷ os) = cond f.optional (n ∷ kept (suc n) fs os) (kept (suc n) fs os)

kept_count : (n : ℕ) (fs : List Field) (os : List (Option Data)) → MayLack fs os → required_of fs + length (kept n fs os) ≡ present_of os
kept_count n [] [] h = refl
kept_count n [] (o ∷ os) h = absurd h
kept_count n (f ∷ fs) [] h = absurd h
kept_count n (f ∷ fs) (None ∷ os) h = ap (λ b. cond b (required_of fs) (suc (required_of fs)) + length (kept (suc n) fs os)) h.0 ∙ kept_count (suc n) fs os h.1
kept_count n (f ∷ fs) (Some d ∷ os) h = by f.optional (kept_count (suc n) fs os h) where
  by : (b : Bool) → required_of fs + length (kept (suc n) fs os) ≡ present_of os
      → cond b (required_of fs) (suc (required_of fs)) + length (cond b (n ∷ kept (suc n) fs os) (kept (suc n) fs os)) ≡ suc (present_of os)
  by true e = omega (arith, e)
  by false e = omega (arith, e)

kept_above : (n m : ℕ) (fs : List Field) (os : List (Option Data)) → n < m → AllByRecursion (λ k. nat_eq n k ≡ false) (kept m fs os)
kept_above n m [] os less = tt
kept_above n m (f ∷ fs) [] less = tt
kept_above n m (f ∷ fs) (None ∷ os) less = kept_above n (suc m) fs os (omega (arith, less))
kept_above n m (f ∷ fs) (Some d ∷ os) less =
    all_cond (λ k. nat_eq n k ≡ false) f.optional m (kept (suc m) fs os) (nat_apart n m (λ e. omega (arith, less, e))) (kept_above n (suc m) fs os (omega (arith, less)))

kept_distinct : (n : ℕ) (fs : List Field) (os : List (Option Data)) → IsDistinct nat_eq (kept n fs os)
unfolding IsDistinct
kept_distinct n [] os = tt
kept_distinct n (f ∷ fs) [] = tt
kept_distinct n (f ∷ fs) (None ∷ os) = kept_distinct (suc n) fs os
kept_distinct n (f ∷ fs) (Some d ∷ os) = distinct_cond f.optional n (kept (suc n) fs os) (kept_above n (suc n) fs os (omega arith)) (kept_distinct (suc n) fs os)

-- ---- both have the same members

abbrev is_held : Option (Option Data) → Bool
is_held None = false
is_held (Some None) = false
is_held (Some (Some d)) = true

abbrev is_kept : List Field → List (Option Data) → ℕ → Bool
is_kept fs os q = is_optional_at fs q && is_held (slice_get os q)

none_among : (q : ℕ) (ns : List ℕ) → AllByRecursion (λ k. nat_eq q k ≡ false) ns → list_any (nat_eq q) ns ≡ false
none_among q [] all = refl
none_among q (n ∷ ns) all = ap (λ b. b || list_any (nat_eq q) ns) all.0 ∙ none_among q ns all.1

never_held : (b : Bool) → b && false ≡ false
never_held true = refl
never_held false = refl

kept_has : (n : ℕ) (fs : List Field) (os : List (Option Data)) (q : ℕ) → list_any (nat_eq (n + q)) (kept n fs os) ≡ is_kept fs os q
kept_has n [] os q = refl
kept_has n (f ∷ fs) [] q = sym (never_held (is_optional_at (f ∷ fs) q))
kept_has n (f ∷ fs) (None ∷ os) zero = none_among (n + zero) (kept (suc n) fs os) (kept_above (n + zero) (suc n) fs os (omega arith)) ∙ sym (never_held f.optional)
kept_has n (f ∷ fs) (None ∷ os) (suc q) =
    let more : n + suc q ≡ suc n + q = omega arith in
    ap (λ m. list_any (nat_eq m) (kept (suc n) fs os)) more ∙ kept_has (suc n) fs os q
kept_has n (f ∷ fs) (Some d ∷ os) zero = by f.optional where
  same : nat_eq (n + zero) n ≡ true
  same = let e : n + zero ≡ n = omega arith in ap (λ m. nat_eq m n) e ∙ nat_self n

  none : list_any (nat_eq (n + zero)) (kept (suc n) fs os) ≡ false
  none = none_among (n + zero) (kept (suc n) fs os) (kept_above (n + zero) (suc n) fs os (omega arith))

  by : (b : Bool) → list_any (nat_eq (n + zero)) (cond b (n ∷ kept (suc n) fs os) (kept (suc n) fs os)) ≡ (b && true)
  by true = ap (λ b. b || list_any (nat_eq (n + zero)) (kept (suc n) fs os)) same
  by false = none
kept_has n (f ∷ fs) (Some d ∷ os) (suc q) =
    let more : n + suc q ≡ suc n + q = omega arith in
    let rest : list_any (nat_eq (n + suc q)) (kept (suc n) fs os) ≡ is_kept fs os q = ap (λ m. list_any (nat_eq m) (kept (suc n) fs os)) more ∙ kept_has (suc n) fs os q in
    by f.optional rest
  where
    other : nat_eq (n + suc q) n ≡ false
    other = nat_apart (n + suc q) n (λ e. omega (arith, e))

    by : (b : Bool) → list_any (nat_eq (n + suc q)) (kept (suc n) fs os) ≡ is_kept fs os q → list_any (nat_eq (n + suc q)) (cond b (n ∷ kept (suc n) fs os) (kept (suc n) fs os)) ≡ is_kept fs os q
    by true rest = ap (λ b. b || list_any (nat_eq (n + suc q)) (kept (suc n) fs os)) other ∙ rest
    by false rest = rest

-- what is written is present
written_kept : (fs : List Field) (os : List (Option Data)) (xs : List (ℕ × Data)) → AllByRecursion (λ x. slice_get os x.0 ≡ Some (Some x.1)) xs → (q : ℕ) → list_any (nat_eq q) (written fs xs) ≡ true → is_kept fs os q ≡ true
written_kept fs os [] sound q h = absurd cc
written_kept fs os (x ∷ xs) sound q h = by (written_kept fs os xs sound.1 q) (is_optional_at fs x.0) refl h where
  own : is_optional_at fs x.0 ≡ true → nat_eq q x.0 ≡ true → is_kept fs os q ≡ true
  own optional same =
      ap (is_kept fs os) (eqb-true q x.0 same) ∙ ap (λ b. b && is_held (slice_get os x.0)) optional ∙ ap is_held sound.0

  among : (list_any (nat_eq q) (written fs xs) ≡ true → is_kept fs os q ≡ true) → is_optional_at fs x.0 ≡ true → (b : Bool) → nat_eq q x.0 ≡ b → (b || list_any (nat_eq q) (written fs xs)) ≡ true → is_kept fs os q ≡ true
  among later optional true same k = own optional same
  among later optional false same k = later k

  by : (list_any (nat_eq q) (written fs xs) ≡ true → is_kept fs os q ≡ true) → (b : Bool) → is_optional_at fs x.0 ≡ b → list_any (nat_eq q) (cond b (x.0 ∷ written fs xs) (written fs xs)) ≡ true → is_kept fs os q ≡ true
  by later true optional k = among later optional (nat_eq q x.0) refl k
  by later false optional k = later k

written_at : (fs : List Field) (xs : List (ℕ × Data)) (q n : ℕ) (d : Data) → is_optional_at fs q ≡ true → slice_get xs n ≡ Some (q, d) → list_any (nat_eq q) (written fs xs) ≡ true
written_at fs [] q n d optional at = absurd (none-some (q, d) at)
written_at fs (x ∷ xs) q zero d optional at =
    let is : x ≡ (q, d) = same_Some x (q, d) at in
    ap (λ (y : ℕ × Data). list_any (nat_eq q) (cond (is_optional_at fs y.0) (y.0 ∷ written fs xs) (written fs xs))) is
    ∙ ap (λ b. list_any (nat_eq q) (cond b (q ∷ written fs xs) (written fs xs))) optional ∙ ap (λ b. b || list_any (nat_eq q) (written fs xs)) (nat_self q)
written_at fs (x ∷ xs) q (suc n) d optional at = by (is_optional_at fs x.0) (written_at fs xs q n d optional at) where
  or_true : (b : Bool) → (b || true) ≡ true
  or_true true = refl
  or_true false = refl

  by : (b : Bool) → list_any (nat_eq q) (written fs xs) ≡ true → list_any (nat_eq q) (cond b (x.0 ∷ written fs xs) (written fs xs)) ≡ true
  by true e = ap (λ c. nat_eq q x.0 || c) e ∙ or_true (nat_eq q x.0)
  by false e = e

-- what is there of an optional field
record KeptAt (fs : List Field) (os : List (Option Data)) (q : ℕ) : Type 0 where
  field : Field
  there : slice_get fs q ≡ Some field
  optional : field.optional ≡ true
  data_there : Data
  held : slice_get os q ≡ Some (Some data_there)

optional_at : (fs : List Field) (q : ℕ) → is_optional_at fs q ≡ true → (f : Field) × (slice_get fs q ≡ Some f) × (f.optional ≡ true)
optional_at [] q h = absurd cc
optional_at (f ∷ fs) zero h = (f, refl, h)
optional_at (f ∷ fs) (suc q) h = optional_at fs q h

held_at : (os : List (Option Data)) (q : ℕ) → is_held (slice_get os q) ≡ true → (d : Data) × (slice_get os q ≡ Some (Some d))
held_at [] q h = absurd cc
held_at (None ∷ os) zero h = absurd cc
held_at (Some d ∷ os) zero h = (d, refl)
held_at (o ∷ os) (suc q) h = held_at os q h

kept_at : (fs : List Field) (os : List (Option Data)) (q : ℕ) → is_kept fs os q ≡ true → KeptAt fs os q
kept_at fs os q h =
    let both = and_parts (is_optional_at fs q) (is_held (slice_get os q)) h in
    let x = optional_at fs q both.0 in
    let y = held_at os q both.1 in
    record { field = x.0; there = x.1; optional = x.2; data_there = y.0; held = y.1 }

module _ (fs : List Field) (os : List (Option Data)) (xs : List (ℕ × Data)) (h : ArePresent fs os xs) where
  same_members : (q : ℕ) → list_any (nat_eq q) (written fs xs) ≡ list_any (nat_eq q) (kept 0 fs os)
  same_members q = by (list_any (nat_eq q) (written fs xs)) refl (is_kept fs os q) refl ∙ sym here where
    here : list_any (nat_eq q) (kept 0 fs os) ≡ is_kept fs os q
    here = let e : q ≡ 0 + q = omega arith in ap (λ m. list_any (nat_eq m) (kept 0 fs os)) e ∙ kept_has 0 fs os q

    back : is_kept fs os q ≡ true → list_any (nat_eq q) (written fs xs) ≡ true
    back k =
        let x = kept_at fs os q k in
        let y = h.optional q x.field x.data_there x.there x.held x.optional in
        written_at fs xs q y.0 x.data_there (ap is_optional_in x.there ∙ x.optional) y.1

    by : (a : Bool) → list_any (nat_eq q) (written fs xs) ≡ a → (b : Bool) → is_kept fs os q ≡ b → list_any (nat_eq q) (written fs xs) ≡ is_kept fs os q
    by true e b k = e ∙ sym (written_kept fs os xs h.sound q e)
    by false e true k = absurd (let t = sym e ∙ back k in cc)
    by false e false k = e ∙ sym k

  optional_kept : optional_of fs xs ≡ length (kept 0 fs os)
  optional_kept = written_count fs xs ∙ length-from_same_keys nat_eq_equiv (written fs xs) (kept 0 fs os) (written_distinct fs xs h.once) (kept_distinct 0 fs os) same_members

  pub all_present : MayLack fs os → required_of fs + optional_of fs xs ≡ present_of os
  all_present lack = ap (λ n. required_of fs + n) optional_kept ∙ kept_count 0 fs os lack

pub present_most : (os : List (Option Data)) → present_of os ≤ length os
present_most [] = omega arith
present_most (None ∷ os) = let most = present_most os in omega (arith, most)
present_most (Some d ∷ os) = let most = present_most os in omega (arith, most)

pub lack_length : (fs : List Field) (os : List (Option Data)) → MayLack fs os → length os ≡ length fs
lack_length [] [] h = refl
lack_length [] (o ∷ os) h = absurd h
lack_length (f ∷ fs) [] h = absurd h
lack_length (f ∷ fs) (None ∷ os) h = ap suc (lack_length fs os h.1)
lack_length (f ∷ fs) (Some d ∷ os) h = ap suc (lack_length fs os h)
