-- What follows where no part is told at which a rule fails.
use Rattle.std.proofs.Common.{◌≡◌, inl, inr, ℕ, zero, suc, ◌<◌, Bool, true, false, ◌&&◌, ◌||◌, not, List, [], ◌∷◌, ◌++◌, Option, Some, None, take, refl, sym, ap, ◌∙◌, append_assoc, arith}
use Rattle.std.specs.Prelude.{if◌then◌else◌, find}
use Rattle.std.specs.List.{list_any, slice_get}
use Rattle.std.specs.Option.{option_or}
use Rattle.std.proofs.lemmas.Bool.{cases_lt, cases_eq}
use Rattle.ild_data.proofs.Options.{map_none}
use Rattle.ild_schema.specs.Places.{first_place, first_beside, place_if}

-- ---- truth values and options

pub left : (a b : Bool) → a || b ≡ false → a ≡ false
left true b h = h
left false b h = refl

pub right : (a b : Bool) → a || b ≡ false → b ≡ false
right true b h = absurd cc
right false b h = h

pub past : (a b : Bool) → a && b ≡ false → a ≡ true → b ≡ false
past true b h e = h
past false b h e = absurd cc

pub unless : (b : Bool) → not b ≡ false → b ≡ true
unless true h = refl
unless false h = absurd cc

pub never : {A : Type 0} (b : Bool) → b ≡ true → b ≡ false → A
never true e h = absurd cc
never false e h = absurd cc

pub first_none : {A : Type 0} (a b : Option A) → option_or a b ≡ None → a ≡ None
first_none None b h = refl
first_none (Some x) b h = h

pub next_none : {A : Type 0} (a b : Option A) → option_or a b ≡ None → b ≡ None
next_none None b h = h
next_none (Some x) b h = absurd cc

if_none : {A : Type 0} (b : Bool) (a : A) (o : Option A) → (if b then Some a else o) ≡ None → b ≡ false
if_none true a o h = absurd cc
if_none false a o h = refl

if_rest : {A : Type 0} (b : Bool) (a : A) (o : Option A) → (if b then Some a else o) ≡ None → o ≡ None
if_rest true a o h = absurd cc
if_rest false a o h = h

pub not_placed : (b : Bool) (at : ℕ) → place_if b at ≡ None → b ≡ false
not_placed b at h = if_none b at None h

pub not_first : (b : Bool) (at : ℕ) (o : Option ℕ) → (if b then Some at else o) ≡ None → b ≡ false
not_first b at o h = if_none b at o h

pub not_next : (b : Bool) (at : ℕ) (o : Option ℕ) → (if b then Some at else o) ≡ None → o ≡ None
not_next b at o h = if_rest b at o h

-- ---- parts

append_nil : {A : Type 0} (xs : List A) → xs ++ [] ≡ xs
append_nil [] = refl
append_nil (x ∷ xs) = ap (λ ys. x ∷ ys) (append_nil xs)

find_step : {A : Type 0} (fails : A → Bool) (y : A) (ys : List A) (b : Bool) → fails y ≡ b → find fails (y ∷ ys) ≡ None → (fails y ≡ false) × (find fails ys ≡ None)
find_step fails y ys true e h = let g : find fails (y ∷ ys) ≡ Some y = rw e refl in absurd cc
find_step fails y ys false e h = let g : find fails (y ∷ ys) ≡ find fails ys = rw e refl in (e, sym g ∙ h)

none_found : {A : Type 0} (fails : A → Bool) (xs : List A) → find fails xs ≡ None → (i : ℕ) (x : A) → slice_get xs i ≡ Some x → fails x ≡ false
none_found fails [] h i x e = absurd cc
none_found fails (y ∷ ys) h zero x e = let same : y ≡ x = cc in ap fails (sym same) ∙ (find_step fails y ys (fails y) refl h).0
none_found fails (y ∷ ys) h (suc i) x e = none_found fails ys (find_step fails y ys (fails y) refl h).1 i x e

-- no part fails by itself
pub all_pass : {A : Type 0} (fails : A → Bool) (at : A → ℕ) (xs : List A) → first_place fails at xs ≡ None → (i : ℕ) (x : A) → slice_get xs i ≡ Some x → fails x ≡ false
all_pass fails at xs h = none_found fails xs (map_none at (find fails xs) h)

-- no part fails beside those before it
pub each_passes : {A : Type 0} (fails : List A → A → Bool) (at : A → ℕ) (before xs : List A) → first_beside fails at before xs ≡ None
    → (i : ℕ) (x : A) → slice_get xs i ≡ Some x → fails (before ++ take i xs) x ≡ false
each_passes fails at before [] h i x e = absurd cc
each_passes fails at before (y ∷ ys) h zero x e =
    let same : y ≡ x = cc in
    ap (λ front. fails front x) (append_nil before) ∙ ap (fails before) (sym same) ∙ if_none (fails before y) (at y) (first_beside fails at (before ++ y ∷ []) ys) h
each_passes fails at before (y ∷ ys) h (suc i) x e =
    ap (λ front. fails front x) (sym (append_assoc before (y ∷ []) (take i ys)))
    ∙ each_passes fails at (before ++ y ∷ []) ys (if_rest (fails before y) (at y) (first_beside fails at (before ++ y ∷ []) ys) h) i x e

-- what no part before another is
pub none_before : {A : Type 0} (test : A → Bool) (xs : List A) (i j : ℕ) (x : A) → i < j → slice_get xs i ≡ Some x → list_any test (take j xs) ≡ false → test x ≡ false
none_before test [] i j x lt e h = absurd cc
none_before test (y ∷ ys) i zero x lt e h = absurd (omega arith)
none_before test (y ∷ ys) zero (suc j) x lt e h = let same : y ≡ x = cc in ap test (sym same) ∙ left (test y) (list_any test (take j ys)) h
none_before test (y ∷ ys) (suc i) (suc j) x lt e h = none_before test ys i j x (omega arith) e (right (test y) (list_any test (take j ys)) h)

pub none_any : {A : Type 0} (test : A → Bool) (xs : List A) → list_any test xs ≡ false → (i : ℕ) (x : A) → slice_get xs i ≡ Some x → test x ≡ false
none_any test [] h i x e = absurd cc
none_any test (y ∷ ys) h zero x e = let same : y ≡ x = cc in ap test (sym same) ∙ left (test y) (list_any test ys) h
none_any test (y ∷ ys) h (suc i) x e = none_any test ys (right (test y) (list_any test ys) h) i x e

-- two parts that clash neither way are one
pub one_place : {A : Type 0} (Clash : A → A → Type 0) (xs : List A)
    → ((i j : ℕ) (a b : A) → i < j → slice_get xs i ≡ Some a → slice_get xs j ≡ Some b → Clash a b → ⊥)
    → ((i j : ℕ) (a b : A) → i < j → slice_get xs i ≡ Some a → slice_get xs j ≡ Some b → Clash b a → ⊥)
    → (i j : ℕ) (a b : A) → slice_get xs i ≡ Some a → slice_get xs j ≡ Some b → Clash a b → i ≡ j
one_place Clash xs h k i j a b e f c = elim (cases_eq i j) [
  | inl same ↦ same
  | inr other ↦ elim (cases_lt i j) [
    | inl below ↦ absurd (h i j a b below e f c)
    | inr above ↦ absurd (k j i b a (omega arith) f e c)
  ]
]
