-- Prefixes in order, of which none begins another.
use Rattle.std.proofs.Common.{◌≡◌, ℕ, zero, suc, ◌-◌, ◌<◌, ◌≤◌, ◌⊎◌, inl, inr, Bool, true, false, ◌||◌, List, [], ◌∷◌, ◌++◌, Result, Ok, Err, length, get_or, refl, sym, ap, ◌∙◌, subst, arith}
use Rattle.std.specs.Prelude.{nat_lt, nat_eq, insert, IfOk, IfErr}
use Rattle.std.specs.List.{list_any, starts_with}
use Rattle.std.specs.List.Sorted.{IsSearchInRange, IsBinarySearchResult, IsNonDecreasingBy}
use Rattle.std.specs.Ordering.{ordering_index}
use Rattle.std.specs.declared.cmp.Ordering.{Ordering}
use Rattle.std.specs.declared.cmp.Ordering.TheVariants.{Less, Equal, Greater}
use Rattle.std.proofs.lemmas.Bool.{cases_lt, cases_eq, le-ltb, lt-ltb, eq-eqb, ne_eqb, or_right}
use Rattle.std.proofs.lemmas.List.Folds.{list_any-append}
use Rattle.std.proofs.lemmas.List.Edits.{get_or-insert_at, get_or-insert_below, get_or-insert_above, length-insert}
use Rattle.ild_schema.specs.Prefixes.{touch}
use Rattle.ild_accept_rules.specs.inside.Ordered.{prefix_cmp, IsApart, IsBetween}

-- ---- the order

at_less : (x y : ℕ) (xs ys : List ℕ) → x < y → prefix_cmp (x ∷ xs) (y ∷ ys) ≡ Less
at_less x y xs ys h = let t : nat_lt x y ≡ true = lt-ltb x y h in rw t refl

at_more : (x y : ℕ) (xs ys : List ℕ) → y < x → prefix_cmp (x ∷ xs) (y ∷ ys) ≡ Greater
at_more x y xs ys h =
    let low : y ≤ x = omega arith in
    let t : nat_lt x y ≡ false = le-ltb x y low in
    let u : nat_lt y x ≡ true = lt-ltb y x h in
    rw (t, u) refl

at_same : (x y : ℕ) (xs ys : List ℕ) → x ≡ y → prefix_cmp (x ∷ xs) (y ∷ ys) ≡ prefix_cmp xs ys
at_same x y xs ys h =
    let low : y ≤ x = omega arith in
    let high : x ≤ y = omega arith in
    let t : nat_lt x y ≡ false = le-ltb x y low in
    let u : nat_lt y x ≡ false = le-ltb y x high in
    rw (t, u) refl

three : (x y : ℕ) → (x < y) ⊎ ((x ≡ y) ⊎ (y < x))
three x y = elim (cases_lt x y) [
  | inl below ↦ inl below
  | inr above ↦ elim (cases_eq x y) [
    | inl same ↦ inr (inl same)
    | inr other ↦ inr (inr (omega arith))
  ]
]

less_less : (a b c : List ℕ) → prefix_cmp a b ≡ Less → prefix_cmp b c ≡ Less → prefix_cmp a c ≡ Less
less_less [] b c h k = absurd cc
less_less (x ∷ xs) [] c h k = absurd cc
less_less (x ∷ xs) (y ∷ ys) [] h k = absurd cc
less_less (x ∷ xs) (y ∷ ys) (z ∷ zs) h k = elim (three x y) [
  | inl below ↦ elim (three y z) [
    | inl next ↦ at_less x z xs zs (omega arith)
    | inr more ↦ elim more [
      | inl same ↦ at_less x z xs zs (omega arith)
      | inr above ↦ let e : prefix_cmp (y ∷ ys) (z ∷ zs) ≡ Greater = at_more y z ys zs above in let f : Greater ≡ Less = sym e ∙ k in absurd cc
    ]
  ]
  | inr rest ↦ elim rest [
    | inl level ↦ elim (three y z) [
      | inl next ↦ at_less x z xs zs (omega arith)
      | inr more ↦ elim more [
        | inl same ↦ at_same x z xs zs (level ∙ same) ∙ less_less xs ys zs (sym (at_same x y xs ys level) ∙ h) (sym (at_same y z ys zs same) ∙ k)
        | inr above ↦ let e : prefix_cmp (y ∷ ys) (z ∷ zs) ≡ Greater = at_more y z ys zs above in let f : Greater ≡ Less = sym e ∙ k in absurd cc
      ]
    ]
    | inr above ↦ let e : prefix_cmp (x ∷ xs) (y ∷ ys) ≡ Greater = at_more x y xs ys above in let f : Greater ≡ Less = sym e ∙ h in absurd cc
  ]
]

more_less : (a b : List ℕ) → prefix_cmp a b ≡ Greater → prefix_cmp b a ≡ Less
more_less [] b h = absurd cc
more_less (x ∷ xs) [] h = absurd cc
more_less (x ∷ xs) (y ∷ ys) h = elim (three x y) [
  | inl below ↦ let e : prefix_cmp (x ∷ xs) (y ∷ ys) ≡ Less = at_less x y xs ys below in let f : Less ≡ Greater = sym e ∙ h in absurd cc
  | inr rest ↦ elim rest [
    | inl level ↦ at_same y x ys xs (sym level) ∙ more_less xs ys (sym (at_same x y xs ys level) ∙ h)
    | inr above ↦ at_less y x ys xs above
  ]
]

less_more : (a b : List ℕ) → prefix_cmp a b ≡ Less → prefix_cmp b a ≡ Greater
less_more [] b h = absurd cc
less_more (x ∷ xs) [] h = absurd cc
less_more (x ∷ xs) (y ∷ ys) h = elim (three x y) [
  | inl below ↦ at_more y x ys xs below
  | inr rest ↦ elim rest [
    | inl level ↦ at_same y x ys xs (sym level) ∙ less_more xs ys (sym (at_same x y xs ys level) ∙ h)
    | inr above ↦ let e : prefix_cmp (x ∷ xs) (y ∷ ys) ≡ Greater = at_more x y xs ys above in let f : Greater ≡ Less = sym e ∙ h in absurd cc
  ]
]

-- ---- two prefixes are equal in the order where one begins the other

is_equal : Ordering → Bool
is_equal Less = false
is_equal Equal = true
is_equal Greater = false

touch_is : (b a : List ℕ) → touch b a ≡ is_equal (prefix_cmp a b)
unfolding is_equal
touch_is [] [] = refl
touch_is (y ∷ ys) [] = refl
touch_is [] (x ∷ xs) = or_right (starts_with nat_eq [] (x ∷ xs)) (starts_with nat_eq (x ∷ xs) []) refl
touch_is (y ∷ ys) (x ∷ xs) = elim (three x y) [
  | inl below ↦
      let t : nat_eq x y ≡ false = ne_eqb x y (λ e. absurd (omega arith)) in
      let u : nat_eq y x ≡ false = ne_eqb y x (λ e. absurd (omega arith)) in
      let v : is_equal (prefix_cmp (x ∷ xs) (y ∷ ys)) ≡ false = ap is_equal (at_less x y xs ys below) in
      rw (t, u) (sym v)
  | inr rest ↦ elim rest [
    | inl level ↦
        let t : nat_eq x y ≡ true = eq-eqb x y level in
        let u : nat_eq y x ≡ true = eq-eqb y x (sym level) in
        let v : is_equal (prefix_cmp (x ∷ xs) (y ∷ ys)) ≡ is_equal (prefix_cmp xs ys) = ap is_equal (at_same x y xs ys level) in
        rw (t, u) (touch_is ys xs ∙ sym v)
    | inr above ↦
        let t : nat_eq x y ≡ false = ne_eqb x y (λ e. absurd (omega arith)) in
        let u : nat_eq y x ≡ false = ne_eqb y x (λ e. absurd (omega arith)) in
        let v : is_equal (prefix_cmp (x ∷ xs) (y ∷ ys)) ≡ false = ap is_equal (at_more x y xs ys above) in
        rw (t, u) (sym v)
  ]
]

-- ---- what a search finds

any_at : (t : List ℕ → Bool) (xs : List (List ℕ)) (i : ℕ) (d : List ℕ) → i < length xs → t (get_or xs i d) ≡ true → list_any t xs ≡ true
any_at t [] i d within h = absurd (omega arith)
any_at t (x ∷ xs) zero d within h = ap (λ b. b || list_any t xs) h
any_at t (x ∷ xs) (suc i) d within h = or_right (t x) (list_any t xs) (any_at t xs i d (omega arith) h)

none_at : (t : List ℕ → Bool) (xs : List (List ℕ)) → ((j : ℕ) (d : List ℕ) → j < length xs → t (get_or xs j d) ≡ false) → list_any t xs ≡ false
none_at t [] h = refl
none_at t (x ∷ xs) h = ap (λ b. b || list_any t xs) (h 0 x (omega arith)) ∙ none_at t xs (λ j d low. h (suc j) d (omega arith))

-- the order of a prefix and another does not fall along prefixes that are in order
index_up : (a b p : List ℕ) → prefix_cmp a b ≡ Less → ordering_index (prefix_cmp a p) ≤ ordering_index (prefix_cmp b p)
index_up a b p h = by (prefix_cmp a p) (prefix_cmp b p) refl refl
  where
    by : (o r : Ordering) → prefix_cmp a p ≡ o → prefix_cmp b p ≡ r → ordering_index o ≤ ordering_index r
    by Less r e f = omega arith
    by Equal Less e f = let g : Equal ≡ Less = sym e ∙ less_less a b p h f in absurd cc
    by Equal Equal e f = omega arith
    by Equal Greater e f = omega arith
    by Greater Less e f = let g : Greater ≡ Less = sym e ∙ less_less a b p h f in absurd cc
    by Greater Equal e f = let g : Greater ≡ Equal = sym (less_more p b (less_less p a b (more_less a p e) h)) ∙ f in absurd cc
    by Greater Greater e f = omega arith

rises : (seen : List (List ℕ)) (p : List ℕ) → IsApart seen → IsNonDecreasingBy (λ y. ordering_index (prefix_cmp y p)) seen
rises seen p apart = λ i j d low within. elim (cases_eq i j) [
  | inl same ↦ let e : ordering_index (prefix_cmp (get_or seen i d) p) ≡ ordering_index (prefix_cmp (get_or seen j d) p) = ap (λ k. ordering_index (prefix_cmp (get_or seen k d) p)) same in omega (arith, e)
  | inr other ↦ index_up (get_or seen i d) (get_or seen j d) p (apart.below i j d d (omega arith) within)
]

pub search_found : (seen : List (List ℕ)) (p : List ℕ) (r : Result ℕ ℕ) → IsSearchInRange r (length seen) → IsBinarySearchResult (λ y. prefix_cmp y p) seen r → IfOk r (λ i. list_any (touch p) seen ≡ true)
unfolding is_equal
search_found seen p (Ok i) bound is = any_at (touch p) seen i p bound (touch_is p (get_or seen i p) ∙ ap is_equal (is p))
search_found seen p (Err i) bound is = tt

pub search_between : (seen : List (List ℕ)) (p : List ℕ) (r : Result ℕ ℕ) → IsApart seen → IsSearchInRange r (length seen) → IsBinarySearchResult (λ y. prefix_cmp y p) seen r → IfErr r (λ i. IsBetween p seen i)
search_between seen p (Ok i) apart bound is = tt
search_between seen p (Err i) apart bound is =
    let parted = is (rises seen p apart) in
    record { within = bound; before = λ j d low. parted.0 j d (omega arith) low; behind = λ j d low within. parted.1 j d low within }

between_none : (seen : List (List ℕ)) (p : List ℕ) (i : ℕ) → IsBetween p seen i → list_any (touch p) seen ≡ false
unfolding is_equal
between_none seen p i b = none_at (touch p) seen (λ j d within. touch_is p (get_or seen j d) ∙ elim (cases_lt j i) [
  | inl below ↦ ap is_equal (b.before j d below)
  | inr above ↦ ap is_equal (b.behind j d above within)
])

pub search_absent : (seen : List (List ℕ)) (p : List ℕ) (r : Result ℕ ℕ) → IfErr r (λ i. IsBetween p seen i) → IfErr r (λ i. list_any (touch p) seen ≡ false)
search_absent seen p (Ok i) h = tt
search_absent seen p (Err i) h = between_none seen p i h

-- ---- a prefix that is put between others

or_turn : (a b c : Bool) → a || (b || c) ≡ b || (c || (a || false))
or_turn true true c = refl
or_turn true false true = refl
or_turn true false false = refl
or_turn false true c = refl
or_turn false false true = refl
or_turn false false false = refl

pub any_insert : (t : List ℕ → Bool) (xs : List (List ℕ)) (i : ℕ) (x : List ℕ) → list_any t (insert xs i x) ≡ list_any t (xs ++ x ∷ [])
any_insert t [] zero x = refl
any_insert t [] (suc i) x = refl
any_insert t (y ∷ ys) zero x = or_turn (t x) (t y) (list_any t ys) ∙ ap (λ b. t y || b) (sym (list_any-append t ys (x ∷ [])))
any_insert t (y ∷ ys) (suc i) x = ap (λ b. t y || b) (any_insert t ys i x)

pub apart_insert : (seen : List (List ℕ)) (p : List ℕ) (i : ℕ) → IsApart seen → IsBetween p seen i → IsApart (insert seen i p)
apart_insert seen p i apart b = record {
  below = λ j k d e low within. elim (cases_lt k i) [
    | inl front ↦
        let f : prefix_cmp (get_or seen j d) (get_or seen k e) ≡ Less = apart.below j k d e low (omega (arith, b.within)) in
        rw (get_or-insert_below seen i p d j (omega arith) b.within, get_or-insert_below seen i p e k front b.within) f
    | inr late ↦ elim (cases_eq k i) [
      | inl here ↦
          let f : prefix_cmp (get_or seen j d) p ≡ Less = b.before j d (omega arith) in
          let at : get_or (insert seen i p) k e ≡ p = ap (λ n. get_or (insert seen i p) n e) here ∙ get_or-insert_at seen i p e b.within in
          rw (get_or-insert_below seen i p d j (omega arith) b.within, at) f
      | inr past ↦ tail j k d e low (omega arith) (omega (arith, within, length-insert))
    ]
  ];
}
  where
    tail : (j k : ℕ) (d e : List ℕ) → j < k → i < k → k - 1 < length seen → prefix_cmp (get_or (insert seen i p) j d) (get_or (insert seen i p) k e) ≡ Less
    tail j zero d e low past within = absurd (omega arith)
    tail j (suc k) d e low past within =
        let last : get_or (insert seen i p) (suc k) e ≡ get_or seen k e = ap (λ n. get_or (insert seen i p) n e) (omega arith) ∙ get_or-insert_above seen i p e k (omega arith) b.within in
        elim (cases_lt j i) [
          | inl front ↦
              let f : prefix_cmp (get_or seen j d) (get_or seen k e) ≡ Less = apart.below j k d e (omega arith) (omega arith) in
              rw (last, get_or-insert_below seen i p d j front b.within) f
          | inr late ↦ elim (cases_eq j i) [
            | inl here ↦
                let f : prefix_cmp p (get_or seen k e) ≡ Less = more_less (get_or seen k e) p (b.behind k e (omega arith) (omega arith)) in
                let at : get_or (insert seen i p) j d ≡ p = ap (λ n. get_or (insert seen i p) n d) here ∙ get_or-insert_at seen i p d b.within in
                rw (last, at) f
            | inr behind ↦ both j k d e (omega arith) (omega arith) (omega arith)
          ]
        ]
      where
        both : (j k : ℕ) (d e : List ℕ) → i < j → j < suc k → k < length seen → prefix_cmp (get_or (insert seen i p) j d) (get_or (insert seen i p) (suc k) e) ≡ Less
        both zero k d e past low within = absurd (omega arith)
        both (suc j) k d e past low within =
            let one : get_or (insert seen i p) (suc j) d ≡ get_or seen j d = ap (λ n. get_or (insert seen i p) n d) (omega arith) ∙ get_or-insert_above seen i p d j (omega arith) b.within in
            let other : get_or (insert seen i p) (suc k) e ≡ get_or seen k e = ap (λ n. get_or (insert seen i p) n e) (omega arith) ∙ get_or-insert_above seen i p e k (omega arith) b.within in
            let f : prefix_cmp (get_or seen j d) (get_or seen k e) ≡ Less = apart.below j k d e (omega arith) within in
            rw (one, other) f

pub apart_none : IsApart []
apart_none = record { below = λ i j d e low within. absurd (omega arith) }

pub put_apart : (seen s new : List (List ℕ)) (p q : List ℕ) (i : ℕ) → s ≡ seen → q ≡ p → IsApart seen → IsBetween q s i → new ≡ insert seen i p → IsApart new
put_apart seen s new p q i same_seen same apart b grown =
    let P : List (List ℕ) → Type 0 = λ xs. IsBetween q xs i in
    let Q : List ℕ → Type 0 = λ x. IsBetween x seen i in
    subst IsApart (sym grown) (apart_insert seen p i apart (subst Q same (subst P same_seen b)))

pub put_seen : (seen new : List (List ℕ)) (p : List ℕ) (i : ℕ) → new ≡ insert seen i p → (q : List ℕ) → list_any (touch q) new ≡ list_any (touch q) (seen ++ p ∷ [])
put_seen seen new p i grown q = ap (list_any (touch q)) grown ∙ any_insert (touch q) seen i p
