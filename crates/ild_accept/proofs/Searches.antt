-- Searches for types that are represented as themselves.
use Rattle.std.proofs.Common.{◌≡◌, ℕ, zero, suc, ◌+◌, ◌<◌, ◌≤◌, ◌⊎◌, inl, inr, Bool, true, false, ◌&&◌, ◌||◌, List, [], ◌∷◌, ◌++◌, length, length-append, get_or, set, replicate, refl, sym, ap, ◌∙◌, subst, arith}
use Rattle.std.specs.Prelude.{◌==◌}
use Rattle.std.specs.List.{Contains, list_any}
use Rattle.std.specs.Bool.{MatchBool}
use Rattle.std.proofs.lemmas.Bool.{cases_eq, eqb-true, eq-eqb, false≢true, or_left, or_right}
use Rattle.std.proofs.lemmas.List.{get_or-set_other, get_or-set_same, get_or_default, length-set}
use Rattle.std.proofs.lemmas.List.Sums.{sum_by-set}
use Rattle.std.proofs.lemmas.List.Folds.{list_any-append}
use Rattle.ild_schema.specs.declared.row.Row.{Row}
use Rattle.ild_schema.specs.Cycles.{steps_at, Reaches, IsCyclic, NoneIsCyclic}
use Rattle.ild_accept.specs.inside.Search.{is_marked, Has, Waits, one_if_unseen, unseen_count, Grown, Pushed, Searching}
use Rattle.ild_accept.proofs.Stepwise.{reach_more, cyclic_within}

-- ---- marks

has_here : (marks : List Bool) (n m : ℕ) → n < length marks → m ≡ n → Has (set marks n true) m
has_here marks n m within here = ap (is_marked (set marks n true)) here ∙ get_or-set_same marks n true false within

has_there : (marks : List Bool) (n m : ℕ) → (m ≡ n → ⊥) → is_marked (set marks n true) m ≡ is_marked marks m
has_there marks n m other = get_or-set_other marks n m true false other

has_more : (marks : List Bool) (n m : ℕ) → n < length marks → Has marks m → Has (set marks n true) m
has_more marks n m within h = elim (cases_eq m n) [
  | inl here ↦ has_here marks n m within here
  | inr other ↦ has_there marks n m other ∙ h
]

and_first : (a b : Bool) → a && b ≡ true → a ≡ true
and_first true b h = refl
and_first false b h = h

and_second : (a b : Bool) → a && b ≡ true → b ≡ true
and_second true b h = h
and_second false b h = absurd (false≢true h)

or_cases : (a b : Bool) → a || b ≡ true → (a ≡ true) ⊎ (b ≡ true)
or_cases true b h = inl refl
or_cases false b h = inr h

-- ---- closed marks

reach_done : (rows : List Row) (done : List Bool) → ((n t : ℕ) → Has done n → Contains (steps_at rows n) t → Has done t) → (k n m : ℕ) → Has done n → Reaches rows k n m → Has done m
reach_done rows done closed zero n m h r = subst (Has done) r h
reach_done rows done closed (suc k) n m h r = reach_done rows done closed k r.0 m (closed n r.0 h r.1) r.2

-- ---- types that wait

waits_front : (s u : List ℕ) (m : ℕ) → Waits s m → Waits (s ++ u) m
waits_front s u m h = list_any-append (λ x. x == m) s u ∙ or_left (list_any (λ x. x == m) s) (list_any (λ x. x == m) u) h

waits_last : (s : List ℕ) (t m : ℕ) → m ≡ t → Waits (s ++ t ∷ []) m
waits_last s t m e = list_any-append (λ x. x == m) s (t ∷ []) ∙ or_right (list_any (λ x. x == m) s) ((t == m) || false) (or_left (t == m) false (eq-eqb t m (sym e)))

waits_cases : (s : List ℕ) (t m : ℕ) → Waits (s ++ t ∷ []) m → Waits s m ⊎ (m ≡ t)
waits_cases s t m h = elim (or_cases (list_any (λ x. x == m) s) ((t == m) || false) (sym (list_any-append (λ x. x == m) s (t ∷ [])) ∙ h)) [
  | inl front ↦ inl front
  | inr last ↦ elim (or_cases (t == m) false last) [
    | inl here ↦ inr (sym (eqb-true t m here))
    | inr never ↦ absurd (false≢true never)
  ]
]

-- ---- types that are seen

pub grown_none : (P : ℕ → Type 0) (seen : List Bool) (stack : List ℕ) → Grown P seen stack seen stack
grown_none P seen stack = record { size = refl; kept = λ m h. h; fresh = λ m h. inl h; waits = λ m h. h; held = λ m h. inl h; count = refl }

pub grown_one : (seen : List Bool) (stack : List ℕ) (t : ℕ) → t < length seen → is_marked seen t ≡ false → Grown (λ m. m ≡ t) seen stack (set seen t true) (stack ++ t ∷ [])
grown_one seen stack t within unseen = record {
  size = length-set seen t true;
  kept = λ m h. has_more seen t m within h;
  fresh = λ m h. elim (cases_eq m t) [
    | inl here ↦ inr (here, waits_last stack t m here)
    | inr other ↦ inl (sym (has_there seen t m other) ∙ h)
  ];
  waits = λ m h. waits_front stack (t ∷ []) m h;
  held = λ m h. elim (waits_cases stack t m h) [
    | inl front ↦ inl front
    | inr here ↦ inr (has_here seen t m within here)
  ];
  count =
      let whole : unseen_count (set seen t true) + one_if_unseen (is_marked seen t) ≡ unseen_count seen + one_if_unseen true = sum_by-set one_if_unseen seen t true false within in
      let was : one_if_unseen (is_marked seen t) ≡ 1 = ap one_if_unseen unseen in
      omega (arith, whole, was, length-append stack (t ∷ []));
}

pub here_one : (seen : List Bool) (t : ℕ) → t < length seen → is_marked (set seen t true) t ≡ true
here_one seen t within = has_here seen t t within refl

-- one step of several
pub pushed_next : (steps : List ℕ) (i x : ℕ) (a : List Bool) (s : List ℕ) (b : List Bool) (u : List ℕ) (c : List Bool) (v : List ℕ) → i < length steps → x ≡ get_or steps i x
    → Grown (Contains steps) a s b u → Grown (λ m. m ≡ x) b u c v → Grown (Contains steps) a s c v
pushed_next steps i x a s b u c v within here f g = record {
  size = g.size ∙ f.size;
  kept = λ m h. g.kept m (f.kept m h);
  fresh = λ m h. elim (g.fresh m h) [
    | inl before ↦ elim (f.fresh m before) [
      | inl old ↦ inl old
      | inr new ↦ inr (new.0, g.waits m new.1)
    ]
    | inr last ↦ inr (let P : ℕ → Type 0 = Contains steps in subst P (sym last.0) (i, within, sym here), last.1)
  ];
  waits = λ m h. g.waits m (f.waits m h);
  held = λ m h. elim (g.held m h) [
    | inl before ↦ elim (f.held m before) [
      | inl old ↦ inl old
      | inr new ↦ inr (g.kept m new)
    ]
    | inr new ↦ inr new
  ];
  count = g.count ∙ f.count;
}

pub seen_next : (steps : List ℕ) (i x : ℕ) (b c : List Bool) (u v : List ℕ) → x ≡ get_or steps i x → i < length steps → ((j d : ℕ) → j < i → Has b (get_or steps j d)) → Grown (λ m. m ≡ x) b u c v → is_marked c x ≡ true
    → (j d : ℕ) → j < i + 1 → Has c (get_or steps j d)
seen_next steps i x b c u v here within all g now j d low = elim (cases_eq j i) [
  | inl last ↦ ap (λ k. is_marked c (get_or steps k d)) last ∙ ap (is_marked c) (get_or_default steps i d x within ∙ sym here) ∙ now
  | inr other ↦ g.kept (get_or steps j d) (all j d (omega arith))
]

pub seen_all : (steps : List ℕ) (i : ℕ) (c : List Bool) → length steps ≤ i → ((j d : ℕ) → j < i → Has c (get_or steps j d)) → (t : ℕ) → Contains steps t → Has c t
seen_all steps i c past all t h = ap (is_marked c) (sym h.2) ∙ all h.0 t (omega (arith, h.1))

-- ---- a search

pub unmarked : (count : ℕ) (marks : List Bool) → marks ≡ replicate count false → (n : ℕ) → Has marks n → ⊥
unmarked count marks e n h = false≢true (sym (plain count n) ∙ ap (λ xs. is_marked xs n) (sym e) ∙ h)
  where
    plain : (count n : ℕ) → is_marked (replicate count false) n ≡ false
    plain zero n = refl
    plain (suc count) zero = refl
    plain (suc count) (suc n) = plain count n

pub search_begins : (rows : List Row) (from : ℕ) (steps : List ℕ) (a b : List Bool) (s u : List ℕ) → s ≡ [] → length a ≡ length rows → ((n : ℕ) → Has a n → ⊥) → steps ≡ steps_at rows from → Pushed steps a s b u → Searching rows from b u
search_begins rows from steps a b s u bare size none same p = record {
  size = p.grown.size ∙ size;
  reached = λ t h. elim (p.grown.fresh t h) [
    | inl old ↦ absurd (none t old)
    | inr new ↦ (0, (t, there t new.0, refl))
  ];
  closed = λ n t h c. elim (p.grown.fresh n h) [
    | inl old ↦ absurd (none n old)
    | inr new ↦ inr new.1
  ];
  held = λ t h. elim (p.grown.held t h) [
    | inl old ↦ absurd (false≢true (subst (λ (xs : List ℕ). Waits xs t) bare old))
    | inr new ↦ new
  ];
  begun = λ t c. p.all t (let P : List ℕ → Type 0 = λ xs. Contains xs t in subst P (sym same) c);
}
  where
    there : (t : ℕ) → Contains steps t → Contains (steps_at rows from) t
    there t c = let P : List ℕ → Type 0 = λ xs. Contains xs t in subst P same c

pub search_goes : (rows : List Row) (from n : ℕ) (steps stack : List ℕ) (a b : List Bool) (s u : List ℕ) → stack ≡ s ++ n ∷ [] → steps ≡ steps_at rows n → Searching rows from a stack → Pushed steps a s b u → Searching rows from b u
search_goes rows from n steps stack a b s u last same old p = record {
  size = p.grown.size ∙ old.size;
  reached = λ t h. elim (p.grown.fresh t h) [
    | inl before ↦ old.reached t before
    | inr new ↦ let r = old.reached n (old.held n (subst (λ (xs : List ℕ). Waits xs n) (sym last) (waits_last s n n refl))) in (suc r.0, reach_more rows (suc r.0) from n t r.1 (there t new.0))
  ];
  closed = λ m t h c. elim (p.grown.fresh m h) [
    | inl before ↦ elim (old.closed m t before c) [
      | inl seen ↦ inl (p.grown.kept t seen)
      | inr waits ↦ elim (waits_cases s n m (subst (λ (xs : List ℕ). Waits xs m) last waits)) [
        | inl front ↦ inr (p.grown.waits m front)
        | inr here ↦ inl (p.all t (back t (let P : ℕ → Type 0 = λ i. Contains (steps_at rows i) t in subst P here c)))
      ]
    ]
    | inr new ↦ inr new.1
  ];
  held = λ t h. elim (p.grown.held t h) [
    | inl before ↦ p.grown.kept t (old.held t (subst (λ (xs : List ℕ). Waits xs t) (sym last) (waits_front s (n ∷ []) t before)))
    | inr new ↦ new
  ];
  begun = λ t c. p.grown.kept t (old.begun t c);
}
  where
    there : (t : ℕ) → Contains steps t → Contains (steps_at rows n) t
    there t c = let P : List ℕ → Type 0 = λ xs. Contains xs t in subst P same c

    back : (t : ℕ) → Contains (steps_at rows n) t → Contains steps t
    back t c = let P : List ℕ → Type 0 = λ xs. Contains xs t in subst P (sym same) c

pub search_ends : (rows : List Row) (from : ℕ) (seen : List Bool) (stack : List ℕ) (b : Bool) → stack ≡ [] → Searching rows from seen stack → b ≡ is_marked seen from → MatchBool b (IsCyclic rows from) (IsCyclic rows from → ⊥)
search_ends rows from seen stack true none h e = h.reached from (sym e)
search_ends rows from seen stack false none h e = λ c. false≢true (e ∙ reach_done rows seen closed c.0 c.1.0 from (h.begun c.1.0 c.1.1) c.1.2)
  where
    closed : (n t : ℕ) → Has seen n → Contains (steps_at rows n) t → Has seen t
    closed n t k c = elim (h.closed n t k c) [
      | inl there ↦ there
      | inr waits ↦ absurd (false≢true (subst (λ (xs : List ℕ). Waits xs n) none waits))
    ]

pub search_falls : (steps : List ℕ) (a b : List Bool) (stack s u : List ℕ) (n : ℕ) → stack ≡ s ++ n ∷ [] → Pushed steps a s b u → unseen_count b + length u < unseen_count a + length stack
search_falls steps a b stack s u n last p = let size : length stack ≡ length s + 1 = ap length last ∙ length-append s (n ∷ []) in omega (arith, p.grown.count, size)

pub empty_of_length : (xs : List ℕ) → length xs ≡ 0 → xs ≡ []
empty_of_length [] h = refl
empty_of_length (x ∷ xs) h = absurd (omega arith)

-- ---- all types of a table, one after the other

pub none_below : (rows : List Row) (n : ℕ) → ((m : ℕ) → m < n → IsCyclic rows m → ⊥) → (IsCyclic rows n → ⊥) → (m : ℕ) → m < n + 1 → IsCyclic rows m → ⊥
none_below rows n below here m low c = elim (cases_eq m n) [
  | inl last ↦ let P : ℕ → Type 0 = λ i. IsCyclic rows i in here (subst P last c)
  | inr other ↦ below m (omega arith) c
]

pub none_at_all : (rows : List Row) (n : ℕ) → length rows ≤ n → ((m : ℕ) → m < n → IsCyclic rows m → ⊥) → NoneIsCyclic rows
none_at_all rows n all below m c = below m (omega (arith, cyclic_within rows m c)) c

pub at_false : (P : Type 0) (b : Bool) → b ≡ false → MatchBool b P (P → ⊥) → P → ⊥
at_false P true e h = absurd (false≢true (sym e))
at_false P false e h = h
