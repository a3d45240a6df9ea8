-- Walks along copies, and what they have seen.
use Rattle.std.proofs.Common.{◌≡◌, ℕ, zero, suc, ◌+◌, ◌<◌, ◌≤◌, ◌⊎◌, inl, inr, List, Option, Some, None, length, min, get_or, set, sum_by, refl, ap, sym, ◌∙◌, subst, arith}
use Rattle.std.specs.Option.{option_and_then, IfSome}
use Rattle.std.proofs.lemmas.Bool.{cases_lt, cases_eq}
use Rattle.std.proofs.lemmas.List.Sums.{sum_by-set}
use Rattle.std.proofs.lemmas.List.{get_or-set_other, get_or-set_same, get_or_past, get_or_default}
use Rattle.ild_schema.specs.declared.row.Row.{Row}
use Rattle.ild_schema.specs.Copies.{target_in, leads, IsCircular, NoneIsCircular, FirstIsCircular}
use Rattle.ild_schema.specs.Table.{def_at}
use Rattle.ild_schema.proofs.Circles.{circular_on, circular_back, copy_here}
use Rattle.ild_resolve.proofs.Rounds.{leads_one_more, circular_target}
use Rattle.ild_resolve.specs.inside.Marks.{mark_at, IsSeen, IsClosed, IsNewCircular, HasMet, Walked, IsLeastOfRound, IsFirstSeen, Sought, lesser}

-- a type that a walk has marked leads to where the walk is
pub record Fresh (rows : List Row) (old new : List ℕ) (mark at n : ℕ) : Type 0 where
  pub unseen : mark_at old n ≡ 0
  pub marked : mark_at new n ≡ mark
  pub way : ℕ
  pub leads_here : leads rows (suc way) n ≡ Some at

-- a walk that is at a type
pub record Walking (rows : List Row) (old new : List ℕ) (from mark at : ℕ) : Type 0 where
  pub within : at < length rows
  pub each : (n : ℕ) → (mark_at new n ≡ mark_at old n) ⊎ Fresh rows old new mark at n
  pub closed : (n t : ℕ) → IsSeen new n → target_in (def_at rows n) ≡ Some t → IsSeen new t ⊎ (t ≡ at)
  pub first : IsSeen new from ⊎ (from ≡ at)

pub walk_starts : (rows : List Row) (old : List ℕ) (from mark : ℕ) → from < length rows → IsClosed rows old → Walking rows old old from mark from
walk_starts rows old from mark within closed = record {
  within = within;
  each = λ n. inl refl;
  closed = λ n t seen e. inl (closed n t seen e);
  first = inr refl;
}

-- a mark that is read at an index in the table
pub mark_read : (marks : List ℕ) (n : ℕ) → n < length marks → mark_at marks n ≡ get_or marks n 0
mark_read marks n within = get_or_default marks n 1 0 within

-- a mark that is set
mark_here : (marks : List ℕ) (at mark : ℕ) → at < length marks → mark_at (set marks at mark) at ≡ mark
mark_here marks at mark within = get_or-set_same marks at mark 1 within

mark_there : (marks : List ℕ) (at mark n : ℕ) → (n ≡ at → ⊥) → mark_at (set marks at mark) n ≡ mark_at marks n
mark_there marks at mark n other = get_or-set_other marks at n mark 1 other

seen_stays : (marks : List ℕ) (at mark n : ℕ) → at < length marks → 0 < mark → IsSeen marks n → IsSeen (set marks at mark) n
seen_stays marks at mark n within some seen = elim (cases_eq n at) [
  | inl here ↦
      let now : mark_at (set marks at mark) n ≡ mark = ap (λ k. mark_at (set marks at mark) k) here ∙ mark_here marks at mark within in
      omega (arith, now, some)
  | inr other ↦ let now : mark_at (set marks at mark) n ≡ mark_at marks n = mark_there marks at mark n other in omega (arith, now, seen)
]

seen_here : (marks : List ℕ) (at mark n : ℕ) → at < length marks → 0 < mark → n ≡ at → IsSeen (set marks at mark) n
seen_here marks at mark n within some here =
    let now : mark_at (set marks at mark) n ≡ mark = ap (λ k. mark_at (set marks at mark) k) here ∙ mark_here marks at mark within in
    omega (arith, now, some)

-- the walk has not seen where it is, so no walk has
at_unseen : (rows : List Row) (old new : List ℕ) (from mark at : ℕ) → Walking rows old new from mark at → 0 < mark → mark_at new at ≡ 0 → mark_at old at ≡ 0
at_unseen rows old new from mark at h some none = elim (h.each at) [
  | inl same ↦ sym same ∙ none
  | inr fresh ↦ fresh.unseen
]

-- each type is as it was, or has the mark and leads to where the walk was
each_marked : (rows : List Row) (old new : List ℕ) (from mark at n : ℕ) → Walking rows old new from mark at → 0 < mark → at < length new → mark_at new at ≡ 0
    → (mark_at (set new at mark) n ≡ mark_at old n) ⊎ ((mark_at old n ≡ 0) × (mark_at (set new at mark) n ≡ mark) × ((k : ℕ) × (leads rows k n ≡ Some at)))
each_marked rows old new from mark at n h some within none = elim (cases_eq n at) [
  | inl here ↦ inr (
    ap (mark_at old) here ∙ at_unseen rows old new from mark at h some none,
    ap (λ k. mark_at (set new at mark) k) here ∙ mark_here new at mark within,
    (0, ap Some here),
  )
  | inr other ↦ elim (h.each n) [
    | inl same ↦ inl (mark_there new at mark n other ∙ same)
    | inr fresh ↦ inr (fresh.unseen, mark_there new at mark n other ∙ fresh.marked, (suc fresh.way, fresh.leads_here))
  ]
]

-- how many types no walk has seen
abbrev pub one_if_unseen : ℕ → ℕ
one_if_unseen zero = 1
one_if_unseen (suc n) = 0

abbrev pub unseen_count : List ℕ → ℕ
unseen_count marks = sum_by one_if_unseen marks

pub unseen_falls : (marks : List ℕ) (at mark : ℕ) → at < length marks → mark_at marks at ≡ 0 → unseen_count (set marks at (mark + 1)) < unseen_count marks
unseen_falls marks at mark within none =
    let whole : unseen_count (set marks at (mark + 1)) + one_if_unseen (mark_at marks at) ≡ unseen_count marks + one_if_unseen (mark + 1) = sum_by-set one_if_unseen marks at (mark + 1) 1 within in
    let was : one_if_unseen (mark_at marks at) ≡ 1 = ap one_if_unseen none in
    let is : one_if_unseen (mark + 1) ≡ 0 = let next : mark + 1 ≡ suc mark = omega arith in ap one_if_unseen next in
    omega (arith, whole, was, is)

-- the walk marks where it is, and goes on
pub walk_goes : (rows : List Row) (old new : List ℕ) (from mark at t : ℕ) → Walking rows old new from mark at → 0 < mark → length new ≡ length rows → mark_at new at ≡ 0
    → t < length rows → target_in (def_at rows at) ≡ Some t → Walking rows old (set new at mark) from mark t
walk_goes rows old new from mark at t h some same none within e = record {
  within = within;
  each = λ n. elim (each_marked rows old new from mark at n h some here none) [
    | inl kept ↦ inl kept
    | inr fresh ↦ inr (record { unseen = fresh.0; marked = fresh.1; way = fresh.2.0; leads_here = leads_one_more rows fresh.2.0 n at t fresh.2.1 e })
  ];
  closed = λ n u seen f. elim (cases_eq n at) [
    | inl last ↦ let all : target_in (def_at rows n) ≡ target_in (def_at rows at) = ap (λ k. target_in (def_at rows k)) last in inr (cc (all, f, e))
    | inr other ↦
        let was : IsSeen new n = let now : mark_at (set new at mark) n ≡ mark_at new n = mark_there new at mark n other in omega (arith, now, seen) in
        elim (h.closed n u was f) [
          | inl already ↦ inl (seen_stays new at mark u here some already)
          | inr last ↦ inl (seen_here new at mark u here some last)
        ]
  ];
  first = elim h.first [
    | inl already ↦ inl (seen_stays new at mark from here some already)
    | inr last ↦ inl (seen_here new at mark from here some last)
  ];
}
  where
    here : at < length new
    here = omega (arith, same, h.within)

-- a type at which the walk ends is no copy, or its target is past the table
pub walk_ends : (rows : List Row) (old new : List ℕ) (from mark at : ℕ) → Walking rows old new from mark at → 0 < mark → length new ≡ length rows → mark_at new at ≡ 0
    → ((t : ℕ) → target_in (def_at rows at) ≡ Some t → length rows ≤ t) → Walked rows old (set new at mark) from mark None
walk_ends rows old new from mark at h some same none past = record {
  kept = λ n seen. elim (each_marked rows old new from mark at n h some here none) [
    | inl kept ↦ kept
    | inr fresh ↦ absurd (omega (arith, seen, fresh.0))
  ];
  marked = λ n unseen. elim (each_marked rows old new from mark at n h some here none) [
    | inl kept ↦ inl (kept ∙ unseen)
    | inr fresh ↦ inr fresh.1
  ];
  first = elim h.first [
    | inl already ↦ seen_stays new at mark from here some already
    | inr last ↦ seen_here new at mark from here some last
  ];
  closed = λ n t seen f. elim (cases_eq n at) [
    | inl last ↦
        let low : length rows ≤ t = past t (ap (λ k. target_in (def_at rows k)) (sym last) ∙ f) in
        elim (cases_eq t at) [
          | inl back ↦ seen_here new at mark t here some back
          | inr other ↦
              let now : mark_at (set new at mark) t ≡ mark_at new t = mark_there new at mark t other in
              let beyond : mark_at new t ≡ 1 = get_or_past new t 1 (omega (arith, same, low)) in
              omega (arith, now, beyond)
        ]
    | inr other ↦
        let was : IsSeen new n = let now : mark_at (set new at mark) n ≡ mark_at new n = mark_there new at mark n other in omega (arith, now, seen) in
        elim (h.closed n t was f) [
          | inl already ↦ seen_stays new at mark t here some already
          | inr last ↦ seen_here new at mark t here some last
        ]
  ];
  found = λ n round. elim (each_marked rows old new from mark at n h some here none) [
    | inl kept ↦ absurd (omega (arith, kept, round.1, round.2))
    | inr fresh ↦
        let target = circular_target rows at (circular_on rows fresh.2.0 n at round.0 fresh.2.1) in
        let low : length rows ≤ target.0 = past target.0 target.2 in
        omega (arith, low, target.1)
  ];
}
  where
    here : at < length new
    here = omega (arith, same, h.within)

-- what was seen holds all that a seen type leads to
closed_leads : (rows : List Row) (marks : List ℕ) → IsClosed rows marks → (k n m : ℕ) → IsSeen marks n → leads rows k n ≡ Some m → IsSeen marks m
closed_leads rows marks closed zero n m seen h = let same : n ≡ m = cc in subst (IsSeen marks) same seen
closed_leads rows marks closed (suc k) n m seen h = by (target_in (def_at rows n)) refl (λ t. closed_leads rows marks closed k t m) h
  where
    by : (o : Option ℕ) → target_in (def_at rows n) ≡ o → ((t : ℕ) → IsSeen marks t → leads rows k t ≡ Some m → IsSeen marks m) → option_and_then (λ t. leads rows k t) o ≡ Some m → IsSeen marks m
    by None e rest h = absurd (cc)
    by (Some t) e rest h = rest t (closed n t seen e) h

-- a walk that meets what was seen has met its own mark, or what was seen before
stopped : (rows : List Row) (old new : List ℕ) (from mark at : ℕ) (met : Option ℕ) → Walking rows old new from mark at → IsSeen new at → HasMet rows old new met → Walked rows old new from mark met
stopped rows old new from mark at met h seen has = record {
  kept = λ n was. elim (h.each n) [ inl same ↦ same | inr fresh ↦ absurd (omega (arith, was, fresh.unseen)) ];
  marked = λ n unseen. elim (h.each n) [ inl same ↦ inl (same ∙ unseen) | inr fresh ↦ inr fresh.marked ];
  first = elim h.first [ inl already ↦ already | inr last ↦ subst (IsSeen new) (sym last) seen ];
  closed = λ n t was e. elim (h.closed n t was e) [ inl already ↦ already | inr last ↦ subst (IsSeen new) (sym last) seen ];
  found = has;
}

fresh_way : (rows : List Row) (old new : List ℕ) (from mark at n : ℕ) → Walking rows old new from mark at → IsNewCircular rows old new n → (k : ℕ) × (leads rows k at ≡ Some n)
fresh_way rows old new from mark at n h round = elim (h.each n) [
  | inl same ↦ absurd (omega (arith, same, round.1, round.2))
  | inr fresh ↦ circular_back rows (suc fresh.way) n at round.0 fresh.leads_here
]

pub walk_meets : (rows : List Row) (old new : List ℕ) (from mark at : ℕ) → Walking rows old new from mark at → 0 < mark → mark_at old at < mark → mark_at new at ≡ mark → Walked rows old new from mark (Some at)
walk_meets rows old new from mark at h some low here =
    stopped rows old new from mark at (Some at) h (omega (arith, some, here)) (h.within, round, λ n other. fresh_way rows old new from mark at n h other)
  where
    round : IsCircular rows at
    round = elim (h.each at) [ inl same ↦ absurd (omega (arith, same, low, here)) | inr fresh ↦ (fresh.way, fresh.leads_here) ]

pub walk_joins : (rows : List Row) (old new : List ℕ) (from mark at : ℕ) → Walking rows old new from mark at → IsClosed rows old → IsSeen new at → (mark_at new at ≡ mark → ⊥) → Walked rows old new from mark None
walk_joins rows old new from mark at h closed seen other =
    stopped rows old new from mark at None h seen (λ n round.
    let way = fresh_way rows old new from mark at n h round in
    let before : IsSeen old n = closed_leads rows old closed way.0 at n was way.1 in
    omega (arith, before, round.1))
  where
    was : IsSeen old at
    was = elim (h.each at) [ inl same ↦ omega (arith, same, seen) | inr fresh ↦ absurd (other fresh.marked) ]

-- a walk more
sought_more : (rows : List Row) (old new : List ℕ) (from : ℕ) (first next met : Option ℕ) → Sought rows old from first → Walked rows old new from (from + 1) met → IsFirstSeen rows new next → Sought rows new (from + 1) next
sought_more rows old new from first next met h walked has = record {
  seen = λ n low. elim (cases_lt n from) [
    | inl before ↦ let was : IsSeen old n = h.seen n before in let same : mark_at new n ≡ mark_at old n = walked.kept n was in omega (arith, was, same)
    | inr last ↦ let here : from ≡ n = omega (arith, low, last) in subst (IsSeen new) here walked.first
  ];
  low = λ n low. elim (cases_eq (mark_at old n) 0) [
    | inl unseen ↦ elim (walked.marked n unseen) [ inl none ↦ omega (arith, none) | inr now ↦ omega (arith, now) ]
    | inr seen ↦
        let same : mark_at new n ≡ mark_at old n = walked.kept n (omega (arith, seen)) in
        let was : mark_at old n ≤ from = h.low n low in
        omega (arith, same, was)
  ];
  closed = walked.closed;
  least = has;
}

-- each type that is a copy of itself was seen before, or is new
new_or_old : (rows : List Row) (old new : List ℕ) (n : ℕ) → IsSeen new n → IsCircular rows n → IsSeen old n ⊎ IsNewCircular rows old new n
new_or_old rows old new n seen round = elim (cases_eq (mark_at old n) 0) [ inl unseen ↦ inr (round, unseen, seen) | inr was ↦ inl (omega (arith, was)) ]

pub sought_no_round : (rows : List Row) (old new : List ℕ) (from : ℕ) (first : Option ℕ) → Sought rows old from first → Walked rows old new from (from + 1) None → Sought rows new (from + 1) first
sought_no_round rows old new from None h walked = sought_more rows old new from None None None h walked
    (λ n seen round. elim (new_or_old rows old new n seen round) [ inl was ↦ h.least n was round | inr fresh ↦ walked.found n fresh ])
sought_no_round rows old new from (Some m) h walked = sought_more rows old new from (Some m) (Some m) None h walked
    (h.least.0, λ n seen round. elim (new_or_old rows old new n seen round) [ inl was ↦ h.least.1 n was round | inr fresh ↦ absurd (walked.found n fresh) ])

pub sought_round : (rows : List Row) (old new : List ℕ) (from at least : ℕ) (first : Option ℕ) → Sought rows old from first → Walked rows old new from (from + 1) (Some at) → IsLeastOfRound rows at least → Sought rows new (from + 1) (Some (lesser first least))
sought_round rows old new from at least None h walked round = sought_more rows old new from None (Some least) (Some at) h walked (
  circular_on rows round.0.0 at least walked.found.1 round.0.1,
  λ n seen again. elim (new_or_old rows old new n seen again) [
    | inl was ↦ absurd (h.least n was again)
    | inr fresh ↦ let way = walked.found.2 n fresh in round.1 way.0 n way.1
  ],
)
sought_round rows old new from at least (Some m) h walked round = sought_more rows old new from (Some m) (Some (min m least)) (Some at) h walked (
  one,
  λ n seen again. elim (new_or_old rows old new n seen again) [
    | inl was ↦ let low : m ≤ n = h.least.1 n was again in omega (arith, low)
    | inr fresh ↦ let way = walked.found.2 n fresh in let low : least ≤ n = round.1 way.0 n way.1 in omega (arith, low)
  ],
)
  where
    one : IsCircular rows (min m least)
    one = elim (cases_lt least m) [
      | inl less ↦ let same : least ≡ min m least = omega (arith, less) in subst (IsCircular rows) same (circular_on rows round.0.0 at least walked.found.1 round.0.1)
      | inr more ↦ let same : m ≡ min m least = omega (arith, more) in subst (IsCircular rows) same h.least.0
    ]

-- once there were walks from all types
all_seen : (rows : List Row) (marks : List ℕ) (count : ℕ) (first : Option ℕ) → length rows ≤ count → Sought rows marks count first → (n : ℕ) → IsCircular rows n → IsSeen marks n
all_seen rows marks count first all h n round = h.seen n (let low : n < length rows = copy_here rows round.0 n n round.1 in omega (arith, low, all))

pub found_none : (rows : List Row) (marks : List ℕ) (count : ℕ) (first : Option ℕ) → length rows ≤ count → Sought rows marks count first → first ≡ None → NoneIsCircular rows
found_none rows marks count first all h none n round =
    let last : IsFirstSeen rows marks None = subst (λ o. IsFirstSeen rows marks o) none h.least in
    last n (all_seen rows marks count first all h n round) round

pub found_first : (rows : List Row) (marks : List ℕ) (count : ℕ) (first : Option ℕ) → length rows ≤ count → Sought rows marks count first → IfSome first (λ n. (n < length rows) × FirstIsCircular rows n)
found_first rows marks count None all h = tt
found_first rows marks count (Some n) all h = (
  copy_here rows h.least.0.0 n n h.least.0.1,
  (
    h.least.0,
    λ m less round.
        let low : n ≤ m = h.least.1 m (all_seen rows marks count (Some n) all h m round) round in
        omega (arith, low, less),
  ),
)
