-- The ends of copies, kept one way after the other.
use Rattle.std.proofs.Common.{◌≡◌, ℕ, zero, suc, ◌<◌, ◌≤◌, ◌+◌, ◌-◌, true, false, List, [], ◌∷◌, Option, Some, None, length, get_or, set, is_some, refl, ap, sym, ◌∙◌, subst, inl, inr, arith, get_or-set_same, get_or-set_other, length-set}
use Rattle.std.proofs.lemmas.Bool.{cases_eq}
use Rattle.std.specs.Option.{option_map, option_and_then, option_map_or}
use Rattle.std.proofs.lemmas.Option.{slice_get_read}
use Rattle.ild_schema.specs.declared.number.TypeNo.{TypeNo}
use Rattle.ild_schema.specs.declared.def.TypeDef.{TypeDef}
use Rattle.ild_schema.specs.declared.def.TypeDef.TheVariants as D
use Rattle.ild_schema.specs.declared.row.Row.{Row}
use Rattle.ild_schema.specs.Copies.{target_of, target_in, followed, leads, base}
use Rattle.ild_schema.specs.Ends.{kept_at, IsEnded, AreEnds, HasEnds}
use Rattle.ild_schema.specs.Rows.{def_at}
use Rattle.ild_schema.specs.Table.{IsTable, IsWithin}
use Rattle.ild_schema.proofs.Circles.{circular_after, leads_on}
use Rattle.ild_schema.proofs.Copying.{followed_ends, not_copy, copy_within}
use Rattle.ild_schema.proofs.Ending.{base_ends, base_reached, base_no_copy, leads_within}

-- a row of a table, as it is read
pub row_read : (rows : List Row) (n : ℕ) (r : Row) → n < length rows → r ≡ get_or rows n r → def_at rows n ≡ Some r.def
row_read rows n r within is = ap (λ o. option_map (λ (r : Row). r.def) o) (slice_get_read rows (length rows) n r refl within is)

pub within_read : (rows : List Row) (n : ℕ) (r : Row) → IsTable rows → n < length rows → r ≡ get_or rows n r → IsWithin (length rows) r.def
within_read rows n r table within is = subst (λ (r : Row). IsWithin (length rows) r.def) (sym is) (table.within n r within)

-- nothing is followed beyond an end
followed_more : (rows : List Row) (k n : ℕ) → target_in (def_at rows (followed rows k n)) ≡ None → followed rows (suc k) n ≡ followed rows k n
followed_more rows zero n ends = ap (λ o. option_map_or (λ t. followed rows zero t) o n) ends
followed_more rows (suc k) n ends = by (target_in (def_at rows n)) refl (λ t. followed_more rows k t)
  where
    by : (o : Option ℕ) → target_in (def_at rows n) ≡ o
        → ((t : ℕ) → target_in (def_at rows (followed rows k t)) ≡ None → followed rows (suc k) t ≡ followed rows k t)
        → option_map_or (λ t. followed rows (suc k) t) (target_in (def_at rows n)) n ≡ option_map_or (λ t. followed rows k t) (target_in (def_at rows n)) n
    by None e rest = ap (λ o. option_map_or (λ t. followed rows (suc k) t) o n) e ∙ sym (ap (λ o. option_map_or (λ t. followed rows k t) o n) e)
    by (Some t) e rest =
        let last : target_in (def_at rows (followed rows k t)) ≡ None = ap (λ o. target_in (def_at rows (option_map_or (λ t. followed rows k t) o n))) (sym e) ∙ ends in
        ap (λ o. option_map_or (λ t. followed rows (suc k) t) o n) e ∙ rest t last ∙ sym (ap (λ o. option_map_or (λ t. followed rows k t) o n) e)

-- a copy leads where its target leads
pub base_target : (rows : List Row) (n t : ℕ) → IsTable rows → n < length rows → target_in (def_at rows n) ≡ Some t → base rows n ≡ base rows t
base_target rows n t table within is =
    let count : length rows ≡ suc (length rows - 1) = omega (arith, within) in
    let one : followed rows (suc (length rows - 1)) n ≡ followed rows (length rows - 1) t = ap (λ o. option_map_or (λ t. followed rows (length rows - 1) t) o n) is in
    let here : base rows n ≡ followed rows (length rows - 1) t = ap (λ k. followed rows k n) count ∙ one in
    let ends : target_in (def_at rows (followed rows (length rows - 1) t)) ≡ None = ap (λ m. target_in (def_at rows m)) (sym here) ∙ base_ends rows n table.within within table.none_circular in
    here ∙ sym (followed_more rows (length rows - 1) t ends) ∙ sym (ap (λ k. followed rows k t) count)

-- a type that is no copy leads to itself
pub base_itself : (rows : List Row) (n : ℕ) → target_in (def_at rows n) ≡ None → base rows n ≡ n
base_itself rows n is = followed_ends rows (length rows) n is

-- as many copies as there are types can't be followed
pub not_so_long : (rows : List Row) (n m k : ℕ) → IsTable rows → n < length rows → length rows ≤ k → leads rows k n ≡ Some m → ⊥
not_so_long rows n m k table within long h =
    table.none_circular m (circular_after rows k n m long (λ i v low g. leads_within rows i n v table.within within g) h)

-- one copy more
pub leads_next : (rows : List Row) (i n m t : ℕ) → leads rows i n ≡ Some m → target_in (def_at rows m) ≡ Some t → leads rows (i + 1) n ≡ Some t
leads_next rows i n m t h is =
    leads_on rows i 1 n ∙ ap (λ o. option_and_then (λ m. leads rows 1 m) o) h ∙ ap (λ o. option_and_then (λ t. leads rows zero t) o) is

-- a way from a type: so many copies lead on, and the end stays the same
pub record Going (rows : List Row) (from i at : ℕ) : Type 0 where
  pub within : at < length rows
  pub leads_here : leads rows i from ≡ Some at
  pub same : base rows at ≡ base rows from

pub going_on : (rows : List Row) (from i at : ℕ) (d : TypeDef) (target : TypeNo) → IsTable rows → Going rows from i at → def_at rows at ≡ Some d → IsWithin (length rows) d → d ≡ D.Copy target → Going rows from (i + 1) target.0
going_on rows from i at d target table going is within copy =
    let to : target_in (def_at rows at) ≡ Some target.0 = ap target_in is ∙ ap target_of copy in
    record {
      within = copy_within (length rows) d target within copy;
      leads_here = leads_next rows i from at target.0 going.leads_here to;
      same = sym (base_target rows at target.0 table going.within to) ∙ going.same;
    }

pub going_ends : (rows : List Row) (from i at : ℕ) (d : TypeDef) → Going rows from i at → def_at rows at ≡ Some d → ((target : TypeNo) → d ≡ D.Copy target → ⊥) → at ≡ base rows from
going_ends rows from i at d going is other = sym (base_itself rows at (ap target_in is ∙ not_copy d other)) ∙ going.same

-- what is kept, read at a place
kept_read : (ends : List (Option TypeNo)) (n : ℕ) → kept_at ends n ≡ get_or ends n None
kept_read [] n = refl
kept_read (e ∷ es) zero = refl
kept_read (e ∷ es) (suc n) = kept_read es n

pub kept_end : (rows : List Row) (ends : List (Option TypeNo)) (from i at : ℕ) (end : TypeNo) → AreEnds rows ends → Going rows from i at → get_or ends at None ≡ Some end → end.0 ≡ base rows from
kept_end rows ends from i at end kept going h = kept.right at end (kept_read ends at ∙ h) ∙ going.same

-- ---- one end more

kept_here : (ends : List (Option TypeNo)) (at : ℕ) (end : TypeNo) → at < length ends → kept_at (set ends at (Some end)) at ≡ Some end
kept_here ends at end within = kept_read (set ends at (Some end)) at ∙ get_or-set_same ends at (Some end) None within

kept_other : (ends : List (Option TypeNo)) (at n : ℕ) (end : TypeNo) → (n ≡ at → ⊥) → kept_at (set ends at (Some end)) n ≡ kept_at ends n
kept_other ends at n end other = kept_read (set ends at (Some end)) n ∙ get_or-set_other ends at n (Some end) None other ∙ sym (kept_read ends n)

ended_here : (rows : List Row) (ends : List (Option TypeNo)) (at n : ℕ) (end : TypeNo) → at < length ends → end.0 ≡ base rows at → n ≡ at → IsEnded rows (set ends at (Some end)) n
ended_here rows ends at n end within is same =
    subst (λ m. IsEnded rows (set ends at (Some end)) m) (sym same) (ap (λ o. option_map_or (λ e. e.0) o at) (kept_here ends at end within) ∙ is)

ended_other : (rows : List Row) (ends : List (Option TypeNo)) (at n : ℕ) (end : TypeNo) → (n ≡ at → ⊥) → IsEnded rows ends n → IsEnded rows (set ends at (Some end)) n
ended_other rows ends at n end other h = ap (λ o. option_map_or (λ e. e.0) o n) (kept_other ends at n end other) ∙ h

-- ends that are kept along a way: the first is kept as soon as the way goes on, and none is lost
pub record KeepingEnds (rows : List Row) (old : List (Option TypeNo)) (from i at : ℕ) (ends : List (Option TypeNo)) : Type 0 where
  pub going : Going rows from i at
  pub kept : AreEnds rows ends
  pub first : (i ≡ 0 → at ≡ from) × (0 < i → IsEnded rows ends from)
  pub stays : (n : ℕ) → IsEnded rows old n → IsEnded rows ends n

pub keeping_goes : (rows : List Row) (old : List (Option TypeNo)) (from i at : ℕ) (ends : List (Option TypeNo)) (d : TypeDef) (target end : TypeNo) → IsTable rows → end.0 ≡ base rows from
    → KeepingEnds rows old from i at ends → def_at rows at ≡ Some d → IsWithin (length rows) d → d ≡ D.Copy target → KeepingEnds rows old from (i + 1) target.0 (set ends at (Some end))
keeping_goes rows old from i at ends d target end table is k here within copy =
    let low : at < length ends = omega (arith, k.going.within, k.kept.count) in
    let at_end : end.0 ≡ base rows at = is ∙ sym k.going.same in
    record {
      going = going_on rows from i at d target table k.going here within copy;
      kept = record {
        count = length-set ends at (Some end) ∙ k.kept.count;
        right = λ n e h. elim (cases_eq n at) [
          | inl same ↦
              let kept_is : Some end ≡ Some e = sym (kept_here ends at end low) ∙ ap (λ m. kept_at (set ends at (Some end)) m) (sym same) ∙ h in
              let e_is : end ≡ e = cc in
              ap (λ (t : TypeNo). t.0) (sym e_is) ∙ at_end ∙ ap (λ m. base rows m) (sym same)
          | inr other ↦ k.kept.right n e (sym (kept_other ends at n end other) ∙ h)
        ];
      };
      first = (
        (λ h. absurd (omega arith)),
        λ h. elim (cases_eq from at) [
          | inl same ↦ ended_here rows ends at from end low at_end same
          | inr other ↦ ended_other rows ends at from end other (later other)
        ],
      );
      stays = λ n h. elim (cases_eq n at) [
        | inl same ↦ ended_here rows ends at n end low at_end same
        | inr other ↦ ended_other rows ends at n end other (k.stays n h)
      ];
    }
  where
    later : (from ≡ at → ⊥) → IsEnded rows ends from
    later other = elim (cases_eq i 0) [
      | inl none ↦ absurd (other (sym (k.first.0 none)))
      | inr some ↦ k.first.1 (omega (arith, some))
    ]

-- where a way stops, its first type has its end
pub keeping_stops : (rows : List Row) (old : List (Option TypeNo)) (from i at : ℕ) (ends : List (Option TypeNo)) → KeepingEnds rows old from i at ends → IsEnded rows ends at → IsEnded rows ends from
keeping_stops rows old from i at ends k here = elim (cases_eq i 0) [
  | inl none ↦ subst (λ n. IsEnded rows ends n) (k.first.0 none) here
  | inr some ↦ k.first.1 (omega (arith, some))
]

pub ended_kept : (rows : List Row) (ends : List (Option TypeNo)) (at : ℕ) → AreEnds rows ends → is_some (get_or ends at None) ≡ true → IsEnded rows ends at
ended_kept rows ends at kept h = by (get_or ends at None) refl h
  where
    by : (o : Option TypeNo) → get_or ends at None ≡ o → is_some o ≡ true → IsEnded rows ends at
    by None e h = absurd cc
    by (Some end) e h = ap (λ o. option_map_or (λ e. e.0) o at) (kept_read ends at ∙ e) ∙ kept.right at end (kept_read ends at ∙ e)

pub ended_itself : (rows : List Row) (ends : List (Option TypeNo)) (at : ℕ) (d : TypeDef) → is_some (get_or ends at None) ≡ false → def_at rows at ≡ Some d → ((target : TypeNo) → d ≡ D.Copy target → ⊥) → IsEnded rows ends at
ended_itself rows ends at d h is other = by (get_or ends at None) refl h
  where
    by : (o : Option TypeNo) → get_or ends at None ≡ o → is_some o ≡ false → IsEnded rows ends at
    by None e h = ap (λ o. option_map_or (λ e. e.0) o at) (kept_read ends at ∙ e) ∙ sym (base_itself rows at (ap target_in is ∙ not_copy d other))
    by (Some end) e h = absurd cc

-- ---- the ends of so many types

pub record Kept (rows : List Row) (count : ℕ) (ends : List (Option TypeNo)) : Type 0 where
  pub kept : AreEnds rows ends
  pub so_far : (n : ℕ) → n < count → IsEnded rows ends n

pub kept_more : (rows : List Row) (count : ℕ) (old new : List (Option TypeNo)) → Kept rows count old → AreEnds rows new → IsEnded rows new count → ((n : ℕ) → IsEnded rows old n → IsEnded rows new n) → Kept rows (count + 1) new
kept_more rows count old new h kept here stays = record {
  kept = kept;
  so_far = λ n low. elim (cases_eq n count) [
    | inl same ↦ subst (λ m. IsEnded rows new m) (sym same) here
    | inr other ↦ stays n (h.so_far n (omega arith))
  ];
}

-- ---- what is kept, read

-- the end of a type
pub record EndsAt (rows : List Row) (n m : ℕ) : Type 0 where
  pub same : m ≡ base rows n
  pub within : m < length rows
  pub reached : (k : ℕ) × (leads rows k n ≡ Some m)
  pub end : target_in (def_at rows m) ≡ None

pub ends_at : (rows : List Row) (n m : ℕ) → IsTable rows → n < length rows → m ≡ base rows n → EndsAt rows n m
ends_at rows n m table within same =
    let way = base_reached rows n m same in
    record {
      same = same;
      within = leads_within rows way.0 n m table.within within way.1;
      reached = way;
      end = base_no_copy rows n m same table within table.none_circular;
    }

pub end_read : (rows : List Row) (ends : List (Option TypeNo)) (n : ℕ) (x o : Option TypeNo) → HasEnds rows ends → n < length rows → x ≡ get_or ends n x → x ≡ o → option_map_or (λ e. e.0) o n ≡ base rows n
end_read rows ends n x o h within read is =
    let here : kept_at ends n ≡ x = ap (λ p. option_and_then (λ end. end) p) (slice_get_read ends (length rows) n x (sym h.count) within read) in
    ap (λ p. option_map_or (λ e. e.0) p n) (sym (here ∙ is)) ∙ h.ended n within
